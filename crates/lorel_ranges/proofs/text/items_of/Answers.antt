use Rattle.std.proofs.Common.{ℕ, List, map, subst}
use Rattle.std.proofs.lemmas.Result.{IfOk-weaker}
use Rattle.lorel_trees.specs.Trees.{from_tree, item_tree, select_tree}
use Rattle.lorel_ranges.specs.Places.{Scope, Place, path_variables}
use Rattle.lorel_ranges.specs.Scopes.{IsScope, names_of}
use Rattle.lorel_ranges.specs.inside.Scopes.{FindAlike, places_found}
use Rattle.lorel_ranges.specs.declared.text.ShownItems.{ShownItems}
use Rattle.lorel_ranges.specs.Readings.{ReadsItems}
use Rattle.lorel_ranges.proofs.text.items_of.Goals as goal

pub returns : goal.returns
returns c =
    let query = select_tree c.args.query.now in
    let known = path_variables query.tail.ranges in
    let words = places_found c.in_ok-words.words in
    let alike = subst (λ l. FindAlike words (path_variables (map from_tree l))) c.as_slice-ranges.ensures c.in_ok-words.ensures in
    IfOk-weaker c.item_text-items.result
    (λ (items : ShownItems). (scope : Scope) (given : List (List ℕ × Place)) → IsScope (names_of c.args.variables.now) scope → FindAlike words given
    → ReadsItems scope given (map item_tree c.as_slice.result.now) items)
    (λ (items : ShownItems). (scope : Scope) → IsScope (names_of c.args.variables.now) scope → ReadsItems scope known query.items items)
    (λ items reads scope is. subst (λ l. ReadsItems scope known (map item_tree l) items) c.as_slice.ensures (reads scope known is alike)) c.item_text-items.ensures
