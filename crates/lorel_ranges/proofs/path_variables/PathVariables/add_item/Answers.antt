use Rattle.std.proofs.Common.{ℕ, List, ◌++◌, OnOk, subst}
use Rattle.lorel_ranges.specs.Places.{Place}
use Rattle.lorel_ranges.specs.inside.Scopes.{FindAlike, places_found}
use Rattle.lorel_ranges.specs.Views.{place_tree}
use Rattle.lorel_ranges.proofs.PathVariableLaws.{item_alone}
use Rattle.lorel_ranges.proofs.path_variables.PathVariables.add_item.Goals as goal

pub returns-in-Some-Some : goal.returns-in-Some-Some
returns-in-Some-Some c =
    let item = c.args.item.now in
    subst (λ (l : List (List ℕ × Place)). OnOk c.add_first.result (FindAlike (places_found c.add_first.new.self) (places_found c.args.self.now ++ l)))
    (item_alone item.word item.variable c.in-Some-Some.own c.in-Some-Some.variable (place_tree c.variable_place.result)
    c.in-Some-Some.is-0 c.in-Some-Some.is-1 c.variable_place.ensures)
    c.add_first.ensures
