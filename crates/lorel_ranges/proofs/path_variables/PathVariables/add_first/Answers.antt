use Rattle.std.proofs.Common.{◌≡◌, ◌∙◌, sym, ap, ℕ, List, [], ◌∷◌, ◌++◌, map, not, Bor, None, is_some}
use Rattle.std.specs.Cmp.Lexicographic.{pointwise}
use Rattle.std.specs.Prelude.{nat_eq}
use Rattle.std.proofs.lemmas.List.{map-append}
use Rattle.indexmap.specs.IndexMap.{get}
use Rattle.indexmap.proofs.CallerLemmas.{insert_entry-new}
use Rattle.lorel_ranges.specs.Places.{Place, word_place}
use Rattle.lorel_ranges.specs.Views.{place_tree}
use Rattle.lorel_ranges.specs.inside.Scopes.{places_found}
use Rattle.lorel_ranges.specs.declared.places.Place as declared
use Rattle.lorel_ranges.proofs.PathVariableLaws.{no_place, still_some, alike_kept}
use Rattle.lorel_ranges.proofs.path_variables.PathVariables.add_first.Goals as goal

pub returns-in_ok-insert : goal.returns-in_ok-insert
returns-in_ok-insert c = λ variable.
    let seen : Bor (List ℕ) × declared.Place → List ℕ × Place = λ entry. (entry.0.now, place_tree entry.1) in
    let key = c.as_bytes.result in
    let map_now = c.args.self.now.places in
    let absent : get (λ (a b : Bor (List ℕ)). pointwise nat_eq a.now b.now) map_now key ≡ None =
    no_place map_now.entries key.now c.place.result
    (c.place.ensures ∙ ap (word_place (places_found c.args.self.now)) (sym c.as_bytes.ensures)) (c.is_none.ensures ∙ ap not c.if-is_none.true) in
    ap (λ l. word_place l variable)
    (ap (map seen) (c.in_ok-insert.ensures.entries ∙ insert_entry-new (λ (a b : Bor (List ℕ)). pointwise nat_eq a.now b.now) map_now key c.args.place absent)
    ∙ map-append seen map_now.entries ((key, c.args.place) ∷ [])
    ∙ ap (λ (text : List ℕ). places_found c.args.self.now ++ (text, place_tree c.args.place) ∷ []) c.as_bytes.ensures)

pub returns-else-is_none : goal.returns-else-is_none
returns-else-is_none c =
    alike_kept (places_found c.args.self.now) c.args.own.now (place_tree c.args.place)
    (ap is_some (sym c.place.ensures) ∙ still_some c.place.result ∙ c.if-is_none.ensures)
