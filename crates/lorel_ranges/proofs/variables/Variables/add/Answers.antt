use Rattle.std.proofs.Common.{◌≡◌, ◌∙◌, ap, ℕ, List, [], ◌∷◌, ◌++◌, map, Bor, None}
use Rattle.std.specs.Cmp.Lexicographic.{pointwise}
use Rattle.std.specs.Prelude.{nat_eq}
use Rattle.std.proofs.lemmas.List.{map-append}
use Rattle.indexmap.specs.IndexMap.{get}
use Rattle.indexmap.proofs.CallerLemmas.{insert_entry-new}
use Rattle.lorel_ranges.specs.Scopes.{linked}
use Rattle.lorel_ranges.proofs.ScopeLaws.{linked-by_reference}
use Rattle.lorel_ranges.proofs.variables.Variables.add.Goals as goal

pub returns-clause-ok : goal.returns-clause-ok
returns-clause-ok c =
    let seen : Bor (List ℕ) × ℕ → List ℕ × ℕ = λ entry. (entry.0.now, entry.1) in
    let key = c.as_bytes.result in
    let numbers = c.self.inside.numbers in
    let absent : get (λ (a b : Bor (List ℕ)). pointwise nat_eq a.now b.now) numbers key ≡ None =
    linked-by_reference numbers.entries key.now ∙ ap (λ variables. linked variables key.now) c.self.view_is
    ∙ ap (linked c.args.self.now) c.as_bytes.ensures ∙ c.requires in
    ap (map seen) (c.in_ok-insert.ensures.entries ∙ insert_entry-new (λ (a b : Bor (List ℕ)). pointwise nat_eq a.now b.now) numbers key c.args.number absent)
    ∙ map-append seen numbers.entries ((key, c.args.number) ∷ [])
    ∙ ap (λ front. front ++ (key.now, c.args.number) ∷ []) c.self.view_is
    ∙ ap (λ (text : List ℕ). c.args.self.now ++ (text, c.args.number) ∷ []) c.as_bytes.ensures
