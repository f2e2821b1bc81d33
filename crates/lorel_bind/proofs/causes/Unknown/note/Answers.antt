use Rattle.std.proofs.Common.{ℕ, List, refl, sym, ap, ◌∙◌, Contains, Bor, subst}
use Rattle.std.proofs.lemmas.Option.{same_Some}
use Rattle.lorel_ranges.specs.Views.{place_tree, texts}
use Rattle.lorel_bind.proofs.TextCauseLaws.{HasMet-bound, HasMet-ranged, HasMet-unranged, found_text, missed_text}
use Rattle.lorel_bind.proofs.causes.Unknown.note.Goals as goal

pub returns-in-Some : goal.returns-in-Some
returns-in-Some c = λ earlier met.
    let keys = c.args.ranged.now.keys in
    let there = found_text keys c.as_bytes.result.now (sym c.contains.ensures ∙ c.if-contains.true) in
    HasMet-ranged c.args.names.now (texts keys) earlier (place_tree c.args.place.now) c.args.self.now _ met c.in-Some.start.now
    c.in-Some.ensures.found.0 c.in-Some.ensures.found.1 refl refl (subst (λ (text : List ℕ). Contains (texts keys) text) c.as_bytes.ensures there)

pub returns-in-Some-2 : goal.returns-in-Some-2
returns-in-Some-2 c = λ earlier met.
    let keys = c.args.ranged.now.keys in
    let missed = missed_text keys c.as_bytes.result.now (sym c.contains.ensures ∙ c.if-contains.false) in
    let same = same_Some _ _ (sym c.in-Some.is ∙ c.in-Some-2.is) in
    let text = c.as_bytes.ensures ∙ ap (λ (start : Bor (List ℕ)). start.now) same in
    HasMet-unranged c.args.names.now (texts keys) earlier (place_tree c.args.place.now) c.args.self.now _ met c.in-Some-2.field-0.now
    c.in-Some-2.ensures.found.0 c.in-Some-2.ensures.found.1 refl refl (subst (λ (text : List ℕ). Contains (texts keys) text → ⊥) text missed)

pub returns-in-None : goal.returns-in-None
returns-in-None c = λ earlier met.
    HasMet-bound c.args.names.now (texts c.args.ranged.now.keys) earlier (place_tree c.args.place.now) c.args.self.now _ met refl c.in-None.ensures.none
