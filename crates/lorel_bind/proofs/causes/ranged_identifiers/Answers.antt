use Rattle.std.proofs.Common.{[], ◌++◌, refl, ap, ◌∙◌, subst}
use Rattle.lorel_ranges.specs.Views.{texts}
use Rattle.lorel_bind.specs.inside.Causes.{HasNoted}
use Rattle.lorel_bind.proofs.TextCauseLaws.{HasNoted-none}
use Rattle.lorel_bind.proofs.causes.ranged_identifiers.Goals as goal

pub returns : goal.returns
returns c =
    let text = c.args.text.now in
    let none = HasNoted-none _ c.new.ensures.empty refl in
    let lists = (let a = c.as_slice.ensures.value in let b = c.as_slice-2.ensures.value in
    ap (λ l. texts l ++ texts c.as_slice-2.result.now) a ∙ ap (λ l. texts text.from.ranged.items ++ texts l) b) in
    subst (λ l. HasNoted l c.note_all-2.new.self) lists
    (c.in_ok-note_all-2.ensures (texts c.as_slice.result.now) (c.in_ok-note_all.ensures [] none))
