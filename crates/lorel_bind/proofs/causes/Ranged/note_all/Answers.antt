use Rattle.std.proofs.Common.{ℕ, List, [], ◌∷◌, ◌++◌, take, Bor, subst, sym, ap, ◌∙◌, append_assoc}
use Rattle.std.proofs.lemmas.List.{take_all}
use Rattle.list_laws.proofs.PartLaws.{map_more_read}
use Rattle.lorel_ranges.specs.Views.{texts}
use Rattle.lorel_bind.specs.inside.Causes.{HasNoted}
use Rattle.lorel_bind.proofs.causes.Ranged.note_all.Goals as goal

pub identifiers-preserved : goal.identifiers-preserved
identifiers-preserved c = λ earlier noted.
    let list = c.args.identifiers.now in
    let front = texts (take c.identifiers.identifier-index list) in
    let more = ap (λ l. earlier ++ l) (map_more_read (λ (text : Bor (List ℕ)). text.now) list c.identifiers.identifier-index c.identifier-item.result c.identifiers-test.true c.identifier-item.is)
    ∙ sym (append_assoc earlier front (c.identifier-item.result.now ∷ [])) in
    subst (λ l. HasNoted l c.note.new.self) (sym more) (c.in_ok-note.ensures (earlier ++ front) (c.identifiers.invariant earlier noted))

pub returns : goal.returns
returns c = λ earlier noted.
    subst (λ l. HasNoted (earlier ++ texts l) c.identifiers.self) (take_all c.identifiers.identifier-index c.args.identifiers.now c.identifiers-test.false)
    (c.identifiers.invariant earlier noted)
