use Rattle.std.proofs.Common.{List, take, sym, subst, arith}
use Rattle.std.proofs.lemmas.List.{take_more, take_all}
use Rattle.indexmap.specs.IndexMap.{get}
use Rattle.least_words.specs.Types.{Oid, Place}
use Rattle.least_words.specs.MachineWords.{same_oid}
use Rattle.least_words.specs.inside.Groups.{AreEnds}
use Rattle.least_words.proofs.TurnLaws.{no_place}
use Rattle.least_words.proofs.least.ends_of.Goals as goal

pub places-preserved : goal.places-preserved
places-preserved c =
    let places = c.args.places.now in
    subst (λ (l : List Place). (oid : Oid) → AreEnds l oid (get same_oid c.put_end.new.ends oid))
    (sym (take_more places c.places.place-index no_place c.places-test.true))
    (c.in_ok-put_end.ensures (take c.places.place-index places) c.places.invariant)

pub returns : goal.returns
returns c =
    let places = c.args.places.now in
    subst (λ (l : List Place). (oid : Oid) → AreEnds l oid (get same_oid c.places.ends oid))
    (take_all c.places.place-index places (omega (arith, c.places-test.false)))
    c.places.invariant
