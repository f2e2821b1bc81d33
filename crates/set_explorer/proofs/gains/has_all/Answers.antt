use Rattle.std.proofs.Common.{List, All, Contains, subst}
use Rattle.std.proofs.lemmas.List.{take_all}
use Rattle.std.proofs.lemmas.List.Elements.{All-more}
use Rattle.set_explorer.specs.Types.{Oid}
use Rattle.set_explorer.proofs.gains.has_all.Goals as goal

pub oids-preserved : goal.oids-preserved
oids-preserved c =
    All-more (Contains c.args.set.now) c.args.oids.now c.oids.oid-index (record { 0 = 0 }) c.oids-test.true c.oids.invariant
    (c.contains.ensures.0 c.if-not-contains.false)

pub returns : goal.returns
returns c = λ yes. subst (λ (l : List Oid). All (Contains c.args.set.now) l)
    (take_all c.oids.oid-index c.args.oids.now c.oids-test.false) c.oids.invariant
