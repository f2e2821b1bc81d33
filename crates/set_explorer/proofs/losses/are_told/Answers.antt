use Rattle.std.proofs.Common.{List, All, Contains, subst}
use Rattle.std.proofs.lemmas.List.{take_all}
use Rattle.set_explorer.specs.Types.{Oid, Label}
use Rattle.set_explorer.proofs.LossLaws.{told-more}
use Rattle.set_explorer.proofs.losses.are_told.Goals as goal

pub row-preserved : goal.row-preserved
row-preserved c =
    told-more c.args.told.now c.args.row.now c.row.step-index c.step-item.result c.row-test.true c.step-item.is c.row.invariant
    (subst (λ (l : List Oid). All (Contains c.args.told.now) l) c.as_slice.ensures.oids
    (c.has_all.ensures c.if-not-has_all.false))

pub returns : goal.returns
returns c = λ yes. subst (λ (l : List (Label × List Oid)). All (λ (s : Label × List Oid). All (Contains c.args.told.now) s.1) l)
    (take_all c.row.step-index c.args.row.now c.row-test.false) c.row.invariant
