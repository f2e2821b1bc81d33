use Rattle.std.proofs.Common.{◌<◌, List, IfOk, AllPairs, Contains, sym, subst}
use Rattle.std.proofs.lemmas.Result.{IfOk-weaker}
use Rattle.lore_base.specs.TargetSets.{ListsInOrder}
use Rattle.row_hints.specs.Types.{Oid}
use Rattle.row_hints.proofs.FitLaws.{common_turned}
use Rattle.row_hints.proofs.lists.looked_up.Goals as goal

pub those_among-requires-clause-oids : goal.those_among-requires-clause-oids
those_among-requires-clause-oids c = subst (AllPairs (λ (a b : Oid). a.0 < b.0)) (sym c.as_slice.ensures) c.requires.few

pub returns-clause-own : goal.returns-clause-own
returns-clause-own c =
    subst (λ (l : List Oid). IfOk c.those_among.result (ListsInOrder (λ oid. Contains l oid × Contains c.args.many.now oid)))
    c.as_slice.ensures c.those_among.ensures

pub returns-clause-turned : goal.returns-clause-turned
returns-clause-turned c =
    IfOk-weaker c.those_among.result _ _ (λ kept lists. common_turned c.args.many.now c.args.few.now kept lists)
    (subst (λ (l : List Oid). IfOk c.those_among.result (ListsInOrder (λ oid. Contains l oid × Contains c.args.many.now oid)))
    c.as_slice.ensures c.those_among.ensures)
