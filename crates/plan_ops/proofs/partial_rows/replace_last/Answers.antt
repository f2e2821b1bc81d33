use Rattle.std.proofs.Common.{List, map, set, ap, subst}
use Rattle.std.specs.Result.{OnOk}
use Rattle.std.proofs.lemmas.Result.{on_ok_weaker}
use Rattle.plan_ops.specs.Types.{Oid}
use Rattle.plan_ops.specs.inside.Offers.{Fill, Lend, IsReplaced}
use Rattle.plan_ops.proofs.TurnLaws.{replaced_alike}
use Rattle.plan_ops.proofs.partial_rows.replace_last.Goals as goal

pub returns-in-Fill-clause-ok : goal.returns-in-Fill-clause-ok
returns-in-Fill-clause-ok c =
    rw c.in-Fill.is (subst (λ (l : List Oid). OnOk c.fill_all.result (IsReplaced c.args.next (Fill c.in-Fill.slot l) c.args.partials.now.items c.fill_all.new.partials.items))
    c.as_slice.ensures c.fill_all.ensures.ok)

pub returns-in-Lend-clause-ok : goal.returns-in-Lend-clause-ok
returns-in-Lend-clause-ok c =
    rw c.in-Lend.is (on_ok_weaker c.fill_all-in-Lend.result
    (replaced_alike c.args.next (Fill c.in-Lend.slot c.as_slice-in-Lend.result.now) (Lend c.in-Lend.slot c.in-Lend.oids) c.args.partials.now.items c.fill_all-in-Lend.new.partials.items
    (λ row. ap (map (set row c.in-Lend.slot)) c.as_slice-in-Lend.ensures)) c.fill_all-in-Lend.ensures.ok)

pub returns-in-Reject-clause-ok : goal.returns-in-Reject-clause-ok
returns-in-Reject-clause-ok c = rw c.in-Reject.is (c.drop_last.ensures c.args.next)
