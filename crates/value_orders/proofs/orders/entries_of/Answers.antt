use Rattle.std.proofs.Common.{refl, ap, sym, ◌∙◌, arith}
use Rattle.value_orders.proofs.SortLaws.{own-more, own-same, own-end}
use Rattle.value_orders.proofs.orders.entries_of.Goals as goal
use Rattle.value_orders.proofs.orders.entries_of.Goals.{then-is_of+in_ok-push, else-is_of}

pub entries-preserved : goal.entries-preserved
entries-preserved c =
    elim c.if-is_of.branch [
      | then-is_of+in_ok-push w ↦
          own-more c.args.kind _ _ _ c.entries-test.true c.entry-item.is (sym w.if-is_of.ensures) _ _ _ refl c.entries.invariant (ap (λ v. v.items) w.own-is ∙ w.in_ok-push.ensures.items)
      | else-is_of w ↦
          own-same c.args.kind _ _ _ c.entries-test.true c.entry-item.is (sym w.if-is_of.ensures) _ _ c.entries.invariant (ap (λ v. v.items) w.own-is)
    ]

pub returns : goal.returns
returns c = own-end c.args.kind _ _ (omega arith) _ c.entries.invariant
