use Rattle.std.proofs.Common.{true≢false, refl, sym, ◌∙◌}
use Rattle.sorted_list.specs.SortedLists.{Ascends}
use Rattle.sorted_list.proofs.ListedLaws.{not_found, listed}
use Rattle.value_orders.specs.EntryOrder.{entry_order, order_total}
use Rattle.value_orders.proofs.KeyLaws.{exact_order, found-there, to-order}
use Rattle.value_index.proofs.leaving.is_there.Goals as goal

pub returns-in-Ok : goal.returns-in-Ok
returns-in-Ok c = (
  λ _. found-there _ _ _ _ _ c.in-Ok.ensures.bound (c.in-Ok.ensures.position c.args.entry.now),
  λ _. refl,
)

pub returns-in-Err : goal.returns-in-Err
returns-in-Err c =
    let order = c.new.result in
    let ascend = to-order (λ o. Ascends o c.args.entries.now) order _ _ c.new.ensures.values c.new.ensures.kind c.requires.ascend in
    let absent = not_found (entry_order order.values order.kind) (order_total order.values order.kind) _ ascend c.args.entry.now _ c.in-Err.ensures.position in (
      λ no. absurd (true≢false (sym no)),
      λ at. absurd (true≢false (sym (listed (entry_order order.values order.kind) (order_total order.values order.kind) (exact_order order.values order.kind) _ c.args.entry.now at) ∙ absent)),
    )
