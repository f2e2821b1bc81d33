use Rattle.std.proofs.Common.{◌≡◌, rules}
use Rattle.std.proofs.lemmas.Fn.{always_returns_same}
use Rattle.sorted_list.proofs.order.place_of.Goals as goal

pub returns-clause-position : goal.returns-clause-position
returns-clause-position g c =
    let order_of = g.O.Order.order_of c.args.order.now in
    c.binary_search_by.ensures.position (λ other. order_of other c.args.item.now)
    (always_returns_same _ (λ a r. r ≡ order_of a.0.now c.args.item.now) _ (λ a r q k. search rules))
