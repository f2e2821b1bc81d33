use Rattle.std.proofs.Common.{◌≢◌, sym, ap}
use Rattle.list_laws.proofs.AscentLaws.{AllPairs-once}
use Rattle.index_traits.specs.declared.entries.ValueEntry.{ValueEntry}
use Rattle.base_tests.proofs.orders.orders_of.Goals as goal

pub of-requires-clause-one_value : goal.of-requires-clause-one_value
of-requires-clause-one_value c = λ a b first second same.
    ap (λ (e : ValueEntry). e.value)
    (AllPairs-once (λ (x : ValueEntry) (y : ValueEntry). x.object ≢ y.object) c.args.entries.now
    (c.are_in_order.ensures.apart c.if-not-are_in_order.false) a b first second (λ other. other same) (λ other. other (sym same)))
