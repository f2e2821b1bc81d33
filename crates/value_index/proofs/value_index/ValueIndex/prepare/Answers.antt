use Rattle.std.proofs.Common.{ap}
use Rattle.value_orders.specs.Orders.{orders_of}
use Rattle.value_index.proofs.IndexLaws.{atomic_gone, one_gone, one_come}
use Rattle.value_index.proofs.value_index.ValueIndex.prepare.Goals as goal

pub of-requires-clause-atomic : goal.of-requires-clause-atomic
of-requires-clause-atomic c =
    let kept = orders_of c.self.inside.values.items c.self.inside.wholes.items c.self.inside.chars.items c.self.inside.flags.items c.self.inside.readings.items
    c.self.inside.flag_readings.items in
    rw (c.as_mut_slice.ensures.value, c.into_items-leaving.ensures)
    (atomic_gone kept c.self.invariant.sorted _ _ (ap (λ v. v.entries) c.self.view_is) c.requires.fits.change.kept_ones)

pub of-requires-clause-one_value : goal.of-requires-clause-one_value
of-requires-clause-one_value c =
    let kept = orders_of c.self.inside.values.items c.self.inside.wholes.items c.self.inside.chars.items c.self.inside.flags.items c.self.inside.readings.items
    c.self.inside.flag_readings.items in
    rw (c.as_mut_slice.ensures.value, c.into_items-leaving.ensures)
    (one_gone kept c.self.invariant.sorted _ _ (ap (λ v. v.entries) c.self.view_is) c.requires.fits.change.kept_ones)

pub of-requires-2-clause-one_value : goal.of-requires-2-clause-one_value
of-requires-2-clause-one_value c =
    rw (c.as_mut_slice-2.ensures.value, c.into_items-coming.ensures) (one_come _ _ _ c.requires.fits)
