use Rattle.std.proofs.Common.{◌≡◌, take}
use Rattle.value_orders.specs.inside.Naming.{seen, entries_of}
use Rattle.value_orders.proofs.orders.entries_of.Given as goal

abbrev pub invariant-entries : goal.invariant-entries
invariant-entries l = seen l.own.items ≡ entries_of l.kind (take l.entry-index l.fn.entries)
