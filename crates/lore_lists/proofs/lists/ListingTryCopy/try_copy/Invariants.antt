use Rattle.std.proofs.Common.{◌≡◌, ◌++◌, map, drop}
use Rattle.lore_lists.proofs.lists.ListingTryCopy.try_copy.Given as goal

abbrev pub invariant-items : goal.invariant-items
invariant-items g l = map g.T.TryCopy.seen l.items.items ++ map g.T.TryCopy.seen (drop l.item-index l.item-items) ≡ map g.T.TryCopy.seen l.fn.self
