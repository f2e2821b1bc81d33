use Rattle.std.proofs.Common.{◌+◌, ◌<◌, ◌^◌, arith}
use Rattle.slab.proofs.SlabLemmas.{ContainsKey-within}
use Rattle.edge_lists.proofs.chains.room.Goals as goal

pub returns : goal.returns
returns c key contains =
    let below : key + 1 < 2 ^ 64 =
    omega (arith, ContainsKey-within c.args.records.now key contains, c.capacity.ensures.slots, c.capacity.type_inv) in
    below
