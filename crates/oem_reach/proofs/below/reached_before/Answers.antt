use Rattle.std.proofs.Common.{List, IfOk, subst}
use Rattle.lore_base.specs.TargetSets.{ListsInOrder}
use Rattle.object_search.specs.Reached.{IsWalkedFrom}
use Rattle.oem_reach.specs.Types.{Edge}
use Rattle.oem_reach.specs.inside.Doubts.{old_of}
use Rattle.oem_reach.proofs.below.reached_before.Goals as goal

pub returns-clause-below : goal.returns-clause-below
returns-clause-below g c =
    subst (λ (l : List Edge). IfOk c.reached_from.result (ListsInOrder (IsWalkedFrom (old_of l (g.A.Adjacent.edges c.args.graph.now)) c.args.starts.now)))
    c.new.ensures c.reached_from.ensures.reached
