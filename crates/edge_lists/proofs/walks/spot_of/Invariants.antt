use Rattle.std.proofs.Common.{ℕ, List}
use Rattle.edge_lists.specs.Chains.{AreChained, IsStart, WaitAmong}
use Rattle.edge_lists.proofs.WalkLaws.{behind_place}
use Rattle.edge_lists.proofs.walks.spot_of.Given as goal

abbrev pub invariant-places : goal.invariant-places
invariant-places l = (waiting : List ℕ) → AreChained l.side l.objects l.records waiting → WaitAmong l.side l.records waiting l.edge l.come
    → IsStart l.side l.records waiting l.edge l.fn.start → IsStart l.side l.records waiting l.edge l.place

abbrev pub decreases-places : goal.decreases-places
decreases-places l = behind_place l.side l.records l.place
