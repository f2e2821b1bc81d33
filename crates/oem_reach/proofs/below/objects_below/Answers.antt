use Rattle.std.proofs.Common.{◌≡◌, List, IfOk, ap, ◌∙◌, subst}
use Rattle.lore_base.specs.TargetSets.{ListsInOrder}
use Rattle.object_search.specs.Reached.{IsWalkedFrom}
use Rattle.object_search.proofs.EdgeLaws.{edge_same}
use Rattle.oem_reach.specs.Types.{Edge}
use Rattle.oem_reach.specs.inside.Doubts.{old_of}
use Rattle.oem_reach.proofs.OldLaws.{old_none, old_same}
use Rattle.oem_reach.proofs.below.objects_below.Goals as goal

pub returns-then-is_empty-clause-below : goal.returns-then-is_empty-clause-below
returns-then-is_empty-clause-below g c =
    subst (λ (l : List Edge). IfOk c.reached_from.result (ListsInOrder (IsWalkedFrom l c.args.starts.now)))
    (old_none c.args.fresh.now (g.A.Adjacent.edges c.args.graph.now) (c.is_empty.ensures.0 c.if-is_empty.true)) c.reached_from.ensures.reached

pub returns-clause-below : goal.returns-clause-below
returns-clause-below g c =
    let edges = g.A.Adjacent.edges c.args.graph.now in
    let sorted = c.in_ok-sorted.sorted in
    let same = subst (λ (l : List Edge). old_of sorted edges ≡ old_of l edges) c.as_slice.ensures
    (old_same sorted c.as_slice.result.now edges (c.in_ok-sorted.ensures.members edge_same)) in
    subst (λ (l : List Edge). IfOk c.reached_before.result (ListsInOrder (IsWalkedFrom l c.args.starts.now)))
    (ap (λ (l : List Edge). old_of l edges) c.as_slice-2.ensures ∙ same) c.reached_before.ensures.below
