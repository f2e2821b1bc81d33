use Rattle.dump_text.proofs.RuleLaws.{edges_unlabelled, edges_kept}
use Rattle.dump_text.proofs.reading.edges_of.Goals as goal

pub returns-in_default-2-clause-none : goal.returns-in_default-2-clause-none
returns-in_default-2-clause-none c =
    edges_unlabelled c.args.tree.now c.as_slice.result.now c.in-Some.labels c.as_slice-2.result.now c.as_slice.ensures
    (rw c.in-Some.is at c.in_ok-labels.ensures.some) c.as_slice-2.ensures (rw c.in_default-2.is at c.in_ok-edges.ensures.none)

pub returns-then-branch-clause-some : goal.returns-then-branch-clause-some
returns-then-branch-clause-some c =
    edges_kept c.args.tree.now c.as_slice.result.now c.in-Some.labels c.as_slice-2.result.now c.as_slice.ensures
    (rw c.in-Some.is at c.in_ok-labels.ensures.some) c.as_slice-2.ensures (rw c.in-Some.is at c.in_ok-labels.ensures.distinct)
    (rw c.in-Some-2.is at c.in_ok-edges.ensures.labelled) (c.in_ok-are_graph.ensures.0 c.if-branch.true)
