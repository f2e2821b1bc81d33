use Rattle.std.proofs.Common.{◌+◌, List, [], sym, ap, ◌∙◌, subst, arith}
use Rattle.std.specs.List.{sum_by}
use Rattle.std.proofs.lemmas.Result.{err_from_is_err_and}
use Rattle.lore_base.specs.PathOrder.{AreInPathOrder}
use Rattle.dataguide.specs.Types.{GuideNode}
use Rattle.set_steps.specs.SetSteps.{reads_of}
use Rattle.dataguide.specs.Guides.{GuideGraph, StandsFor}
use Rattle.set_explorer.specs.Nodes.{sets_of}
use Rattle.set_explorer.specs.Touched.{ReadsTouched, ReadsSome}
use Rattle.dataguide.specs.Deltas.{guide_then}
use Rattle.dataguide.proofs.ChangeLaws.{stood-new, tells-nothing, reads-all, reads-at_most}
use Rattle.dataguide.proofs.data_guide.Guide.build.Goals as goal

pub plan-requires : goal.plan-requires
plan-requires g c = record {
  stood = stood-new c.new-guide.result (g.A.Adjacent.edges c.args.graph.now) c.new-guide.ensures.nodes
      c.new-guide.ensures.entries;
  ascend = λ i j d less within. absurd (omega (arith, within));
  lost_ascend = λ i j d less within. absurd (omega (arith, within));
  tells = tells-nothing (g.A.Adjacent.edges c.args.graph.now) c.from_ascending-none.result
      (c.from_ascending-none.ensures ∙ c.new.ensures);
}

pub returns-clause-guide : goal.returns-clause-guide
returns-clause-guide g c =
    subst (λ (v : GuideGraph). StandsFor v c.args.names.now (g.A.Adjacent.edges c.args.graph.now))
    (sym c.commit.ensures)
    c.in_ok-delta.ensures.guide

pub returns-clause-order : goal.returns-clause-order
returns-clause-order g c =
    subst (λ (v : GuideGraph). AreInPathOrder c.args.names.now (g.A.Adjacent.edges c.args.graph.now) (sets_of v.nodes))
    (sym c.commit.ensures) c.in_ok-delta.ensures.order

pub returns-clause-steps : goal.returns-clause-steps
returns-clause-steps g c =
    let edges = g.A.Adjacent.edges c.args.graph.now in
    let sets = sets_of (guide_then c.new-guide.result.nodes c.in_ok-delta.delta).nodes in
    let reads = subst (λ (l : List GuideNode). ReadsTouched (sets_of l) [] [] edges sets c.args.steps.now c.plan.new.steps)
    c.new-guide.ensures.nodes c.in_ok-delta.ensures.steps in
    reads-all edges sets c.args.steps.now c.plan.new.steps c.in_ok-delta.ensures.guide.nodes.apart reads
    ∙ ap (λ (v : GuideGraph). c.args.steps.now + sum_by (reads_of edges) (sets_of v.nodes)) (sym c.commit.ensures)

pub returns-in_err-delta-clause-reads : goal.returns-in_err-delta-clause-reads
returns-in_err-delta-clause-reads g c =
    let names = c.args.names.now in
    let edges = g.A.Adjacent.edges c.args.graph.now in
    let p = err_from_is_err_and c.from_residual.result c.from_residual.ensures.1 in
    rw p.1 (λ not_memory. reads-at_most c.args.limit names edges c.args.steps.now c.plan.new.steps
    (subst (λ (l : List GuideNode). ReadsSome (sets_of l) [] [] c.args.limit names edges c.args.steps.now c.plan.new.steps)
    c.new-guide.ensures.nodes (c.in_err-delta.ensures.reads (λ is. not_memory (p.2 ∙ is)))))
