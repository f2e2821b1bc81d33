use Rattle.read_costs.proofs.EnteringLaws.{entering-more, entering_steps}
use Rattle.read_costs.proofs.entering.entering_edges.Goals as goal

pub oids-preserved : goal.oids-preserved
oids-preserved g c =
    let edges = g.K.Links.edges c.args.links.now in
    let longer = c.in_ok-parents.ensures.edges in
    record {
      edges = entering-more edges c.oids.edges c.parents.new.buf c.args.oids.now c.oids.oid-index _ c.oids-test.true longer c.oids.invariant.edges;
      steps = λ ascend. entering_steps edges c.oids.edges c.parents.new.buf c.args.oids.now c.oids.oid-index _ c.oids-test.true longer
          c.args.steps.now c.oids.steps c.parents.new.steps ascend c.in_ok-parents.ensures.steps (c.oids.invariant.steps ascend);
    }
