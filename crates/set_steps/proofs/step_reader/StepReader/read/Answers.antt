use Rattle.set_steps.proofs.step_reader.StepReader.read.Goals as goal

pub returns-clause-row : goal.returns-clause-row
returns-clause-row g c =
    c.in_ok-row.ensures (g.A.Adjacent.edges c.args.graph.now) c.args.set.now c.in_ok-read_edges.ensures.edges
