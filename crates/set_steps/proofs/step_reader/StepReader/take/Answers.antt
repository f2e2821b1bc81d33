use Rattle.set_steps.proofs.step_reader.StepReader.take.Goals as goal

pub returns : goal.returns
returns c = c.in_ok-row.ensures c.args.listed.now c.args.set.now c.in_ok-list_edges.ensures
