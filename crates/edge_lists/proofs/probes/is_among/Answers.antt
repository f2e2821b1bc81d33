use Rattle.edge_lists.proofs.ProbeLaws.{none_found}
use Rattle.edge_lists.proofs.probes.is_among.Goals as goal

pub returns-in-Err : goal.returns-in-Err
returns-in-Err c = λ no. none_found c.args.edges.now c.requires c.args.edge.now _ c.in-Err.ensures.position
