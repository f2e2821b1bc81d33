use Rattle.std.proofs.Common.{Some}
use Rattle.edge_lists.proofs.ViewLaws.{found_there}
use Rattle.edge_lists.proofs.walks.record_of.Goals as goal

pub returns-in-Some-clause-there : goal.returns-in-Some-clause-there
returns-in-Some-clause-there c = found_there c.args.records.now c.args.edge.now (Some c.in-Some.key) c.in-Some.ensures.some tt

pub returns-clause-there : goal.returns-clause-there
returns-clause-there c = found_there c.args.records.now c.args.edge.now c.find-found.result.key c.find-found.ensures.some c.find-found.ensures.none
