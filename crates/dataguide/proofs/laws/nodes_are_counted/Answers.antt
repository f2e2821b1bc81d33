use Rattle.dataguide.proofs.CountLaws.{nodes_are_counted}
use Rattle.dataguide.proofs.laws.nodes_are_counted.Goals as goal

pub returns : goal.returns
returns c = nodes_are_counted
