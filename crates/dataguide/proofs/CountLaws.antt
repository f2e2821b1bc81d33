-- Whether a guide keeps the limits: its nodes tell it.
use Rattle.dataguide.specs.Guides.{sets_of}
use Rattle.dataguide.specs.GuideLaws.{NodesAreCounted}
pub use Rattle.set_explorer.proofs.CountLaws.{fit-counted}

pub nodes_are_counted : NodesAreCounted
nodes_are_counted limit names edges guide stands = fit-counted limit names edges (sets_of guide.nodes) stands.nodes
