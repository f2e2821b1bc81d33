use Rattle.index_laws.proofs.ChangedEntries.{links_gain_the_edge}
use Rattle.index_laws.proofs.laws.links_gain_the_edge.Goals as goal

pub returns : goal.returns
returns c = links_gain_the_edge
