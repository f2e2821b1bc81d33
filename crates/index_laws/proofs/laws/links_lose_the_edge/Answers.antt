use Rattle.index_laws.proofs.ChangedEntries.{links_lose_the_edge}
use Rattle.index_laws.proofs.laws.links_lose_the_edge.Goals as goal

pub returns : goal.returns
returns c = links_lose_the_edge
