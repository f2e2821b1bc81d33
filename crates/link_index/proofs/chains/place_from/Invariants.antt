use Rattle.link_index.specs.inside.LinkEdges.{order}
use Rattle.link_index.specs.inside.Records.{IsStart, link_in, nothing}
use Rattle.near_links.proofs.SlotLaws.{behind_place}
use Rattle.link_index.proofs.chains.place_from.Given as goal

abbrev pub invariant-places : goal.invariant-places
invariant-places l = IsStart l.records l.link l.place

abbrev pub decreases-places : goal.decreases-places
decreases-places l = behind_place link_in order nothing l.records l.place
