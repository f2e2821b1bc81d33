use Rattle.link_index.specs.inside.LinkEdges.{order}
use Rattle.link_index.specs.inside.Records.{link_in, nothing}
use Rattle.near_links.proofs.SlotLaws.{behind_place}
use Rattle.link_index.proofs.RunLaws.{AreTold}
use Rattle.link_index.proofs.link_runs.push_run.Given as goal

abbrev pub invariant-records : goal.invariant-records
invariant-records l = AreTold l.records l.child l.given l.place l.fn.buf l.buf

abbrev pub decreases-records : goal.decreases-records
decreases-records l = behind_place link_in order nothing l.records l.place
