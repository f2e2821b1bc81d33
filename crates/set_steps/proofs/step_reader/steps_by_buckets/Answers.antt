use Rattle.std.proofs.Common.{List, subst}
use Rattle.set_steps.specs.Types.{Oid, Label}
use Rattle.set_steps.specs.inside.Arcs.{arcs_of}
use Rattle.set_steps.specs.inside.Buckets.{AreSetsOf}
use Rattle.set_steps.proofs.BucketLaws.{groups-of, steps-of}
use Rattle.set_steps.proofs.step_reader.steps_by_buckets.Goals as goal

pub returns : goal.returns
returns c =
    steps-of c.args.edges.now c.in_ok-row.row.items
    (groups-of (arcs_of c.args.edges.now) c.in-Some.buckets.items c.in_ok-row.row.items (rw c.in-Some.is at c.in_ok-buckets.ensures)
    (subst (λ (l : List (Label × List Oid)). AreSetsOf l c.in_ok-row.row.items) c.as_slice.ensures.value c.in_ok-row.ensures))
