use Rattle.graph_changes.proofs.RecordLaws.{put-old}
use Rattle.graph_changes.proofs.object_changes.set_value.Goals as goal

pub returns-in_default-clause-put : goal.returns-in_default-clause-put
returns-in_default-clause-put c = absurd (c.in_default.ensures.none c.requires.live)

pub returns-in-Some-clause-put : goal.returns-in-Some-clause-put
returns-in-Some-clause-put c = put-old c.args.objects.now c.args.oid c.args.value c.in-Some.place _ c.requires.ascend c.in-Some.ensures.inside (c.in-Some.ensures.found _)
