use Rattle.graph_changes.proofs.PairLaws.{any_object}
use Rattle.graph_changes.proofs.RecordLaws.{live-at}
use Rattle.graph_changes.proofs.object_changes.count_live.Goals as goal

pub returns-in-Some-clause-live : goal.returns-in-Some-clause-live
returns-in-Some-clause-live c one = live-at c.args.objects.now c.args.oid _ any_object c.in-Some.ensures.inside (c.in-Some.ensures.found any_object)
