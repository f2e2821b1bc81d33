use Rattle.lorel_eval.specs.inside.FoundObjects.{oids_of}
use Rattle.lorel_eval.specs.inside.Ready.{ready_path}
use Rattle.lorel_eval.specs.inside.Subjects.{ReachedIn}
use Rattle.lorel_eval.proofs.ReachedLaws.{both_listed}
use Rattle.lorel_eval.proofs.meeting.paths_meet.Goals as goal

pub returns : goal.returns
returns g c =
    let reached = ReachedIn c.args.subject.now c.args.objects.now in
    both_listed (reached (ready_path c.args.left.now)) (reached (ready_path c.args.right.now)) (oids_of c.in_ok-left.left) (oids_of c.in_ok-right.right)
    c.as_slice.result.now c.as_slice-2.result.now c.have_common.result
    c.in_ok-left.ensures c.in_ok-right.ensures c.as_slice.ensures c.as_slice-2.ensures c.have_common.ensures
