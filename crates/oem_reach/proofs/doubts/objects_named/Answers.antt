use Rattle.std.proofs.lemmas.Result.{IfOk-weaker}
use Rattle.oem_reach.proofs.SearchLaws.{named_then}
use Rattle.oem_reach.proofs.doubts.objects_named.Goals as goal

pub returns : goal.returns
returns c =
    IfOk-weaker c.objects.result _ _
    (λ oids is. named_then c.args.names.now c.in_ok-then.then c.args.changes.now oids c.in_ok-then.ensures.members is)
    c.objects.ensures
