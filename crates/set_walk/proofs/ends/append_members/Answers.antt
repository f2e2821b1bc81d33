use Rattle.std.proofs.lemmas.Result.{on_ok_weaker}
use Rattle.set_walk.proofs.ends.append_members.Goals as goal

pub returns-clause-objects : goal.returns-clause-objects
returns-clause-objects g c =
    on_ok_weaker c.append.result (λ is. (c.members.result.now, is, c.members.ensures)) c.append.ensures.ok
