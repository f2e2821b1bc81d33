use Rattle.link_index.proofs.HeadLaws.{headed}
use Rattle.link_index.proofs.heads.set_head.Goals as goal

pub returns-in-Some : goal.returns-in-Some
returns-in-Some c = headed c.args.heads.now c.requires.ascend c.in-Some.place _ c.args.child c.args.first c.in-Some.ensures.inside (c.in-Some.ensures.found _)
