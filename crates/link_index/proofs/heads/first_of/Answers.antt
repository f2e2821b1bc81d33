use Rattle.std.proofs.Common.{sym, ap, ◌∙◌}
use Rattle.link_index.specs.inside.Records.{head_of}
use Rattle.link_index.proofs.HeadLaws.{head-at, head-none}
use Rattle.link_index.proofs.heads.first_of.Goals as goal

pub returns-in-None : goal.returns-in-None
returns-in-None c = sym (head-none c.args.heads.now c.args.child c.in-None.ensures.none)

pub returns-in-Some : goal.returns-in-Some
returns-in-Some c = sym (head-at c.args.heads.now c.requires c.in-Some.place _ c.in-Some.ensures.inside) ∙ ap (head_of c.args.heads.now) (c.in-Some.ensures.found _)
