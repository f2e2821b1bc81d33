use Rattle.std.proofs.Common.{sym}
use Rattle.link_index.proofs.HeadLaws.{below_last}
use Rattle.link_index.proofs.listing.are_below.Goals as goal

pub returns-in-Some : goal.returns-in-Some
returns-in-Some c = below_last c.args.heads.now c.args.child c.in-Some.last.now c.requires (sym c.in-Some.ensures.value)
