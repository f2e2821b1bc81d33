use Rattle.std.proofs.Common.{◌-◌, length}
use Rattle.link_index.proofs.DropLaws.{AreMoved}
use Rattle.link_index.proofs.listing.drop_from.Given as goal

abbrev pub invariant-heads : goal.invariant-heads
invariant-heads l = AreMoved l.fn.heads.items l.heads.items l.end l.place

abbrev pub decreases-heads : goal.decreases-heads
decreases-heads l = length l.heads.items - l.place
