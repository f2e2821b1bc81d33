use Rattle.std.proofs.Common.{take}
use Rattle.link_index.specs.inside.Records.{AreTaken}
use Rattle.link_index.proofs.changes.take_links.Given as goal

abbrev pub invariant-gone : goal.invariant-gone
invariant-gone l = AreTaken (take l.link-index l.gone) l.fn.heads l.fn.records l.heads l.records
