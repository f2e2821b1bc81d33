use Rattle.std.proofs.Common.{◌-◌, length, drop}
use Rattle.join_tables.specs.inside.Leading.{LeadInto}
use Rattle.join_tables.proofs.leading.leading_to.Given as goal

abbrev pub invariant-labels : goal.invariant-labels
invariant-labels g l = LeadInto (g.K.Links.edges l.links) (drop (length l.word - l.taken) l.word) l.fn.ends l.found
