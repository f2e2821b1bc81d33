use Rattle.std.proofs.Common.{take}
use Rattle.join_tables.specs.inside.Leading.{LeadBy}
use Rattle.join_tables.proofs.leading.parents_by.Given as goal

abbrev pub invariant-children : goal.invariant-children
invariant-children g l = LeadBy (g.K.Links.edges l.links) l.label (take l.child-index l.children) l.found
