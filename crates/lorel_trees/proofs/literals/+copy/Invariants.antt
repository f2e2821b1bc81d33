use Rattle.std.proofs.Common.{◌≡◌, ◌++◌, map, drop}
use Rattle.lorel_trees.specs.Trees.{member_tree, member_trees}
use Rattle.lorel_trees.proofs.literals.+copy.Given as goal

abbrev pub invariant-copy_members-members : goal.invariant-copy_members-members
invariant-copy_members-members l = map member_tree l.items.items ++ map member_tree (drop l.member-index l.member-items) ≡ member_trees l.fn.members
