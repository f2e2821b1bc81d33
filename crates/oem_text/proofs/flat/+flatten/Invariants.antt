use Rattle.std.proofs.Common.{◌≡◌, ◌++◌, length, map, drop}
use Rattle.lorel_trees.specs.Trees.{member_tree, member_trees, members_from}
use Rattle.oem_text.specs.Literals.{member_bodies, member_arcs}
use Rattle.oem_text.specs.inside.Views.{bodies_of, link_arcs}
use Rattle.oem_text.proofs.flat.+flatten.Given as goal

abbrev pub invariant-add_members-members : goal.invariant-add_members-members
invariant-add_members-members l =
    let left = members_from (map member_tree (drop l.member-index l.member-items)) in
    let all = members_from (member_trees l.members) in
    record {
      bodies : bodies_of l.flat.literals.items ++ member_bodies left ≡ bodies_of l.fn.flat.literals.items ++ member_bodies all;
      arcs : link_arcs l.flat.links.items ++ member_arcs l.parent (length l.flat.literals.items) left
          ≡ link_arcs l.fn.flat.links.items ++ member_arcs l.parent (length l.fn.flat.literals.items) all;
    }
