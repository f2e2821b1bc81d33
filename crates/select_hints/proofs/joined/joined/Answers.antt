use Rattle.lore_base.specs.Paths.{path_tree, path_trees}
use Rattle.select_hints.proofs.JoinLaws.{joins}
use Rattle.select_hints.proofs.joined.joined.Goals as goal

pub returns : goal.returns
returns c =
    joins (path_tree c.args.first.now) (path_tree c.args.second.now) (path_tree c.in_a_row.result) (path_trees c.new-parts.result)
    (path_trees c.put_parts.new.parts) (path_trees c.put_parts-2.new.parts) c.new-parts.ensures.trees c.in_ok-put_parts.ensures
    c.in_ok-put_parts-2.ensures c.in_a_row.ensures
