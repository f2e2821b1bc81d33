use Rattle.std.proofs.Common.{sym}
use Rattle.lore_base.specs.Paths.{path_tree, path_trees}
use Rattle.lorel_trees.specs.Trees.{rooted_tree}
use Rattle.lorel_parse.proofs.TargetLaws.{aimed-label, aimed-none}
use Rattle.lorel_parse.proofs.targets.aimed.Goals as goal

pub returns-in_default-plain_label : goal.returns-in_default-plain_label
returns-in_default-plain_label c =
    aimed-none (rooted_tree c.args.path) (path_trees c.pop.new.self) (path_tree c.in-Some.last) c.in-Some.ensures (sym c.in_default-plain_label.ensures)

pub returns : goal.returns
returns c =
    aimed-label (rooted_tree c.args.path) (path_trees c.pop.new.self) (path_tree c.in-Some.last) c.in-Some-plain_label.label c.in-Some.ensures
    (sym c.in-Some-plain_label.ensures)
