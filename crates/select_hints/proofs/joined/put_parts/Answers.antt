use Rattle.std.proofs.Common.{map}
use Rattle.std.proofs.lemmas.Result.{on_ok_weaker}
use Rattle.lore_base.specs.Paths.{path_tree, path_trees}
use Rattle.select_hints.proofs.JoinLaws.{put_parts_of, put_itself}
use Rattle.select_hints.proofs.joined.put_parts.Goals as goal

pub returns-in-Seq : goal.returns-in-Seq
returns-in-Seq c =
    on_ok_weaker c.put_each.result
    (put_parts_of c.args.path.now c.in-Seq.own (map path_tree c.as_slice.result.now) (path_trees c.args.parts.now) (path_trees c.put_each.new.parts)
    c.in-Seq.is c.as_slice.ensures.trees) c.put_each.ensures

pub returns-in_default : goal.returns-in_default
returns-in_default c =
    on_ok_weaker c.put_copy.result (put_itself (path_tree c.args.path.now) (path_trees c.args.parts.now) (path_trees c.put_copy.new.parts)) c.put_copy.ensures
