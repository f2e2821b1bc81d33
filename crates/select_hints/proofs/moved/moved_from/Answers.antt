use Rattle.std.proofs.Common.{map}
use Rattle.lore_base.specs.Paths.{path_tree}
use Rattle.lorel_bound.specs.Bound.{range_tree}
use Rattle.select_hints.proofs.MoveLaws.{moved_path, range_there}
use Rattle.select_hints.proofs.moved.moved_from.Goals as goal

pub returns : goal.returns
returns c =
    moved_path (map range_tree c.args.ranges.now) (range_tree c.in-Some.range.now) c.args.slot c.in-Some-earlier_slot.earlier
    (path_tree c.args.rest.now) (path_tree c.in_ok-whole.whole)
    (range_there c.args.ranges.now c.args.slot c.in-Some.range.now c.in-Some.ensures.lookup.3)
    c.in-Some-earlier_slot.ensures.starts c.in-Some-earlier_slot.ensures.before c.in_ok-whole.ensures
