use Rattle.std.proofs.Common.{◌+◌, drop}
use Rattle.lorel_ranges.specs.Views.{place_tree, place_trees, ranges_of}
use Rattle.lorel_ranges.proofs.MakingLaws.{drop_read, paths_step}
use Rattle.lorel_ranges.proofs.select_ranges.SelectRanges.add_paths.Goals as goal

pub paths-preserved : goal.paths-preserved
paths-preserved c = record {
  fresh = c.in_ok-add_path.ensures.fresh;
  made = λ ranges later. c.paths.invariant.made ranges
      (paths_step (drop c.paths.path-index (place_trees c.args.paths.now)) (drop (c.paths.path-index + 1) (place_trees c.args.paths.now))
      (place_tree c.path-item.result) (ranges_of c.paths.self.fused.items) (ranges_of c.add_path.new.self.fused.items) ranges
      (drop_read place_tree c.args.paths.now c.paths.path-index c.path-item.result c.paths-test.true c.path-item.is)
      c.in_ok-add_path.ensures.made later);
}
