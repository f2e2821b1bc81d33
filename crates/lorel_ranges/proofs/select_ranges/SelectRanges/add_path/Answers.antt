use Rattle.std.proofs.Common.{arith}
use Rattle.std.proofs.lemmas.List.{length-map}
use Rattle.lore_base.specs.Paths.{path_tree}
use Rattle.lorel_ranges.specs.Views.{place_tree, ranges_of}
use Rattle.lorel_ranges.proofs.MakingLaws.{path_step}
use Rattle.lorel_ranges.proofs.select_ranges.SelectRanges.add_path.Goals as goal

pub prefixes-preserved : goal.prefixes-preserved
prefixes-preserved c = record {
  fresh = c.in_ok-add_prefix.ensures.fresh;
  made = λ ranges later. c.prefixes.invariant.made ranges
      (path_step (place_tree c.args.path) c.prefixes.len (ranges_of c.prefixes.self.fused.items) (ranges_of c.add_prefix.new.self.fused.items) ranges
      (omega (arith, length-map c.args.path.parts.now path_tree)) c.in_ok-add_prefix.ensures.made later);
}
