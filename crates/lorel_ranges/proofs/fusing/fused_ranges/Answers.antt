use Rattle.std.proofs.Common.{List, [], ◌∙◌, subst, sym, ap}
use Rattle.lorel_trees.specs.Trees.{select_tree}
use Rattle.lorel_ranges.specs.Ranges.{PlacedRange, places, AreFused, IsUsed}
use Rattle.lorel_ranges.specs.inside.Orders.{AreOrdered}
use Rattle.lorel_ranges.specs.Views.{ranges_of}
use Rattle.lorel_ranges.specs.inside.SelectRanges.{IsMarked}
use Rattle.lorel_ranges.proofs.PlainLaws.{plain_ordered}
use Rattle.lorel_ranges.proofs.AlikeLaws.{fused_alike}
use Rattle.lorel_ranges.proofs.fusing.fused_ranges.Goals as goal

pub fuse-requires : goal.fuse-requires
fuse-requires c =
    let query = select_tree c.args.query.now in
    let marked = c.mark_used.ensures in
    let plain = ranges_of c.in_ok-ranges.ranges.fused.items in
    record {
      followed = marked.linked.followed;
      ordered = subst (AreOrdered []) (sym marked.ranges) (plain_ordered query plain c.in_ok-ranges.ensures.plain);
    }

pub returns : goal.returns
returns c =
    let query = select_tree c.args.query.now in
    let marked = c.mark_used.ensures in
    let plain = ranges_of c.in_ok-ranges.ranges.fused.items in
    record {
      ranges = plain;
      made = c.in_ok-ranges.ensures.plain;
      places = ap places (sym marked.ranges) ∙ sym marked.linked.same;
      fuses = fused_alike (IsMarked c.mark_used.new.self.fused.items) (IsUsed query plain) plain (ranges_of c.fuse.new.ranges.items)
          (λ place there. marked.marked query place c.requires there)
          (subst (λ (ranges : List PlacedRange). AreFused (IsMarked c.mark_used.new.self.fused.items) ranges (ranges_of c.fuse.new.ranges.items)) marked.ranges
          c.in_ok-fuse.ensures);
    }
