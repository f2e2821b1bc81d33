use Rattle.std.proofs.Common.{◌≡◌, ◌∙◌, [], ◌+◌, take, drop, sym, ap, subst}
use Rattle.lore_base.proofs.MemberLaws.{Contains-none}
use Rattle.lorel_ranges.specs.Places.{Place}
use Rattle.lorel_ranges.specs.Ranges.{places, IsFixed}
use Rattle.lorel_ranges.specs.Views.{place_tree, place_trees, ranges_of}
use Rattle.lorel_ranges.specs.inside.SelectRanges.{IsFixedOf}
use Rattle.lorel_ranges.proofs.MarkLaws.{marked_none, marked_then, fixed_step}
use Rattle.lorel_ranges.proofs.select_ranges.SelectRanges.mark_fixed.Goals as goal

pub paths-init : goal.paths-init
paths-init c =
    marked_none c.args.self.now (IsFixedOf (ranges_of c.args.self.now.fused.items) []) c.requires.linked (λ place fixed at. Contains-none fixed.0 fixed.2)

pub paths-preserved : goal.paths-preserved
paths-preserved c =
    let ranges = ranges_of c.args.self.now.fused.items in
    let path = place_tree c.path-item.result in
    let here : IsFixed ranges path (place_tree c.prefix.result) (drop c.fixed_len-len.result path.parts) =
    subst (λ (p : Place). IsFixed ranges path p (drop c.fixed_len-len.result path.parts)) (sym c.prefix.ensures.place)
    (c.fixed_len-len.ensures.fixed ranges (ap places (sym c.paths.invariant.ranges) ∙ sym c.paths.invariant.linked.same)) in
    marked_then c.args.self.now c.paths.self c.mark.new.self (IsFixedOf ranges (take c.paths.path-index (place_trees c.args.paths.now)))
    (λ (other : Place). other ≡ place_tree c.prefix.result) (IsFixedOf ranges (take (c.paths.path-index + 1) (place_trees c.args.paths.now)))
    c.paths.invariant c.mark.ensures
    (fixed_step ranges c.args.paths.now c.paths.path-index c.path-item.result (place_tree c.prefix.result) (drop c.fixed_len-len.result path.parts)
    c.paths-test.true c.path-item.is here)
