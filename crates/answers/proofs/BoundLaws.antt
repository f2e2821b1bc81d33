-- What a bound select that can be run has: slots that are there, and few leaves in each range.
use Rattle.std.proofs.Common.{◌≡◌, ℕ, zero, suc, ◌+◌, ◌<◌, ◌≤◌, List, [], ◌∷◌, length, map, get_or, All, sum_by, subst, sym, ap, ◌∙◌, arith}
use Rattle.std.proofs.lemmas.List.{get_or-map, length-map}
use Rattle.std.proofs.lemmas.List.Sums.{get_or-le-sum_by}
use Rattle.plan_laws.proofs.DescribeLawsRows.{within_more}
use Rattle.lore_base.specs.Paths.{path_tree, leaves}
use Rattle.lorel_bound.specs.declared.bound.Start.TheVariants as starts
use Rattle.lorel_bound.specs.declared.bound.Range.{Range}
use Rattle.lorel_bound.specs.declared.bound.Bound.{Bound}
use Rattle.lorel_bound.specs.Bound.{RangeTree, range_tree, bound_tree}
use Rattle.lorel_bound.specs.Runnable.{IsWithin, IsCellWithin, AreInOrder, IsRunnable}
use Rattle.path_expr.specs.Types.{LEAVES}
use Rattle.answers.specs.Types.{CellOf, RANGES}

-- a range starts at an object, at an earlier range, or at one of those in front of all
ordered_start : (count : ℕ) (ranges : List RangeTree) (k : ℕ) (d : RangeTree) → AreInOrder count ranges → k < length ranges
    → IsWithin (count + length ranges) (get_or ranges k d).start
ordered_start count [] k d order within = absurd (omega (arith, within))
ordered_start count (range ∷ ranges) zero d order within =
    within_more count (count + length (range ∷ ranges)) range.start (omega arith) order.0
ordered_start count (range ∷ ranges) (suc k) d order within =
    within_more (suc count + length ranges) (count + length (range ∷ ranges)) (get_or ranges k d).start (omega arith)
    (ordered_start (suc count) ranges k d order.1 (omega (arith, within)))

-- there are few ranges
pub few_ranges : (bound : Bound) → IsRunnable (bound_tree bound) → length bound.ranges ≤ RANGES
few_ranges bound runnable = omega (arith, runnable.few_ranges, length-map bound.ranges range_tree)

pub slot_fits : (bound : Bound) → IsRunnable (bound_tree bound) → (slot : ℕ) → slot < length bound.ranges → slot < RANGES
slot_fits bound runnable slot within = omega (arith, few_ranges bound runnable, within)

module _ (bound : Bound) (runnable : IsRunnable (bound_tree bound)) (slot : ℕ) (range : Range) (within : slot < length bound.ranges)
    (is : range ≡ get_or bound.ranges slot range) where
  at_slot : get_or (map range_tree bound.ranges) slot (range_tree range) ≡ range_tree range
  at_slot = get_or-map range_tree bound.ranges slot range (range_tree range) within ∙ ap range_tree (sym is)

  tree_within : slot < length (map range_tree bound.ranges)
  tree_within = omega (arith, within, length-map bound.ranges range_tree)

  -- a range starts at a slot that is there
  pub start_fits : IsWithin RANGES range.start
  start_fits =
      let count = length (map range_tree bound.ranges) in
      within_more (0 + count) RANGES range.start (omega (arith, runnable.few_ranges))
      (subst (λ (tree : RangeTree). IsWithin (0 + count) tree.start) at_slot
      (ordered_start 0 (map range_tree bound.ranges) slot (range_tree range) runnable.in_order tree_within))

  -- its path has few leaves
  pub leaves_fit : leaves (path_tree range.path) ≤ LEAVES
  leaves_fit =
      let all = map range_tree bound.ranges in
      let Few : RangeTree → Type 0 = λ tree. leaves tree.path ≤ sum_by (λ (r : RangeTree). leaves r.path) all in
      let one : leaves (path_tree range.path) ≤ sum_by (λ (r : RangeTree). leaves r.path) all =
      subst Few at_slot (get_or-le-sum_by (λ (r : RangeTree). leaves r.path) all slot (range_tree range) tree_within) in
      omega (arith, one, runnable.few_leaves)

-- a cell shows a slot that is there
pub cell_fits : (bound : Bound) → IsRunnable (bound_tree bound) → (all : List CellOf) (i : ℕ) (d : CellOf) → all ≡ bound.cells → i < length all
    → IsCellWithin (length bound.ranges) (get_or all i d)
cell_fits bound runnable all i d same within =
    let Fits : ℕ → Type 0 = λ count. IsCellWithin count (get_or all i d) in
    subst Fits (length-map bound.ranges range_tree)
    (subst (λ (cs : List CellOf). All (IsCellWithin (length (map range_tree bound.ranges))) cs) (sym same) runnable.cells_within i d within)
