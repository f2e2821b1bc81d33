-- What stands in slots, which row their cells show, and what changes of it with more slots behind them: nothing.
use Rattle.std.proofs.Common.{◌≡◌, ℕ, zero, suc, ◌+◌, ◌-◌, ◌<◌, ◌≤◌, ◌↔◌, List, [], ◌∷◌, ◌++◌, length, replicate, Option, Some, None, All, subst, refl, sym, ◌∙◌, arith}
use Rattle.std.specs.List.{Contains, AllZip, slice_get}
use Rattle.std.specs.Option.{MatchOption}
use Rattle.std.proofs.lemmas.List.Elements.{All-head, All-tail, All-contains}
use Rattle.std.proofs.lemmas.Option.{same_Some, slice_get_within}
use Rattle.std.proofs.lemmas.Slice.Zip.{AllZip-long}
use Rattle.plan_laws.proofs.DescribeLawsRows.{within_more}
use Rattle.lore_base.specs.Walks.{oid_of}
use Rattle.lore_base.specs.Comparisons.{Compares}
use Rattle.lore_base.specs.Paths.{Reaches}
use Rattle.lorel_bound.specs.declared.conditions.BoundStart.{BoundStart}
use Rattle.lorel_bound.specs.declared.conditions.BoundStart.TheVariants as bound_starts
use Rattle.lorel_bound.specs.Bound.{RangeTree, BoundPathTree, BoundTree}
use Rattle.lorel_bound.specs.Conditions.{CondOf, paths_of, paths_in}
use Rattle.lorel_bound.specs.Runnable.{IsWithin, IsCellWithin, AreInOrder, IsBoundWithin, IsRunnable}
use Rattle.lorel_bound.specs.SlotRows.{StartsAt, BoundStartsAt, MeetsBy, HoldsOver, AreFilled, IsSlotWord, ShowsSlot}
use Rattle.bind_laws.proofs.ConditionLaws.{ReachAlike, holds_like, like_itself}
use Rattle.plan_laws.specs.Steps.{in_eight, IsSought}
use Rattle.answers.specs.Asked.{ShowsRow, ShowsAsked}
use Rattle.answers.specs.Types.{CellOf}
use Rattle.answers.specs.Types.shown
use Rattle.select_rows.specs.Types.{Oid, Label, Edge, Value, Start, Cell, RANGES}
use Rattle.select_rows.specs.Types.starts
use Rattle.select_rows.specs.Types.cells
use Rattle.select_rows.specs.Views.{IsRowOf}

-- ---- more slots behind
slice_get-front : {X : Type 0} (xs ys : List X) (k : ℕ) → k < length xs → slice_get (xs ++ ys) k ≡ slice_get xs k
slice_get-front [] ys k within = absurd (omega (arith, within))
slice_get-front (x ∷ xs) ys zero within = refl
slice_get-front (x ∷ xs) ys (suc k) within = slice_get-front xs ys k (omega (arith, within))

-- slots behind those that a start may name change nothing
starts_in_front : (slots more : List Oid) (count : ℕ) (start : Start) (oid : Oid) → length slots ≡ count → IsWithin count start
    → StartsAt (slots ++ more) start oid ↔ StartsAt slots start oid
starts_in_front slots more count (starts.Named own) oid long within = (λ h. h, λ h. h)
starts_in_front slots more count (starts.Slot slot) oid long within =
    let same = slice_get-front slots more slot (omega (arith, within, long)) in
    (λ h. sym same ∙ h, λ h. same ∙ h)

starts_within : (count earlier : ℕ) (ranges : List RangeTree) (slot : ℕ) (range : RangeTree) → earlier + length ranges ≤ count
    → AreInOrder earlier ranges → slice_get ranges slot ≡ Some range → IsWithin count range.start
starts_within count earlier [] slot range few order there =
    let below = slice_get_within [] slot range there in absurd (omega (arith, below))
starts_within count earlier (first ∷ ranges) zero range few order there =
    subst (λ (r : RangeTree). IsWithin count r.start) (same_Some first range there)
    (within_more earlier count first.start (omega (arith, few)) order.0)
starts_within count earlier (first ∷ ranges) (suc slot) range few order there =
    starts_within count (suc earlier) ranges slot range (omega (arith, few)) order.1 there

module _ (labels : List (List ℕ)) (edges : List Edge) (ranges : List RangeTree) (slots more : List Oid)
    (long : length slots ≡ length ranges) where
  -- and so nothing of the word of a slot
  word_in_front : AreInOrder 0 ranges → (slot : ℕ) (own : List Label)
      → IsSlotWord labels edges ranges (slots ++ more) slot own ↔ IsSlotWord labels edges ranges slots slot own
  word_in_front order slot own =
      let begin = λ (range : RangeTree) (there : slice_get ranges slot ≡ Some range) (start : Oid).
      starts_in_front slots more (length ranges) range.start start long
      (starts_within (length ranges) 0 ranges slot range (omega arith) order there) in
      let end = λ (range : RangeTree) (there : slice_get ranges slot ≡ Some range).
      (let below = slice_get_within ranges slot range there in slice_get-front slots more slot (omega (arith, below, long))) in (
        λ h. record {
          range = h.range;
          there = h.there;
          start = h.start;
          begins = (begin h.range h.there h.start).0 h.begins;
          oid = h.oid;
          ends = sym (end h.range h.there) ∙ h.ends;
          least = h.least;
        },
        λ h. record {
          range = h.range;
          there = h.there;
          start = h.start;
          begins = (begin h.range h.there h.start).1 h.begins;
          oid = h.oid;
          ends = end h.range h.there ∙ h.ends;
          least = h.least;
        },
      )

  -- nor of what a cell shows
  cell_in_front : AreInOrder 0 ranges → (cell : CellOf) (own : Cell) → IsCellWithin (length ranges) cell
      → ShowsSlot labels edges ranges (slots ++ more) cell own ↔ ShowsSlot labels edges ranges slots cell own
  cell_in_front order (shown.Object start) (cells.Object oid) within = starts_in_front slots more (length ranges) start oid long within
  cell_in_front order (shown.Object start) (cells.Path own) within = (λ h. h, λ h. h)
  cell_in_front order (shown.PathOf slot) (cells.Object oid) within = (λ h. h, λ h. h)
  cell_in_front order (shown.PathOf slot) (cells.Path own) within = word_in_front order slot own

  -- nor of the row that cells show
  shown_in_front : AreInOrder 0 ranges → (all : List CellOf) (row : List Cell) → All (IsCellWithin (length ranges)) all
      → AllZip (ShowsSlot labels edges ranges (slots ++ more)) all row ↔ AllZip (ShowsSlot labels edges ranges slots) all row
  shown_in_front order [] [] within = (λ h. h, λ h. h)
  shown_in_front order [] (own ∷ row) within = (λ h. h, λ h. h)
  shown_in_front order (cell ∷ all) [] within = (λ h. h, λ h. h)
  shown_in_front order (cell ∷ all) (own ∷ row) within =
      let first = cell_in_front order cell own (All-head (IsCellWithin (length ranges)) cell all within) in
      let others = shown_in_front order all row (All-tail (IsCellWithin (length ranges)) cell all within) in
      (λ h. (first.0 h.0, others.0 h.1), λ h. (first.1 h.0, others.1 h.1))

-- ---- the condition, of slots with more behind them and of these alone
slots_alike : (labels : List (List ℕ)) (edges : List Edge) (slots more : List Oid) (path : BoundPathTree) → IsBoundWithin (length slots) path.start
    → ReachAlike (MeetsBy labels edges (slots ++ more)) (MeetsBy labels edges slots) path path
slots_alike labels edges slots more path within objects oid =
    let same = λ (start : Oid). bound_in_front slots more path.start start objects within in
    (λ h. (h.0, (same h.0).0 h.1, h.2), λ h. (h.0, (same h.0).1 h.1, h.2))
  where
    bound_in_front : (slots more : List Oid) (start : BoundStart) (oid : Oid) (objects : List Oid) → IsBoundWithin (length slots) start
        → BoundStartsAt (slots ++ more) objects start oid ↔ BoundStartsAt slots objects start oid
    bound_in_front slots more (bound_starts.Named own) oid objects within = (λ h. h, λ h. h)
    bound_in_front slots more (bound_starts.Slot slot) oid objects within =
        let same = slice_get-front slots more slot within in (λ h. sym same ∙ h, λ h. same ∙ h)
    bound_in_front slots more (bound_starts.Quantified depth) oid objects within = (λ h. h, λ h. h)

pub holds_in_front : (labels : List (List ℕ)) (edges : List Edge) (objects : List (Oid × Value)) (slots more : List Oid) (condition : Option (CondOf BoundPathTree))
    → All (λ path. IsBoundWithin (length slots) path.start) (paths_in condition)
    → HoldsOver labels edges objects (slots ++ more) condition ↔ HoldsOver labels edges objects slots condition
holds_in_front labels edges objects slots more None within = (λ h. h, λ h. h)
holds_in_front labels edges objects slots more (Some condition) within =
    holds_like (MeetsBy labels edges (slots ++ more)) (MeetsBy labels edges slots) (λ oid value. Contains objects (oid, value)) Compares condition condition
    (like_itself (ReachAlike (MeetsBy labels edges (slots ++ more)) (MeetsBy labels edges slots)) condition
    (λ path there. slots_alike labels edges slots more path (All-contains (λ path. IsBoundWithin (length slots) path.start) (paths_of condition) path within there))) []

-- a row passes a condition, if there is one, where that holds of it
passed_holds : {C : Type 0} (condition : Option C) (Passes : Type 0) (Has : C → Type 0) → Passes ↔ MatchOption condition (Unit {0}) Has
    → MatchOption condition (Unit {0}) (λ own. Passes) ↔ MatchOption condition (Unit {0}) Has
passed_holds None Passes Has same = (λ h. h, λ h. h)
passed_holds (Some own) Passes Has same = same

-- ---- the rows that are sought
-- what the cells show of them are the rows of the bound select
pub sought_rows : (labels : List (List ℕ)) (edges : List Edge) (objects : List (Oid × Value)) (bound : BoundTree) (passes : List Oid → Type 0) → IsRunnable bound
    → ((slots : List Oid) → passes slots ↔ HoldsOver labels edges objects slots bound.cond)
    → (row : List Cell)
    → ShowsAsked labels edges bound (IsSought labels edges passes bound) row ↔ IsRowOf labels edges objects bound row
sought_rows labels edges objects bound passes runnable same row =
    let Holds : List Oid → Type 0 = λ slots. HoldsOver labels edges objects slots bound.cond in
    let behind : List Oid → List Oid = λ slots. replicate (RANGES - length slots) (oid_of 0) in
    let long = λ (slots : List Oid) (filled : AreFilled labels edges bound.ranges slots).
    AllZip-long (λ range oid. (start : Oid) × StartsAt slots range.start start × Reaches labels edges range.path start oid) bound.ranges slots filled in
    let alike = λ (slots : List Oid) (filled : AreFilled labels edges bound.ranges slots).
    holds_in_front labels edges objects slots (behind slots) bound.cond
    (subst (λ (n : ℕ). All (λ path. IsBoundWithin n path.start) (paths_in bound.cond)) (sym (long slots filled)) runnable.condition_within) in
    let show = λ (slots : List Oid) (filled : AreFilled labels edges bound.ranges slots).
    shown_in_front labels edges bound.ranges slots (behind slots) (long slots filled) runnable.in_order bound.cells row
    runnable.cells_within in
    let passed = λ (slots : List Oid). passed_holds bound.cond (passes slots) _ (same slots) in (
      λ h.
          let sought = h.1 in
          record {
            slots = sought.slots;
            filled = sought.filled;
            holds = (alike sought.slots sought.filled).0 (subst Holds sought.is ((passed h.0).0 sought.passed));
            shown = (show sought.slots sought.filled).0
                (subst (λ (s : List Oid). ShowsRow labels edges bound s row) sought.is h.2);
          },
      λ h. (
        in_eight h.slots,
        record {
          slots = h.slots;
          filled = h.filled;
          is = refl;
          passed = (passed (in_eight h.slots)).1 ((alike h.slots h.filled).1 h.holds);
        },
        (show h.slots h.filled).1 h.shown,
      ),
    )
