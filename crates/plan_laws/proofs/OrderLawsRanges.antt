-- Steps along ranges: what holds of each of them, and which slots they fill.
use Rattle.std.proofs.Common.{◌≡◌, ◌≢◌, ℕ, zero, suc, ◌+◌, ◌<◌, ◌≤◌, List, [], ◌∷◌, length, take, drop, Some, All, Contains, subst, ap, ◌∙◌, sym, arith}
use Rattle.std.proofs.lemmas.List.Elements.{All-cons, All-head, All-tail}
use Rattle.std.proofs.lemmas.Option.{same_Some}
use Rattle.lore_base.specs.Paths.{PathTree}
use Rattle.lore_base.proofs.MemberLaws.{Contains-head, Contains-tail}
use Rattle.lorel_bound.specs.Bound.{RangeTree}
use Rattle.lorel_bound.specs.Plans.{StepTree, backward, along, back_steps}
use Rattle.plan_laws.specs.Types.{Start}
use Rattle.plan_laws.specs.Steps.{slot_of, IsLeft}

-- something holds of each range and its slot, where the first has this slot
abbrev pub OfEach : (ℕ → RangeTree → Type 0) → ℕ → List RangeTree → Type 0
OfEach Holds slot [] = Unit {0}
OfEach Holds slot (range ∷ ranges) = Holds slot range × OfEach Holds (suc slot) ranges

pub each_weaker : (Holds Other : ℕ → RangeTree → Type 0) (slot : ℕ) (ranges : List RangeTree)
    → ((own : ℕ) (range : RangeTree) → Contains ranges range → Holds own range → Other own range)
    → OfEach Holds slot ranges → OfEach Other slot ranges
each_weaker Holds Other slot [] weaker each = tt
each_weaker Holds Other slot (range ∷ ranges) weaker each = (
  weaker slot range (Contains-head range ranges) each.0,
  each_weaker Holds Other (suc slot) ranges (λ own other there. weaker own other (Contains-tail range ranges other there)) each.1,
)

-- of each is of each of the first ones, and of each behind them
pub each_split : (Holds : ℕ → RangeTree → Type 0) (slot after count : ℕ) (ranges : List RangeTree) → after ≡ slot + count
    → OfEach Holds slot ranges → OfEach Holds slot (take count ranges) × OfEach Holds after (drop count ranges)
each_split Holds slot after zero ranges is each =
    let here : slot ≡ after = omega (arith, is) in
    (tt, subst (λ (n : ℕ). OfEach Holds n ranges) here each)
each_split Holds slot after (suc count) [] is each = (tt, tt)
each_split Holds slot after (suc count) (range ∷ ranges) is each =
    let later = each_split Holds (suc slot) after count ranges (omega (arith, is)) each.1 in
    ((each.0, later.0), later.1)

pub each_join : (Holds : ℕ → RangeTree → Type 0) (slot after count : ℕ) (ranges : List RangeTree) → after ≡ slot + count
    → OfEach Holds slot (take count ranges) → OfEach Holds after (drop count ranges) → OfEach Holds slot ranges
each_join Holds slot after zero ranges is front back =
    let here : after ≡ slot = omega (arith, is) in
    subst (λ (n : ℕ). OfEach Holds n ranges) here back
each_join Holds slot after (suc count) [] is front back = tt
each_join Holds slot after (suc count) (range ∷ ranges) is front back =
    (front.0, each_join Holds (suc slot) after count ranges (omega (arith, is)) front.1 back)

-- ---- what holds of all steps along ranges
module _ (P : StepTree → Type 0) (step_of : Start → PathTree → ℕ → StepTree) where
  pub along_all : (slot : ℕ) (ranges : List RangeTree) (further : List StepTree)
      → OfEach (λ own range. P (step_of range.start range.path own)) slot ranges → All P further
      → All P (along step_of slot ranges further)
  along_all slot [] further each last = last
  along_all slot (range ∷ ranges) further each last =
      All-cons P (step_of range.start range.path slot) (along step_of (suc slot) ranges further) each.0
      (along_all (suc slot) ranges further each.1 last)

  pub all_along : (slot : ℕ) (ranges : List RangeTree) (further : List StepTree) → All P (along step_of slot ranges further)
      → OfEach (λ own range. P (step_of range.start range.path own)) slot ranges × All P further
  all_along slot [] further all = (tt, all)
  all_along slot (range ∷ ranges) further all =
      let first = step_of range.start range.path slot in
      let rest = along step_of (suc slot) ranges further in
      let later = all_along (suc slot) ranges further (All-tail P first rest all) in
      ((All-head P first rest all, later.0), later.1)

-- and against them
module _ (P : StepTree → Type 0) where
  pub back_all : (slot : ℕ) (ranges : List RangeTree) (further : List StepTree)
      → OfEach (λ own range. P (backward (suc own) range.path own)) slot ranges → All P further
      → All P (back_steps slot ranges further)
  back_all slot [] further each last = last
  back_all slot (range ∷ ranges) further each last =
      let first = backward (suc slot) range.path slot in
      back_all (suc slot) ranges (first ∷ further) each.1 (All-cons P first further each.0 last)

  pub all_back : (slot : ℕ) (ranges : List RangeTree) (further : List StepTree) → All P (back_steps slot ranges further)
      → OfEach (λ own range. P (backward (suc own) range.path own)) slot ranges × All P further
  all_back slot [] further all = (tt, all)
  all_back slot (range ∷ ranges) further all =
      let first = backward (suc slot) range.path slot in
      let later = all_back (suc slot) ranges (first ∷ further) all in
      ((All-head P first further later.1, later.0), All-tail P first further later.1)

-- ---- slots of ranges
-- another range has the slot, or none
abbrev pub IsOther : ℕ → ℕ → RangeTree → Type 0
IsOther slot own range = own ≢ slot

pub others_behind : (slot first : ℕ) (ranges : List RangeTree) → slot < first → OfEach (IsOther slot) first ranges
others_behind slot first [] low = tt
others_behind slot first (range ∷ ranges) low =
    (λ same. omega (arith, same, low), others_behind slot (suc first) ranges (omega (arith, low)))

pub others_before : (slot first : ℕ) (ranges : List RangeTree) → first + length ranges ≤ slot → OfEach (IsOther slot) first ranges
others_before slot first [] high = tt
others_before slot first (range ∷ ranges) high =
    (λ same. omega (arith, same, high), others_before slot (suc first) ranges (omega (arith, high)))

pub behind_others : (slot first : ℕ) (ranges : List RangeTree) → first ≤ slot → OfEach (IsOther slot) first ranges
    → first + length ranges ≤ slot
behind_others slot first [] low each = omega (arith, low)
behind_others slot first (range ∷ ranges) low each =
    let other : first ≢ slot = each.0 in
    let next : suc first ≤ slot = omega (arith, low, other) in
    let later = behind_others slot (suc first) ranges next each.1 in
    omega (arith, later)

-- the step doesn't fill the slot
abbrev pub Leaves : ℕ → StepTree → Type 0
Leaves slot step = slot_of step ≢ Some slot

-- ---- slots that steps along ranges leave
module _ (step_of : Start → PathTree → ℕ → StepTree)
    (fills : (start : Start) (path : PathTree) (slot : ℕ) → slot_of (step_of start path slot) ≡ Some slot) where
  pub along_left : (slot first : ℕ) (ranges : List RangeTree) (further : List StepTree) → OfEach (IsOther slot) first ranges
      → IsLeft further slot → IsLeft (along step_of first ranges further) slot
  along_left slot first ranges further others left =
      along_all (Leaves slot) step_of first ranges further
      (each_weaker (IsOther slot) (λ own range. Leaves slot (step_of range.start range.path own)) first ranges
      (λ own range there other same. other (same_Some own slot (sym (fills range.start range.path own) ∙ same))) others)
      left

  pub left_along : (slot first : ℕ) (ranges : List RangeTree) (further : List StepTree)
      → IsLeft (along step_of first ranges further) slot → OfEach (IsOther slot) first ranges × IsLeft further slot
  left_along slot first ranges further left =
      let parts = all_along (Leaves slot) step_of first ranges further left in (
        each_weaker (λ own range. Leaves slot (step_of range.start range.path own)) (IsOther slot) first ranges
            (λ own range there leaves same. leaves (fills range.start range.path own ∙ ap Some same)) parts.0,
        parts.1,
      )

pub back_left : (slot first : ℕ) (ranges : List RangeTree) (further : List StepTree) → OfEach (IsOther slot) first ranges
    → IsLeft further slot → IsLeft (back_steps first ranges further) slot
back_left slot first ranges further others left =
    back_all (Leaves slot) first ranges further
    (each_weaker (IsOther slot) (λ own range. Leaves slot (backward (suc own) range.path own)) first ranges
    (λ own range there other same. other (same_Some own slot same)) others) left

pub left_back : (slot first : ℕ) (ranges : List RangeTree) (further : List StepTree)
    → IsLeft (back_steps first ranges further) slot → OfEach (IsOther slot) first ranges × IsLeft further slot
left_back slot first ranges further left =
    let parts = all_back (Leaves slot) first ranges further left in (
      each_weaker (λ own range. Leaves slot (backward (suc own) range.path own)) (IsOther slot) first ranges
          (λ own range there leaves same. leaves (ap Some same)) parts.0,
      parts.1,
    )
