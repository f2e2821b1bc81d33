-- The steps of each kind of plan stand in an order in which each finds what it reads.
use Rattle.std.proofs.Common.{◌≡◌, ◌≢◌, ℕ, zero, suc, ◌+◌, ◌-◌, ◌<◌, ◌≤◌, List, [], ◌∷◌, length, take, drop, Option, Some, None, subst, refl, sym, arith, length-take-le, length-drop}
use Rattle.std.proofs.lemmas.List.Elements.{All-nil, All-cons}
use Rattle.std.proofs.lemmas.Option.{same_Some, none-some}
use Rattle.lore_base.specs.Paths.{PathTree}
use Rattle.lorel_bound.specs.Conditions.{CondOf}
use Rattle.lorel_bound.specs.Bound.{RangeTree, BoundPathTree, BoundTree}
use Rattle.lorel_bound.specs.Runnable.{IsWithin, AreInOrder, IsRunnable}
use Rattle.lorel_bound.specs.Plans.{StepTree, forward, backward, check, filter, Probe, tests, along, guided_step, back_steps, bottom_steps, AreStepsOf}
use Rattle.plan_laws.specs.Types.{Oid, Label, Start, RANGES, PlanKind}
use Rattle.plan_laws.specs.Types.starts
use Rattle.plan_laws.specs.Types.plan_kinds
use Rattle.plan_laws.specs.Steps.{slot_of, IsLeft}
use Rattle.plan_laws.specs.Orders.{IsSettled, IsThere, Stands, AreStepsInOrder}
use Rattle.plan_laws.proofs.OrderLawsRanges.{others_behind, others_before, Leaves, along_left, back_left}
use Rattle.plan_laws.proofs.DescribeLawsProbe.{probe_within}

-- steps that fill the slot which they are made for, and find what they read where their start is there
pub record AreMade (step_of : Start → PathTree → ℕ → StepTree) : Type 0 where
  pub fills : (start : Start) (path : PathTree) (slot : ℕ) → slot_of (step_of start path slot) ≡ Some slot
  pub stands : (start : Start) (path : PathTree) (slot : ℕ) (later : List StepTree) → IsSettled later slot
      → IsThere later start slot → Stands (step_of start path slot) later

pub forward_made : AreMade forward
forward_made = record { fills = λ start path slot. refl; stands = λ start path slot later settled there. (settled, there) }

guided_fills : (start : Start) (path : PathTree) (slot : ℕ) → slot_of (guided_step start path slot) ≡ Some slot
guided_fills (starts.Named named) path slot = refl
guided_fills (starts.Slot own) path slot = refl

guided_stands : (start : Start) (path : PathTree) (slot : ℕ) (later : List StepTree) → IsSettled later slot
    → IsThere later start slot → Stands (guided_step start path slot) later
guided_stands (starts.Named named) path slot later settled there = settled
guided_stands (starts.Slot own) path slot later settled there = (settled, there)

pub guided_made : AreMade guided_step
guided_made = record { fills = guided_fills; stands = guided_stands }

-- ---- the condition is tested last
pub tests_left : (condition : Option (CondOf BoundPathTree)) (slot : ℕ) → IsLeft (tests condition) slot
tests_left None slot = All-nil (Leaves slot)
tests_left (Some condition) slot = All-cons (Leaves slot) filter [] (λ is. none-some slot is) (All-nil (Leaves slot))

tests_in_order : (condition : Option (CondOf BoundPathTree)) → AreStepsInOrder (tests condition)
tests_in_order None = tt
tests_in_order (Some condition) = (refl, tt)

-- ---- steps along ranges
start_there : (later : List StepTree) (start : Start) (slot : ℕ) → IsWithin slot start
    → ((own : ℕ) → own < slot → IsSettled later own) → IsThere later start slot
start_there later (starts.Named named) slot within settled = tt
start_there later (starts.Slot own) slot within settled = (settled own within, λ same. omega (arith, same, within))

along_in_order : (step_of : Start → PathTree → ℕ → StepTree) → AreMade step_of → (slot : ℕ) (ranges : List RangeTree)
    (further : List StepTree) → AreInOrder slot ranges → slot + length ranges ≤ RANGES
    → ((own : ℕ) → IsLeft further own) → AreStepsInOrder further → AreStepsInOrder (along step_of slot ranges further)
along_in_order step_of made slot [] further within few left order = order
along_in_order step_of made slot (range ∷ ranges) further within few left order =
    let later = along step_of (suc slot) ranges further in
    let settled : (own : ℕ) → own < suc slot → IsSettled later own = λ own low.
    (omega (arith, low, few), along_left step_of made.fills own (suc slot) ranges further (others_behind own (suc slot) ranges low) (left own)) in
    let there = start_there later range.start slot within.0 (λ own low. settled own (omega (arith, low))) in (
      made.stands range.start range.path slot later (settled slot (omega arith)) there,
      along_in_order step_of made (suc slot) ranges further within.1 (omega (arith, few)) left order,
    )

-- ---- steps against ranges
filled_before : (slot own : ℕ) → slot < own → Some slot ≢ Some own
filled_before slot own low same = let is : slot ≡ own = same_Some slot own same in omega (arith, is, low)

apart : (slot : ℕ) → suc slot ≢ slot
apart slot same = omega (arith, same)

back_in_order : (slot last : ℕ) (ranges : List RangeTree) (further : List StepTree) → last ≡ slot + length ranges → last < RANGES
    → ((own : ℕ) → slot ≤ own → own ≤ last → IsLeft further own) → AreStepsInOrder further
    → AreStepsInOrder (back_steps slot ranges further)
back_in_order slot last [] further is few left order = order
back_in_order slot last (range ∷ ranges) further is few left order =
    let first = backward (suc slot) range.path slot in
    let parent : IsSettled further slot = (omega (arith, is, few), left slot (omega arith) (omega (arith, is))) in
    let child : IsSettled further (suc slot) = (omega (arith, is, few), left (suc slot) (omega arith) (omega (arith, is))) in
    let others : (own : ℕ) → suc slot ≤ own → own ≤ last → IsLeft (first ∷ further) own = λ own low high.
    All-cons (Leaves own) first further (filled_before slot own low) (left own (omega (arith, low)) high) in
    back_in_order (suc slot) last ranges (first ∷ further) (omega (arith, is)) few others ((parent, child, apart slot), order)

-- ---- a plan from the bottom
ranges_drop : (count slot after : ℕ) (ranges : List RangeTree) → after ≡ slot + count → AreInOrder slot ranges
    → AreInOrder after (drop count ranges)
ranges_drop zero slot after ranges is order =
    let here : slot ≡ after = omega (arith, is) in
    subst (λ (n : ℕ). AreInOrder n ranges) here order
ranges_drop (suc count) slot after [] is order = tt
ranges_drop (suc count) slot after (range ∷ ranges) is order = ranges_drop count (suc slot) after ranges (omega (arith, is)) order.1

bottom_in_order : (named : Oid) (probe : Probe) (label : Option Label) (ranges : List RangeTree) (condition : Option (CondOf BoundPathTree))
    → AreInOrder 0 ranges → length ranges ≤ RANGES → probe.slot < length ranges
    → AreStepsInOrder (bottom_steps named probe label ranges (tests condition))
bottom_in_order named probe label [] condition order few within = tests_in_order condition
bottom_in_order named probe label (first ∷ others) condition order few within =
    let at = probe.slot in
    let before = take at others in
    let behind = drop at others in
    let within_others : at ≤ length others = omega (arith, within) in
    let front : length before ≡ at = length-take-le at others within_others in
    let back : length behind ≡ length others - at = length-drop at others in
    let last = along forward (suc at) behind (tests condition) in
    let checking = check 0 first.path named in
    let last_left : (own : ℕ) → own < suc at → IsLeft last own = λ own low.
    along_left forward forward_made.fills own (suc at) behind (tests condition) (others_behind own (suc at) behind low) (tests_left condition own) in
    let left : (own : ℕ) → own < suc at → IsLeft (checking ∷ last) own = λ own low.
    All-cons (Leaves own) checking last (λ is. none-some own is) (last_left own low) in
    let last_order = along_in_order forward forward_made (suc at) behind (tests condition)
    (ranges_drop at 1 (suc at) others (omega arith) order.1) (omega (arith, back, within, few)) (tests_left condition) (tests_in_order condition) in
    let checked : AreStepsInOrder (checking ∷ last) = ((omega (arith, few), last_left 0 (omega arith)), last_order) in
    let steps = back_steps 0 before (checking ∷ last) in (
      (omega (arith, within, few), back_left at 0 before (checking ∷ last) (others_before at 0 before (omega (arith, front))) (left at (omega arith))),
      back_in_order 0 at before (checking ∷ last) (omega (arith, front)) (omega (arith, within, few))
          (λ own low high. left own (omega (arith, high))) checked,
    )

-- the steps of each kind of plan for a bound select that can be run stand in order
pub steps_in_order : (labels : List (List ℕ)) (bound : BoundTree) (kind : PlanKind) (steps : List StepTree)
    → IsRunnable bound → AreStepsOf labels bound kind steps → AreStepsInOrder steps
steps_in_order labels bound plan_kinds.Top steps runnable are =
    subst AreStepsInOrder (sym are) (along_in_order forward forward_made 0 bound.ranges (tests bound.cond) runnable.in_order (omega (arith, runnable.few_ranges)) (tests_left bound.cond) (tests_in_order bound.cond))
steps_in_order labels bound plan_kinds.Guided steps runnable are =
    subst AreStepsInOrder (sym are) (along_in_order guided_step guided_made 0 bound.ranges (tests bound.cond) runnable.in_order (omega (arith, runnable.few_ranges)) (tests_left bound.cond) (tests_in_order bound.cond))
steps_in_order labels bound plan_kinds.Bottom steps runnable are =
    subst AreStepsInOrder (sym are.are) (bottom_in_order are.named are.probe are.label bound.ranges bound.cond runnable.in_order runnable.few_ranges (probe_within bound are.named are.probe runnable are.can))
