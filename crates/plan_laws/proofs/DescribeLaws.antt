-- Plans describe the rows that are sought: their steps fill the slots of the ranges, and ask together what the ranges ask
-- and what the condition asks.
use Rattle.std.proofs.Common.{◌≡◌, ◌≢◌, ◌↔◌, ℕ, zero, suc, ◌+◌, ◌-◌, ◌<◌, ◌≤◌, List, [], ◌∷◌, length, take, drop, Option, Some, None, MatchOption, All, AllPairs, Contains, subst, refl, sym, ap, arith, length-take-le, length-drop}
use Rattle.std.specs.List.{slice_get}
use Rattle.std.proofs.lemmas.List.Elements.{All-nil, All-cons, All-head, All-tail}
use Rattle.std.proofs.lemmas.Option.{same_Some, none-some}
use Rattle.lore_base.specs.Paths.{PathTree, Reaches}
use Rattle.lore_base.proofs.WalkLaws.{Walk-within}
use Rattle.lorel_bound.specs.Conditions.{CondOf}
use Rattle.lorel_bound.specs.Bound.{RangeTree, BoundPathTree, BoundTree}
use Rattle.lorel_bound.specs.Runnable.{IsRunnable}
use Rattle.lorel_bound.specs.SlotRows.{StartsAt, HoldsOver}
use Rattle.lorel_bound.specs.Plans.{StepTree, forward, from_value, backward, check, filter, Probe, FollowOn, IsChain, tests, along, guided_step, back_steps, bottom_steps, AreStepsOf}
use Rattle.plan_laws.specs.Types.{Oid, Label, Edge, Value, Start, RANGES, PlanKind}
use Rattle.plan_laws.specs.Types.starts
use Rattle.plan_laws.specs.Types.plan_kinds
use Rattle.plan_laws.specs.Steps.{StepsOver, Connects, Meets, IsLeft, Finishes, in_eight, IsSought, Agrees}
use Rattle.plan_laws.specs.Laws.{over_database, StepsDescribeRows}
use Rattle.plan_laws.proofs.OrderLawsRanges.{OfEach, each_weaker, each_split, each_join, along_all, all_along, back_all, all_back, others_before, behind_others, Leaves, along_left, left_along, back_left, left_back}
use Rattle.plan_laws.proofs.OrderLaws.{AreMade, forward_made, guided_made, tests_left}
use Rattle.plan_laws.proofs.DescribeLawsRows.{Asks, filled_in_eight, asked_in_eight}
use Rattle.plan_laws.proofs.DescribeLawsProbe.{probe_within, probe_met}

module _ (over : StepsOver) where
  -- what a range asks of a row where its slot is this one, along the edges
  abbrev RangeAsks : List Oid → ℕ → RangeTree → Type 0
  RangeAsks = Asks over.labels over.edges

  abbrev IsMetBy : List Oid → StepTree → Type 0
  IsMetBy row step = Meets over step row

  -- the row passes the condition, if there is one
  abbrev PassesIf : Option (CondOf BoundPathTree) → List Oid → Type 0
  PassesIf condition row = MatchOption condition (Unit {0}) (λ _. over.passes row)

  -- steps fill exactly the slots of the ranges, and ask together what the ranges and the condition ask
  pub record AskAlike (ranges : List RangeTree) (condition : Option (CondOf BoundPathTree)) (steps : List StepTree) : Type 0 where
    pub filled : (slot : ℕ) → IsLeft steps slot ↔ (length ranges ≤ slot)
    pub asked : (row : List Oid) → length row ≡ RANGES
        → All (λ step. Meets over step row) steps ↔ (OfEach (RangeAsks row) 0 ranges × PassesIf condition row)

  -- ---- such steps describe the rows that are sought
  alike_describe : (bound : BoundTree) (steps : List StepTree) → IsRunnable bound → AskAlike bound.ranges bound.cond steps
      → (row : List Oid) → Finishes over steps (in_eight []) row ↔ IsSought over.labels over.edges over.passes bound row
  alike_describe bound steps runnable alike row = (
    λ done.
        let asked = (alike.asked row done.eight).0 done.met in
        let made = filled_in_eight over.labels over.edges bound.ranges runnable.in_order runnable.few_ranges row done.eight
        (λ slot high. done.same slot ((alike.filled slot).1 high)) asked.0 in
        record { slots = made.0; filled = made.1; is = made.2; passed = asked.1 },
    λ sought.
        let made = asked_in_eight over.labels over.edges bound.ranges runnable.in_order runnable.few_ranges sought.slots sought.filled in
        let row_is : in_eight sought.slots ≡ row = sym sought.is in
        let eight : length row ≡ RANGES = subst (λ (r : List Oid). length r ≡ RANGES) row_is made.0 in
        record {
          eight = eight;
          same = λ slot left. subst (λ (r : List Oid). slice_get r slot ≡ slice_get (in_eight []) slot) row_is (made.1 slot ((alike.filled slot).0 left));
          met = (alike.asked row eight).1 (subst (λ (r : List Oid). OfEach (RangeAsks r) 0 bound.ranges) row_is made.2, sought.passed);
        },
  )

  -- ---- the condition is tested last
  tests_met : (condition : Option (CondOf BoundPathTree)) (row : List Oid) → All (IsMetBy row) (tests condition) ↔ PassesIf condition row
  tests_met None row = (λ met. tt, λ passes. All-nil (IsMetBy row))
  tests_met (Some condition) row =
      (λ met. All-head (IsMetBy row) filter [] met, λ passes. All-cons (IsMetBy row) filter [] passes (All-nil (IsMetBy row)))

  -- ---- steps along the ranges
  -- each asks what its range asks
  abbrev AsksTheSame : (Start → PathTree → ℕ → StepTree) → List RangeTree → Type 0
  AsksTheSame step_of ranges = (row : List Oid) (slot : ℕ) (range : RangeTree) → Contains ranges range
      → Meets over (step_of range.start range.path slot) row ↔ RangeAsks row slot range

  along_alike : (step_of : Start → PathTree → ℕ → StepTree) (ranges : List RangeTree) (condition : Option (CondOf BoundPathTree))
      → AreMade step_of → AsksTheSame step_of ranges → AskAlike ranges condition (along step_of 0 ranges (tests condition))
  along_alike step_of ranges condition made same = record {
    filled = λ slot. (
      λ left.
          let all = behind_others slot 0 ranges (omega arith) (left_along step_of made.fills slot 0 ranges (tests condition) left).0 in
          omega (arith, all),
      λ high. along_left step_of made.fills slot 0 ranges (tests condition) (others_before slot 0 ranges (omega (arith, high))) (tests_left condition slot),
    );
    asked = λ row eight. (
      λ met.
          let parts = all_along (IsMetBy row) step_of 0 ranges (tests condition) met in (
            each_weaker (λ own range. Meets over (step_of range.start range.path own) row) (RangeAsks row) 0 ranges
                (λ own range there. (same row own range there).0) parts.0,
            (tests_met condition row).0 parts.1,
          ),
      λ asked. along_all (IsMetBy row) step_of 0 ranges (tests condition)
          (each_weaker (RangeAsks row) (λ own range. Meets over (step_of range.start range.path own) row) 0 ranges
          (λ own range there. (same row own range there).1) asked.0)
          ((tests_met condition row).1 asked.1),
    );
  }

  top_alike : (ranges : List RangeTree) (condition : Option (CondOf BoundPathTree))
      → AskAlike ranges condition (along forward 0 ranges (tests condition))
  top_alike ranges condition = along_alike forward ranges condition forward_made (λ row slot range there. (λ met. met, λ asked. asked))

  -- the guide tells what is reached from the names
  guided_same : (start : Start) (path : PathTree) (row : List Oid) (slot : ℕ)
      → ((named : Oid) → start ≡ starts.Named named → (oid : Oid) → over.reaches path named oid ↔ Reaches over.labels over.edges path named oid)
      → Meets over (guided_step start path slot) row ↔ Connects (Reaches over.labels over.edges path) row start (starts.Slot slot)
  guided_same (starts.Slot own) path row slot told = (λ met. met, λ asked. asked)
  guided_same (starts.Named named) path row slot told = (
    λ met. record {
      from = met.from;
      to = met.to;
      begins = met.begins;
      ends = met.ends;
      leads = subst (λ (o : Oid). Reaches over.labels over.edges path o met.to) met.begins
          ((told named refl met.to).0 (subst (λ (o : Oid). over.reaches path o met.to) (sym met.begins) met.leads));
    },
    λ asked. record {
      from = asked.from;
      to = asked.to;
      begins = asked.begins;
      ends = asked.ends;
      leads = subst (λ (o : Oid). over.reaches path o asked.to) asked.begins
          ((told named refl asked.to).1 (subst (λ (o : Oid). Reaches over.labels over.edges path o asked.to) (sym asked.begins) asked.leads));
    },
  )

  guided_alike : (objects : List (Oid × Value)) (bound : BoundTree) → Agrees over objects bound
      → AskAlike bound.ranges bound.cond (along guided_step 0 bound.ranges (tests bound.cond))
  guided_alike objects bound agrees = along_alike guided_step bound.ranges bound.cond guided_made
      (λ row slot range there. guided_same range.start range.path row slot (λ named is. agrees.reached named (range, there, is) range.path))

  -- ---- steps against the ranges
  module _ (links : (edge : Edge) → Contains over.links edge ↔ Contains over.edges edge) where
    forth : (path : PathTree) (from to : Oid) → Reaches over.labels over.links path from to → Reaches over.labels over.edges path from to
    forth path from to reached = (reached.0, reached.1, Walk-within over.links over.edges (λ edge. (links edge).0) from reached.0 to reached.2)

    back : (path : PathTree) (from to : Oid) → Reaches over.labels over.edges path from to → Reaches over.labels over.links path from to
    back path from to reached = (reached.0, reached.1, Walk-within over.edges over.links (λ edge. (links edge).1) from reached.0 to reached.2)

    -- what is asked along the edges is asked along the links
    same_along : (row : List Oid) (range : RangeTree) (start target : Start) → range.start ≡ start
        → Connects (Reaches over.labels over.links range.path) row start target
        ↔ Connects (Reaches over.labels over.edges range.path) row range.start target
    same_along row range start target is = (
      λ linked. record {
        from = linked.from;
        to = linked.to;
        begins = subst (λ (s : Start). StartsAt row s linked.from) (sym is) linked.begins;
        ends = linked.ends;
        leads = forth range.path linked.from linked.to linked.leads;
      },
      λ asked. record {
        from = asked.from;
        to = asked.to;
        begins = subst (λ (s : Start). StartsAt row s asked.from) is asked.begins;
        ends = asked.ends;
        leads = back range.path asked.from asked.to asked.leads;
      },
    )

    -- the step back into the slot before
    abbrev IsLinked : List Oid → ℕ → RangeTree → Type 0
    IsLinked row own range = Meets over (backward (suc own) range.path own) row

    chain_asked : (row : List Oid) (slot : ℕ) (ranges : List RangeTree) → FollowOn slot ranges
        → OfEach (IsLinked row) slot ranges → OfEach (RangeAsks row) (suc slot) ranges
    chain_asked row slot [] chain each = tt
    chain_asked row slot (range ∷ ranges) chain each = (
      (same_along row range (starts.Slot slot) (starts.Slot (suc slot)) chain.0).0 each.0,
      chain_asked row (suc slot) ranges chain.1 each.1,
    )

    chain_linked : (row : List Oid) (slot : ℕ) (ranges : List RangeTree) → FollowOn slot ranges
        → OfEach (RangeAsks row) (suc slot) ranges → OfEach (IsLinked row) slot ranges
    chain_linked row slot [] chain each = tt
    chain_linked row slot (range ∷ ranges) chain each = (
      (same_along row range (starts.Slot slot) (starts.Slot (suc slot)) chain.0).1 each.0,
      chain_linked row (suc slot) ranges chain.1 each.1,
    )

    follow_take : (count slot : ℕ) (ranges : List RangeTree) → FollowOn slot ranges → FollowOn slot (take count ranges)
    follow_take zero slot ranges chain = tt
    follow_take (suc count) slot [] chain = tt
    follow_take (suc count) slot (range ∷ ranges) chain = (chain.0, follow_take count (suc slot) ranges chain.1)

    -- ---- a plan from the bottom
    module _ (named : Oid) (probe : Probe) (label : Option Label) (first : RangeTree) (others : List RangeTree)
        (condition : Option (CondOf BoundPathTree)) (low : probe.slot ≤ length others) where
      abbrev before : List RangeTree
      before = take probe.slot others

      abbrev behind : List RangeTree
      behind = drop probe.slot others

      abbrev last : List StepTree
      last = along forward (suc probe.slot) behind (tests condition)

      abbrev checking : StepTree
      checking = check 0 first.path named

      abbrev beginning : StepTree
      beginning = from_value label probe.op probe.value probe.rest probe.slot

      abbrev further : List StepTree
      further = back_steps 0 before (checking ∷ last)

      bottom_left : (slot : ℕ) → IsLeft (beginning ∷ further) slot → suc (length others) ≤ slot
      bottom_left slot left =
          let first_other = All-head (Leaves slot) beginning further left in
          let backs = left_back slot 0 before (checking ∷ last) (All-tail (Leaves slot) beginning further left) in
          let lasts = left_along forward forward_made.fills slot (suc probe.slot) behind (tests condition) (All-tail (Leaves slot) checking last backs.1) in
          let front : length before ≡ probe.slot = length-take-le probe.slot others low in
          let back : length behind ≡ length others - probe.slot = length-drop probe.slot others in
          let up : 0 + length before ≤ slot = behind_others slot 0 before (omega arith) backs.0 in
          let other : probe.slot ≢ slot = λ is. first_other (ap Some is) in
          let next : suc probe.slot ≤ slot = omega (arith, up, front, other) in
          let all : suc probe.slot + length behind ≤ slot = behind_others slot (suc probe.slot) behind next lasts.0 in
          omega (arith, all, back, low)

      left_bottom : (slot : ℕ) → suc (length others) ≤ slot → IsLeft (beginning ∷ further) slot
      left_bottom slot high =
          let front : length before ≡ probe.slot = length-take-le probe.slot others low in
          let back : length behind ≡ length others - probe.slot = length-drop probe.slot others in
          let lasts = along_left forward forward_made.fills slot (suc probe.slot) behind (tests condition)
          (others_before slot (suc probe.slot) behind (omega (arith, high, back, low))) (tests_left condition slot) in
          let checked = All-cons (Leaves slot) checking last (λ is. none-some slot is) lasts in
          All-cons (Leaves slot) beginning further (λ is. omega (arith, same_Some probe.slot slot is, high, low))
          (back_left slot 0 before (checking ∷ last) (others_before slot 0 before (omega (arith, high, front, low))) checked)

      bottom_asked : first.start ≡ starts.Named named → FollowOn 0 others → (row : List Oid)
          → All (IsMetBy row) (beginning ∷ further) → OfEach (RangeAsks row) 0 (first ∷ others) × PassesIf condition row
      bottom_asked begins chain row met =
          let backs = all_back (IsMetBy row) 0 before (checking ∷ last) (All-tail (IsMetBy row) beginning further met) in
          let checked = All-head (IsMetBy row) checking last backs.1 in
          let lasts = all_along (IsMetBy row) forward (suc probe.slot) behind (tests condition) (All-tail (IsMetBy row) checking last backs.1) in
          let asked = chain_asked row 0 before (follow_take probe.slot 0 others chain) backs.0 in (
            (
              (same_along row first (starts.Named named) (starts.Slot 0) begins).0 checked,
              each_join (RangeAsks row) 1 (suc probe.slot) probe.slot others (omega arith) asked lasts.0,
            ),
            (tests_met condition row).0 lasts.1,
          )

      asked_bottom : first.start ≡ starts.Named named → FollowOn 0 others → (row : List Oid)
          → (PassesIf condition row → Meets over beginning row)
          → OfEach (RangeAsks row) 0 (first ∷ others) × PassesIf condition row → All (IsMetBy row) (beginning ∷ further)
      asked_bottom begins chain row probed asked =
          let parts = each_split (RangeAsks row) 1 (suc probe.slot) probe.slot others (omega arith) asked.0.1 in
          let linked = chain_linked row 0 before (follow_take probe.slot 0 others chain) parts.0 in
          let checked = (same_along row first (starts.Named named) (starts.Slot 0) begins).1 asked.0.0 in
          let lasts = along_all (IsMetBy row) forward (suc probe.slot) behind (tests condition) parts.1 ((tests_met condition row).1 asked.1) in
          All-cons (IsMetBy row) beginning further (probed asked.1)
          (back_all (IsMetBy row) 0 before (checking ∷ last) linked (All-cons (IsMetBy row) checking last checked lasts))

    bottom_alike : (named : Oid) (probe : Probe) (label : Option Label) (ranges : List RangeTree) (condition : Option (CondOf BoundPathTree))
        → IsChain named ranges → probe.slot < length ranges
        → ((row : List Oid) → length row ≡ RANGES → PassesIf condition row
        → Meets over (from_value label probe.op probe.value probe.rest probe.slot) row)
        → AskAlike ranges condition (bottom_steps named probe label ranges (tests condition))
    bottom_alike named probe label [] condition chain within probed = absurd chain
    bottom_alike named probe label (first ∷ others) condition chain within probed =
        let low : probe.slot ≤ length others = omega (arith, within) in
        record {
          filled = λ slot. (bottom_left named probe label first others condition low slot, left_bottom named probe label first others condition low slot);
          asked = λ row eight. (
            bottom_asked named probe label first others condition low chain.0 chain.1 row,
            asked_bottom named probe label first others condition low chain.0 chain.1 row (probed row eight),
          );
        }

  -- a condition that is there, and of which the row passes
  passes_holds : (objects : List (Oid × Value)) (bound : BoundTree) → Agrees over objects bound → (condition : CondOf BoundPathTree)
      → bound.cond ≡ Some condition → (row : List Oid) → length row ≡ RANGES → PassesIf bound.cond row
      → HoldsOver over.labels over.edges objects row bound.cond
  passes_holds objects bound agrees condition is row eight passes =
      (agrees.passed row eight).0 (subst (λ (c : Option (CondOf BoundPathTree)). PassesIf c row) is passes)

  -- ---- the steps of a plan finish exactly the rows that the bound select seeks: of a plan from the top over anything,
  pub top_describes : (bound : BoundTree) (steps : List StepTree) → IsRunnable bound
      → AreStepsOf over.labels bound plan_kinds.Top steps
      → (row : List Oid) → Finishes over steps (in_eight []) row ↔ IsSought over.labels over.edges over.passes bound row
  top_describes bound steps runnable are =
      alike_describe bound steps runnable
      (subst (AskAlike bound.ranges bound.cond) (sym are) (top_alike bound.ranges bound.cond))

  -- and of every plan where all that it is taken over agrees
  pub plan_describes : (objects : List (Oid × Value)) (bound : BoundTree) (kind : PlanKind) (steps : List StepTree)
      → AllPairs (λ a b. a ≢ b) over.labels → IsRunnable bound → AreStepsOf over.labels bound kind steps
      → Agrees over objects bound
      → (row : List Oid) → Finishes over steps (in_eight []) row ↔ IsSought over.labels over.edges over.passes bound row
  plan_describes objects bound plan_kinds.Top steps apart runnable are agrees = top_describes bound steps runnable are
  plan_describes objects bound plan_kinds.Guided steps apart runnable are agrees =
      alike_describe bound steps runnable
      (subst (AskAlike bound.ranges bound.cond) (sym are) (guided_alike objects bound agrees))
  plan_describes objects bound plan_kinds.Bottom steps apart runnable are agrees =
      let probed : (row : List Oid) → length row ≡ RANGES → PassesIf bound.cond row
      → Meets over (from_value are.label are.probe.op are.probe.value are.probe.rest are.probe.slot) row = λ row eight passes.
      probe_met over objects apart agrees.entries agrees.links bound are.named are.probe are.label row are.can are.labelled
      (passes_holds objects bound agrees are.can.condition are.can.is row eight passes) in
      let within = probe_within bound are.named are.probe runnable are.can in
      alike_describe bound steps runnable
      (subst (AskAlike bound.ranges bound.cond) (sym are.are)
      (bottom_alike agrees.links are.named are.probe are.label bound.ranges bound.cond are.can.chain within probed))

pub steps_describe_rows : StepsDescribeRows
steps_describe_rows labels edges objects links entries bound kind steps apart linked listed runnable are =
    plan_describes (over_database labels edges objects links entries bound) objects bound kind steps apart runnable are (record {
      links = linked.exact;
      entries = listed;
      reached = λ named starts_there path oid. (λ reached. reached, λ reached. reached);
      passed = λ row eight. (λ passes. passes, λ holds. holds);
    })
