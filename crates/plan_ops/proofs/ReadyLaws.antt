-- The steps of each kind of plan can be made ready.
use Rattle.std.proofs.Common.{◌≡◌, ℕ, suc, ◌+◌, ◌<◌, ◌≤◌, inl, inr, List, [], ◌∷◌, ◌++◌, length, get_or, map, take, drop, Option, Some, None, refl, subst, sym, ap, ◌∙◌, arith}
use Rattle.std.specs.List.{All, Contains, sum_by}
use Rattle.std.proofs.lemmas.List.Elements.{All-nil, All-cons, All-head, All-tail, All-take, All-drop, Contains-append_left, Contains-append_right}
use Rattle.std.proofs.lemmas.List.{length-map, get_or-map, map_push, map_more}
use Rattle.std.proofs.lemmas.List.Sums.{get_or-le-sum_by}
use Rattle.lore_base.specs.Paths.{PathTree, leaves}
use Rattle.lore_base.proofs.MemberLaws.{Contains-head}
use Rattle.lorel_bound.specs.declared.conditions.BoundStart.TheVariants as bound_starts
use Rattle.lorel_bound.specs.Conditions.{CondOf, CondsOf, and, or, not, exists, for_all, same, compare, no_cond, cond, paths_of, paths_of_all, paths_in}
use Rattle.lorel_bound.specs.Bound.{RangeTree, BoundPathTree, BoundTree}
use Rattle.lorel_bound.specs.Runnable.{IsRunnable}
use Rattle.lorel_bound.specs.declared.plans.PlanStep.{PlanStep}
use Rattle.lorel_bound.specs.Plans.{StepTree, step_tree, forward, from_value, backward, check, Probe, IsFitting, IsFirstFitting, IsTaken, CanBeBottom, tests, along, guided_step, back_steps, bottom_steps, AreStepsOf}
use Rattle.row_hints.specs.declared.told.Told.{Told}
use Rattle.row_hints.specs.Told.{AreTold}
use Rattle.plan_ops.specs.Types.{Oid, Label, Start, LEAVES, RANGES, PlanKind, PartialRow}
use Rattle.plan_ops.specs.Types.starts
use Rattle.plan_ops.specs.Types.plan_kinds
use Rattle.plan_laws.specs.Steps.{StepsOver, Finishes, in_eight}
use Rattle.plan_ops.specs.Rows.{AreApart}
use Rattle.plan_ops.specs.inside.Offers.{partial_at}
use Rattle.plan_laws.specs.Orders.{CanBeReady}
use Rattle.plan_ops.specs.inside.Ready.{ReadyStep, ready_tree, HasFound}
use Rattle.plan_ops.specs.inside.Keeping.{Kept, AreKeptBy}
use Rattle.plan_ops.specs.inside.Machines.{IsReadyMachine}
use Rattle.plan_laws.proofs.OrderLaws.{steps_in_order}
use Rattle.plan_ops.proofs.DescribeLawsToCome.{AreFirst, finished_to_come}

abbrev HasFew : RangeTree → Type 0
HasFew range = leaves range.path ≤ LEAVES

few_of_all : (bound : BoundTree) → IsRunnable bound → All HasFew bound.ranges
few_of_all bound runnable k d within =
    omega (arith, get_or-le-sum_by (λ (range : RangeTree). leaves range.path) bound.ranges k d within, runnable.few_leaves)

tests_can : (condition : Option (CondOf BoundPathTree)) → All CanBeReady (tests condition)
tests_can None = All-nil CanBeReady
tests_can (Some condition) = All-cons CanBeReady _ [] tt (All-nil CanBeReady)

along_can : (step_of : Start → PathTree → ℕ → StepTree) → ((start : Start) (path : PathTree) (slot : ℕ) → leaves path ≤ LEAVES → CanBeReady (step_of start path slot))
    → (slot : ℕ) (ranges : List RangeTree) (further : List StepTree) → All HasFew ranges → All CanBeReady further → All CanBeReady (along step_of slot ranges further)
along_can step_of one slot [] further few can = can
along_can step_of one slot (range ∷ ranges) further few can =
    All-cons CanBeReady (step_of range.start range.path slot) (along step_of (suc slot) ranges further)
    (one range.start range.path slot (All-head HasFew range ranges few))
    (along_can step_of one (suc slot) ranges further (All-tail HasFew range ranges few) can)

guided_can : (start : Start) (path : PathTree) (slot : ℕ) → leaves path ≤ LEAVES → CanBeReady (guided_step start path slot)
guided_can (starts.Named named) path slot few = few
guided_can (starts.Slot own) path slot few = few

back_can : (slot : ℕ) (ranges : List RangeTree) (further : List StepTree) → All HasFew ranges → All CanBeReady further → All CanBeReady (back_steps slot ranges further)
back_can slot [] further few can = can
back_can slot (range ∷ ranges) further few can =
    back_can (suc slot) ranges (backward (suc slot) range.path slot ∷ further) (All-tail HasFew range ranges few)
    (All-cons CanBeReady (backward (suc slot) range.path slot) further (All-head HasFew range ranges few) can)

-- a comparison that is taken fits, and its path is one of the condition
abbrev begun_at : Probe → BoundPathTree
begun_at probe = record { start = bound_starts.Slot probe.slot; rest = probe.rest }

record Fitting (paths : List BoundPathTree) (probe : Probe) : Type 0 where
  pub condition : CondOf BoundPathTree
  pub fits : IsFitting condition probe
  pub among : Contains paths (begun_at probe)

whole_fits : (condition : CondOf BoundPathTree) (probe : Probe) → IsFitting condition probe → Fitting (paths_of condition) probe
whole_fits condition probe fits = record {
  condition = condition;
  fits = fits;
  among = subst (λ (c : CondOf BoundPathTree). Contains (paths_of c) (begun_at probe)) (sym fits.compares) (Contains-head (begun_at probe) []);
}

first_fits : (members : CondsOf BoundPathTree) (probe : Probe) → IsFirstFitting members probe → Fitting (paths_of_all members) probe
first_fits no_cond probe first = absurd first
first_fits (cond member others) probe (inl fits) = record {
  condition = member;
  fits = fits;
  among = Contains-append_left (paths_of member) (paths_of_all others) (begun_at probe) (whole_fits member probe fits).among;
}
first_fits (cond member others) probe (inr later) =
    let found = first_fits others probe later.1 in
    record {
      condition = found.condition;
      fits = found.fits;
      among = Contains-append_right (paths_of member) (paths_of_all others) (begun_at probe) found.among;
    }

taken_fits : (condition : CondOf BoundPathTree) (probe : Probe) → IsTaken condition probe → Fitting (paths_of condition) probe
taken_fits (and members) probe taken = first_fits members probe taken
taken_fits (or members) probe taken = whole_fits (or members) probe taken
taken_fits (not body) probe taken = whole_fits (not body) probe taken
taken_fits (exists path body) probe taken = whole_fits (exists path body) probe taken
taken_fits (for_all path body) probe taken = whole_fits (for_all path body) probe taken
taken_fits (compare left op right) probe taken = whole_fits (compare left op right) probe taken
taken_fits (same left right) probe taken = whole_fits (same left right) probe taken

one_of_sum : (paths : List BoundPathTree) (path : BoundPathTree) → Contains paths path → leaves path.rest ≤ sum_by (λ p. leaves p.rest) paths
one_of_sum paths path among =
    subst (λ (p : BoundPathTree). leaves p.rest ≤ sum_by (λ p. leaves p.rest) paths) among.2
    (get_or-le-sum_by (λ (p : BoundPathTree). leaves p.rest) paths among.0 path among.1)

value_can : (bound : BoundTree) (named : Oid) (probe : Probe) (label : Option Label) → IsRunnable bound → CanBeBottom bound named probe
    → CanBeReady (from_value label probe.op probe.value probe.rest probe.slot)
value_can bound named probe label runnable can =
    let found = taken_fits can.condition probe can.taken in
    let few : leaves probe.rest ≤ sum_by (λ (p : BoundPathTree). leaves p.rest) (paths_in bound.cond) =
    subst (λ (c : Option (CondOf BoundPathTree)). leaves probe.rest ≤ sum_by (λ (p : BoundPathTree). leaves p.rest) (paths_in c)) (sym can.is)
    (one_of_sum (paths_of can.condition) (begun_at probe) found.among) in
    (omega (arith, few, runnable.few_leaves), found.fits.probed, found.fits.atomic)

bottom_can : (named : Oid) (probe : Probe) (label : Option Label) (ranges : List RangeTree) (condition : Option (CondOf BoundPathTree)) → All HasFew ranges
    → CanBeReady (from_value label probe.op probe.value probe.rest probe.slot) → All CanBeReady (bottom_steps named probe label ranges (tests condition))
bottom_can named probe label [] condition few can = tests_can condition
bottom_can named probe label (first ∷ others) condition few can =
    let at = probe.slot in
    let last = along forward (suc at) (drop at others) (tests condition) in
    let behind = All-tail HasFew first others few in
    All-cons CanBeReady (from_value label probe.op probe.value probe.rest at) (back_steps 0 (take at others) (check 0 first.path named ∷ last)) can
    (back_can 0 (take at others) (check 0 first.path named ∷ last) (All-take HasFew at others behind)
    (All-cons CanBeReady (check 0 first.path named) last (All-head HasFew first others few)
    (along_can forward (λ start path slot h. h) (suc at) (drop at others) (tests condition) (All-drop HasFew at others behind) (tests_can condition))))

pub steps_can : (labels : List (List ℕ)) (bound : BoundTree) (kind : PlanKind) (steps : List StepTree)
    → IsRunnable bound → AreStepsOf labels bound kind steps → All CanBeReady steps
steps_can labels bound plan_kinds.Top steps runnable are =
    subst (All CanBeReady) (sym are) (along_can forward (λ start path slot h. h) 0 bound.ranges (tests bound.cond) (few_of_all bound runnable) (tests_can bound.cond))
steps_can labels bound plan_kinds.Guided steps runnable are =
    subst (All CanBeReady) (sym are) (along_can guided_step guided_can 0 bound.ranges (tests bound.cond) (few_of_all bound runnable) (tests_can bound.cond))
steps_can labels bound plan_kinds.Bottom steps runnable are =
    subst (All CanBeReady) (sym are.are) (bottom_can are.named are.probe are.label bound.ranges bound.cond (few_of_all bound runnable)
    (value_can bound are.named are.probe are.label runnable are.can))

-- one step more is made ready
pub ready_more : (ready new : List ReadyStep) (one : ReadyStep) (steps : List PlanStep) (i : ℕ) (step : PlanStep) → new ≡ ready ++ one ∷ []
    → map ready_tree ready ≡ map step_tree (take i steps) → ready_tree one ≡ step_tree step → i < length steps → step ≡ get_or steps i step
    → map ready_tree new ≡ map step_tree (take (i + 1) steps)
ready_more ready new one steps i step is so_far made within at =
    ap (map ready_tree) is ∙ map_push ready_tree ready one ∙ ap (λ (l : List StepTree). l ++ ready_tree one ∷ []) so_far
    ∙ ap (λ (t : StepTree). map step_tree (take i steps) ++ t ∷ []) (made ∙ ap step_tree at) ∙ sym (map_more step_tree steps i step within)

pub can_at : (steps : List PlanStep) (i : ℕ) (step : PlanStep) → All CanBeReady (map step_tree steps) → i < length steps → step ≡ get_or steps i step
    → CanBeReady (step_tree step)
can_at steps i step can within at =
    subst CanBeReady (get_or-map step_tree steps i step (step_tree step) within ∙ ap step_tree (sym at))
    (can i (step_tree step) (omega (arith, within, length-map steps step_tree)))

-- The first partial row, before the first step.

pub first_of : (none partials : List PartialRow) (row : List Oid) → none ≡ [] → partials ≡ none ++ partial_at 0 row ∷ [] → row ≡ in_eight [] → AreFirst partials
first_of none partials row empty is unfilled = record {
  first = partial_at 0 row;
  alone = is ∙ ap (λ (l : List PartialRow). l ++ partial_at 0 row ∷ []) empty;
  untaken = refl;
  unfilled = unfilled;
}

pub first_machine : (over : StepsOver) (Hints : List Oid → Type 0) (labels : List (List ℕ)) (bound : BoundTree) (kind : PlanKind) (steps : List StepTree)
    (ready : List ReadyStep) (kept : List Kept) (told : List Told) (partials : List PartialRow) → IsRunnable bound → AreStepsOf labels bound kind steps
    → map ready_tree ready ≡ steps → All (HasFound over.labels over.reaches) ready → AreKeptBy over ready kept → AreTold Hints told
    → ((row : List Oid) → Finishes over steps (in_eight []) row → over.passes row → Hints row) → AreFirst partials
    → IsReadyMachine over Hints steps ready kept told partials
first_machine over Hints labels bound kind steps ready kept told partials runnable are made found keep so implied first = record {
  ready_are = made;
  found = found;
  kept_are = keep;
  told_are = so;
  hinted = record { told = λ row comes. implied row ((finished_to_come over steps partials first row).0 comes) };
  machine = record {
    in_order = steps_in_order labels bound kind steps runnable are;
    can = steps_can labels bound kind steps runnable are;
    apart = subst (AreApart over steps) (sym first.alone) (λ i j d less within. absurd (omega (arith, less, within)));
    eight = subst (All (λ (p : PartialRow). length p.row ≡ RANGES)) (sym first.alone)
        (All-cons (λ (p : PartialRow). length p.row ≡ RANGES) first.first [] (ap length first.unfilled) (All-nil (λ (p : PartialRow). length p.row ≡ RANGES)));
  };
}
