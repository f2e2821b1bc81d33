-- Before the first step the rows that are sought are to come of one partial row, in which no slot is filled.
use Rattle.std.proofs.Common.{◌≡◌, ◌≢◌, ◌↔◌, ◌⊎◌, ℕ, suc, List, [], ◌∷◌, take, drop, Option, AllPairs, All, Contains, subst, refl, sym, inl, inr, ◌∙◌}
use Rattle.std.proofs.lemmas.List.Elements.{All-head, All-tail}
use Rattle.lore_base.specs.Paths.{PathTree}
use Rattle.lore_base.proofs.MemberLaws.{Contains-none, Contains-head, Contains-cases}
use Rattle.lorel_bound.specs.Runnable.{IsRunnable}
use Rattle.lorel_bound.specs.Bound.{RangeTree, BoundTree}
use Rattle.lorel_bound.specs.Plans.{StepTree, forward, from_value, check, along, guided_step, back_steps, bottom_steps, tests, Probe, AreStepsOf}
use Rattle.plan_ops.specs.Types.{Oid, Label, Value, Start, PlanKind, PartialRow}
use Rattle.plan_ops.specs.Types.starts
use Rattle.plan_ops.specs.Types.plan_kinds
use Rattle.plan_laws.specs.Steps.{StepsOver, Finishes, in_eight, IsSought, Agrees}
use Rattle.plan_ops.specs.Rows.{ComesOf, IsToCome, AreSame, WalksOrTests}
use Rattle.plan_laws.proofs.DescribeLaws.{top_describes, plan_describes}

-- ---- steps that walk forward alone are those from the top
walked_step : (start : Start) (path : PathTree) (slot : ℕ) → WalksOrTests (guided_step start path slot)
    → guided_step start path slot ≡ forward start path slot
walked_step (starts.Named named) path slot walks = absurd walks
walked_step (starts.Slot own) path slot walks = refl

walked_along : (slot : ℕ) (ranges : List RangeTree) (further : List StepTree) → All WalksOrTests (along guided_step slot ranges further)
    → along guided_step slot ranges further ≡ along forward slot ranges further
walked_along slot [] further walks = refl
walked_along slot (range ∷ ranges) further walks =
    let here = guided_step range.start range.path slot in
    let later = along guided_step (suc slot) ranges further in
    let step = walked_step range.start range.path slot (All-head WalksOrTests here later walks) in
    let others = walked_along (suc slot) ranges further (All-tail WalksOrTests here later walks) in
    (λ i. step i ∷ others i)

walked_bottom : (named : Oid) (probe : Probe) (label : Option Label) (ranges : List RangeTree) (further : List StepTree)
    → All WalksOrTests (bottom_steps named probe label ranges further) → bottom_steps named probe label ranges further ≡ along forward 0 ranges further
walked_bottom named probe label [] further walks = refl
walked_bottom named probe label (first ∷ others) further walks =
    let behind = along forward (suc probe.slot) (drop probe.slot others) further in
    absurd (All-head WalksOrTests (from_value label probe.op probe.value probe.rest probe.slot)
    (back_steps 0 (take probe.slot others) (check 0 first.path named ∷ behind)) walks)

walked_top : (labels : List (List ℕ)) (bound : BoundTree) (kind : PlanKind) (steps : List StepTree) → AreStepsOf labels bound kind steps
    → All WalksOrTests steps → AreStepsOf labels bound plan_kinds.Top steps
walked_top labels bound plan_kinds.Top steps are walks = are
walked_top labels bound plan_kinds.Guided steps are walks =
    are ∙ walked_along 0 bound.ranges (tests bound.cond) (subst (All WalksOrTests) are walks)
walked_top labels bound plan_kinds.Bottom steps are walks =
    are.are ∙ walked_bottom are.named are.probe are.label bound.ranges (tests bound.cond) (subst (All WalksOrTests) are.are walks)

-- what the steps finish is sought where they walk forward alone, or where all that they are taken over agrees
pub finished_sought : (over : StepsOver) (steps : List StepTree) (objects : List (Oid × Value)) (bound : BoundTree) (kind : PlanKind)
    → AllPairs (λ a b. a ≢ b) over.labels → IsRunnable bound → AreStepsOf over.labels bound kind steps
    → All WalksOrTests steps ⊎ Agrees over objects bound
    → (row : List Oid) → Finishes over steps (in_eight []) row → IsSought over.labels over.edges over.passes bound row
finished_sought over steps objects bound kind apart runnable planned (inl walks) row finishes =
    (top_describes over bound steps runnable (walked_top over.labels bound kind steps planned walks) row).0 finishes
finished_sought over steps objects bound kind apart runnable planned (inr agrees) row finishes =
    (plan_describes over objects bound kind steps apart runnable planned agrees row).0 finishes

-- one partial row with no slot filled, before the first step
pub record AreFirst (partials : List PartialRow) : Type 0 where
  pub first : PartialRow
  pub alone : partials ≡ first ∷ []
  pub untaken : first.step ≡ 0
  pub unfilled : first.row ≡ in_eight []

module _ (over : StepsOver) (steps : List StepTree) (partials : List PartialRow) (are : AreFirst partials) where
  -- what is to come of it is what the steps finish
  pub finished_to_come : (row : List Oid) → IsToCome over steps partials row ↔ Finishes over steps (in_eight []) row
  finished_to_come row = (
    λ comes.
        let there : Contains (are.first ∷ []) comes.0 = subst (λ (p : List PartialRow). Contains p comes.0) are.alone comes.1 in
        let is : comes.0 ≡ are.first = elim (Contains-cases are.first [] comes.0 there) [
          | inl same ↦ sym same
          | inr later ↦ absurd (Contains-none comes.0 later)
        ] in
        let of_first : ComesOf over steps are.first row = subst (λ (p : PartialRow). ComesOf over steps p row) is comes.2 in
        let all : Finishes over steps are.first.row row = subst (λ (n : ℕ). Finishes over (drop n steps) are.first.row row) are.untaken of_first in
        subst (λ (r : List Oid). Finishes over steps r row) are.unfilled all,
    λ finishes.
        let all : Finishes over steps are.first.row row = subst (λ (r : List Oid). Finishes over steps r row) (sym are.unfilled) finishes in (
          are.first,
          subst (λ (p : List PartialRow). Contains p are.first) (sym are.alone) (Contains-head are.first []),
          subst (λ (n : ℕ). Finishes over (drop n steps) are.first.row row) (sym are.untaken) all,
        ),
  )

  -- of a plan that walks forward alone the rows that are sought are to come, over anything
  pub top_to_come : (bound : BoundTree) (kind : PlanKind) → IsRunnable bound → AreStepsOf over.labels bound kind steps
      → All WalksOrTests steps
      → AreSame (IsSought over.labels over.edges over.passes bound) (IsToCome over steps partials)
  top_to_come bound kind runnable planned walks row =
      let top = walked_top over.labels bound kind steps planned walks in
      let described = top_describes over bound steps runnable top row in
      let come = finished_to_come row in
      (λ comes. described.0 (come.0 comes), λ sought. come.1 (described.1 sought))

  -- and of every plan where all that it is taken over agrees
  pub sought_to_come : (objects : List (Oid × Value)) (bound : BoundTree) (kind : PlanKind) → AllPairs (λ a b. a ≢ b) over.labels
      → IsRunnable bound → AreStepsOf over.labels bound kind steps → Agrees over objects bound
      → AreSame (IsSought over.labels over.edges over.passes bound) (IsToCome over steps partials)
  sought_to_come objects bound kind apart runnable planned agrees row =
      let described = plan_describes over objects bound kind steps apart runnable planned agrees row in
      let come = finished_to_come row in
      (λ comes. described.0 (come.0 comes), λ sought. come.1 (described.1 sought))
