-- Plans that read no edge: whatever plan was made of a quiet select, the guide tells all of it, or it begins from values
-- that no object has.
use Rattle.std.proofs.Common.{◌≡◌, ◌≢◌, ◌⊎◌, ℕ, ◌≤◌, inl, inr, List, [], ◌∷◌, length, Option, Some, None, All, AllPairs, refl, sym, subst, ◌∙◌, arith}
use Rattle.std.proofs.lemmas.List.Elements.{All-nil, All-cons, All-head}
use Rattle.std.proofs.lemmas.Option.{same_Some}
use Rattle.lore_base.specs.Databases.{Database}
use Rattle.lore_base.specs.Paths.{PathTree, Reaches}
use Rattle.lore_base.specs.TargetSets.{ListsInOrder}
use Rattle.lore_base.proofs.MemberLaws.{Contains-none}
use Rattle.lorel_trees.specs.Trees.{SelectTree}
use Rattle.index_traits.specs.Entries.{AreValueEntries}
use Rattle.index_laws.proofs.SortedEntries.{entries_are_determined}
use Rattle.lorel_bound.specs.Conditions.{CondOf}
use Rattle.lorel_bound.specs.Bound.{RangeTree, BoundPathTree, BoundTree}
use Rattle.lorel_bind.specs.Bindings.{IsBinding}
use Rattle.lorel_bound.specs.Runnable.{IsWithin, AreInOrder, IsRunnable}
use Rattle.lorel_bound.specs.SlotRows.{ShowsObjects}
use Rattle.lorel_bound.specs.Plans.{Probe, StepTree, from_value, steps_of, IsChain, IsCandidate, tests, along, guided_step, bottom_steps, AreBottomSteps, AreStepsOf, IsPlanOf}
use Rattle.bind_laws.proofs.BindingLaws.{has_one_binding}
use Rattle.planner.specs.Choices.{IsGivenCount, AreCounted}
use Rattle.planner.proofs.OneLaws.{has_one_plan}
use Rattle.plan_laws.specs.Steps.{StepsOver, Meets, Finishes, in_eight, IsSought, Agrees}
use Rattle.plan_ops.specs.Types.{Plan}
use Rattle.plan_ops.specs.Rows.{IsGuided, FindsNothing, AreQuiet}
use Rattle.plan_laws.proofs.DescribeLaws.{plan_describes}
use Rattle.select_rows.specs.Views.{ReadsNone}
use Rattle.statements.specs.Types.{Oid, Label, Value, Start, ValueEntry, PlanKind}
use Rattle.statements.specs.Types.starts
use Rattle.statements.specs.Types.plan_kinds
use Rattle.statements.specs.Plans.{AreCountsOver, IsKindOver}
use Rattle.statements.specs.Uncounted.{IsPlain, IsPlainSelect, IsQuietPlan, IsQuietBound, IsQuietSelect}
use Rattle.statements.proofs.ExplainLaws.{one_counts, one_kind}

-- ---- by the guide: one range at most, which starts at a name, and no condition
guided_start : (start : Start) (path : PathTree) → IsWithin 0 start → IsGuided (guided_step start path 0)
guided_start (starts.Named oid) path within = tt
guided_start (starts.Slot slot) path within = absurd (omega (arith, within))

guided_steps : (ranges : List RangeTree) (condition : Option (CondOf BoundPathTree)) → length ranges ≤ 1 → condition ≡ None → AreInOrder 0 ranges
    → All IsGuided (along guided_step 0 ranges (tests condition))
guided_steps [] condition few none order =
    subst (λ (c : Option (CondOf BoundPathTree)). All IsGuided (tests c)) (sym none) (All-nil IsGuided)
guided_steps (range ∷ []) condition few none order =
    subst (λ (c : Option (CondOf BoundPathTree)). All IsGuided (guided_step range.start range.path 0 ∷ tests c)) (sym none)
    (All-cons IsGuided (guided_step range.start range.path 0) [] (guided_start range.start range.path order.0) (All-nil IsGuided))
guided_steps (range ∷ other ∷ ranges) condition few none order = absurd (omega (arith, few))

-- ---- from values: of which none was counted
none_listed : (P : Oid → Type 0) (oids : List Oid) → ListsInOrder P oids → length oids ≡ 0 → (oid : Oid) → P oid → ⊥
none_listed P [] lists none oid passes = Contains-none oid ((lists.exact oid).1 passes)
none_listed P (first ∷ oids) lists none oid passes = absurd (omega (arith, none))

none_passes : (P : Oid → Type 0) (candidates : Option ℕ) → IsGivenCount P candidates → candidates ≡ Some 0 → (oid : Oid) → P oid → ⊥
none_passes P candidates given none =
    let count = same_Some given.0 0 (sym given.1 ∙ none) in
    none_listed P given.2.0 given.2.1 (sym given.2.2 ∙ count)

module _ (over : StepsOver) where
  finds_nothing : (named : Oid) (probe : Probe) (label : Option Label) (ranges : List RangeTree) (further : List StepTree) → IsChain named ranges
      → ((oid : Oid) → IsCandidate over.entries label probe.op probe.value oid → ⊥)
      → FindsNothing over (bottom_steps named probe label ranges further)
  finds_nothing named probe label [] further chain none = absurd chain
  finds_nothing named probe label (first ∷ others) further chain none = none

  -- no row is finished by steps of which the first finds nothing,
  none_finishes : (steps : List StepTree) (partial row : List Oid) → FindsNothing over steps → Finishes over steps partial row → ⊥
  none_finishes (from_value label op value rest slot ∷ steps) partial row nothing finishes =
      let met = All-head (λ step. Meets over step row) (from_value label op value rest slot) steps finishes.met in
      nothing met.2.0 met.2.2
  none_finishes _ partial row nothing finishes = absurd nothing

  -- and so none is sought
  none_sought : (objects : List (Oid × Value)) (bound : BoundTree) (kind : PlanKind) (steps : List StepTree) → AllPairs (λ a b. a ≢ b) over.labels
      → IsRunnable bound → AreStepsOf over.labels bound kind steps → Agrees over objects bound → FindsNothing over steps
      → (row : List Oid) → IsSought over.labels over.edges over.passes bound row → ⊥
  none_sought objects bound kind steps distinct runnable are agrees nothing row sought =
      none_finishes steps (in_eight []) row nothing ((plan_describes over objects bound kind steps distinct runnable are agrees row).1 sought)

  -- what was counted is what the steps begin from, since a select has one list of steps of a kind
  counted_steps : (labels : List (List ℕ)) → AllPairs (λ a b. a ≢ b) labels → (entries : List ValueEntry) → entries ≡ over.entries
      → (Reached : PathTree → Oid → Oid → Type 0) (bound : BoundTree) (candidates found : Option ℕ) (steps : List StepTree)
      → AreCounted labels entries Reached bound candidates found → candidates ≡ Some 0 → AreBottomSteps labels bound steps → FindsNothing over steps
  counted_steps labels distinct entries read Reached bound candidates found steps counted none are =
      let counted_ones : AreBottomSteps labels bound (bottom_steps counted.named counted.probe counted.label bound.ranges (tests bound.cond)) = record {
        named = counted.named;
        probe = counted.probe;
        label = counted.label;
        can = counted.can;
        labelled = counted.labelled;
        are = refl;
      } in
      let same = has_one_plan labels bound plan_kinds.Bottom steps _ distinct are counted_ones in
      let passes = none_passes (IsCandidate entries counted.label counted.probe.op counted.probe.value) candidates counted.asked none in
      subst (FindsNothing over) (sym same)
      (finds_nothing counted.named counted.probe counted.label bound.ranges (tests bound.cond) counted.can.chain
      (subst (λ (e : List ValueEntry). (oid : Oid) → IsCandidate e counted.label counted.probe.op counted.probe.value oid → ⊥) read passes))

-- ---- of each kind
module _ (db : Database) (bound : BoundTree) (runnable : IsRunnable bound) (over : StepsOver)
    (are_entries : AreValueEntries db.graph.objects db.graph.edges over.entries) where
  bottom_steps_quiet : (candidates found : Option ℕ) (steps : List StepTree) → AreCountsOver db bound candidates found → candidates ≡ Some 0
      → AreBottomSteps db.labels bound steps → FindsNothing over steps
  bottom_steps_quiet candidates found steps counts none are =
      let read = entries_are_determined db.graph.objects db.graph.edges counts.entries over.entries counts.are_entries are_entries in
      elim counts.counted [
        | inl counted ↦ counted_steps over db.labels counts.apart counts.entries read (Reaches db.labels db.graph.edges) bound candidates found steps counted none are
        | inr cannot ↦ absurd (cannot.0 are.named are.probe are.can)
      ]

  steps_quiet : (kind : PlanKind) (candidates found : Option ℕ) (steps : List StepTree) → AreCountsOver db bound candidates found
      → IsQuietPlan bound kind candidates → AreStepsOf db.labels bound kind steps → AreQuiet over steps
  steps_quiet plan_kinds.Top candidates found steps counts quiet are = absurd quiet
  steps_quiet plan_kinds.Guided candidates found steps counts quiet are =
      inl (subst (All IsGuided) (sym are) (guided_steps bound.ranges bound.cond quiet.0 quiet.1 runnable.in_order))
  steps_quiet plan_kinds.Bottom candidates found steps counts quiet are = inr (bottom_steps_quiet candidates found steps counts quiet are)

  -- the plan that was made of a quiet select is quiet, since there is one kind of plan and one pair of counts
  own_quiet : (kind : PlanKind) (candidates found : Option ℕ) → AreCountsOver db bound candidates found
      → IsKindOver db candidates found kind → IsQuietBound db bound → IsQuietPlan bound kind candidates
  own_quiet kind candidates found counts kind_is quiet =
      let same = one_counts db bound quiet.candidates quiet.found candidates found quiet.counts counts in
      let alike = one_kind db quiet.candidates quiet.found candidates found quiet.kind kind same.0 same.1 quiet.kind_is kind_is in
      subst (λ (k : PlanKind). IsQuietPlan bound k candidates) alike (subst (IsQuietPlan bound quiet.kind) same.0 quiet.quiet)

  -- by a quiet plan no cell shows a word, or no row is sought
  cells_quiet : (kind : PlanKind) (candidates found : Option ℕ) (steps : List StepTree) → AreCountsOver db bound candidates found
      → IsQuietPlan bound kind candidates → over.labels ≡ db.labels → AreStepsOf db.labels bound kind steps → Agrees over db.graph.objects bound
      → ShowsObjects bound ⊎ ((row : List Oid) → IsSought over.labels over.edges over.passes bound row → ⊥)
  cells_quiet plan_kinds.Top candidates found steps counts quiet labelled are agrees = absurd quiet
  cells_quiet plan_kinds.Guided candidates found steps counts quiet labelled are agrees = inl quiet.2
  cells_quiet plan_kinds.Bottom candidates found steps counts quiet labelled are agrees =
      inr (none_sought over db.graph.objects bound plan_kinds.Bottom steps
      (subst (AllPairs (λ a b. a ≢ b)) (sym labelled) counts.apart) runnable
      (subst (λ (l : List (List ℕ)). AreStepsOf l bound plan_kinds.Bottom steps) (sym labelled) are) agrees
      (bottom_steps_quiet candidates found steps counts quiet are))

  -- so it reads no edge
  pub quiet_reads : Agrees over db.graph.objects bound → (plan : Plan) → AreCountsOver db bound plan.candidates plan.found
      → IsKindOver db plan.candidates plan.found plan.kind → IsPlanOf db.labels bound plan → over.labels ≡ db.labels → IsQuietBound db bound
      → ReadsNone over bound (steps_of plan)
  quiet_reads agrees plan counts kind_is planned labelled quiet =
      let own = own_quiet plan.kind plan.candidates plan.found counts kind_is quiet in (
        steps_quiet plan.kind plan.candidates plan.found (steps_of plan) counts own planned,
        cells_quiet plan.kind plan.candidates plan.found (steps_of plan) counts own labelled planned agrees,
      )

-- a plan that takes what is told of paths reads no edge for a plain select
pub plain_reads : (labels : List (List ℕ)) (bound : BoundTree) → IsRunnable bound → (over : StepsOver) (plan : Plan) → plan.kind ≡ plan_kinds.Guided
    → IsPlanOf labels bound plan → IsPlain bound → ReadsNone over bound (steps_of plan)
plain_reads labels bound runnable over plan kind planned plain =
    let are = subst (λ (k : PlanKind). AreStepsOf labels bound k (steps_of plan)) kind planned in (
      inl (subst (All IsGuided) (sym are) (guided_steps bound.ranges bound.cond plain.0 plain.1 runnable.in_order)),
      inl plain.2,
    )

-- what is plain as a select is plain as it is bound
pub bound_plain : (db : Database) (query : SelectTree) (bound : BoundTree) → IsBinding db.graph.names query bound → IsPlainSelect db query → IsPlain bound
bound_plain db query bound binding plain =
    subst IsPlain (has_one_binding db.graph.names query plain.0 bound plain.1 binding) plain.2

-- what is quiet as a select is quiet as it is bound, since it is bound in one way
pub bound_quiet : (db : Database) (query : SelectTree) (bound : BoundTree) → IsBinding db.graph.names query bound → IsQuietSelect db query
    → IsQuietBound db bound
bound_quiet db query bound binding quiet =
    subst (IsQuietBound db) (has_one_binding db.graph.names query quiet.0 bound quiet.1 binding) quiet.2
