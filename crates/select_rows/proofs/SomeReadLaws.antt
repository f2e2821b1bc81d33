-- Steps that read some edge.
use Rattle.std.proofs.Common.{◌≡◌, ℕ, ◌<◌, inl, inr, List, [], ◌∷◌, length, map, Option, option_map, Some, None, IfSome, IsTrue, All, true≢false, sym, subst, ap, ◌∙◌, arith}
use Rattle.std.specs.Option.{is_some}
use Rattle.std.specs.List.{slice_get}
use Rattle.std.proofs.lemmas.Option.{slice_get-map}
use Rattle.std.proofs.lemmas.List.Elements.{All-head, All-contains}
use Rattle.list_laws.proofs.PlaceLaws.{Contains-from_place}
use Rattle.lore_base.specs.TargetSets.{ListsInOrder}
use Rattle.lore_base.proofs.MemberLaws.{Contains-none}
use Rattle.index_traits.specs.Entries.{IsFound}
use Rattle.lore_base.specs.declared.paths.Path.{Path}
use Rattle.lorel_bound.specs.declared.plans.PlanStep.{PlanStep}
use Rattle.lorel_bound.specs.declared.plans.PlanStep.TheVariants as plan_steps
use Rattle.lorel_bound.specs.Plans.{StepTree, step_tree, from_value, filter}
use Rattle.plan_laws.specs.Steps.{StepsOver}
use Rattle.plan_ops.specs.Rows.{IsGuided, AreQuiet}
use Rattle.plan_laws.specs.Orders.{CanBeReady}
use Rattle.lore_base.specs.declared.operators.Op.{Op}
use Rattle.select_rows.specs.Types.{Oid, Label, Value, ValueEntry}
use Rattle.select_rows.specs.inside.Reads.{ReadsSome}

-- steps that read some edge aren't those that read none
pub some_read : (over : StepsOver) (steps : List StepTree) → ReadsSome over.entries steps → AreQuiet over steps → ⊥
some_read over (from_value label op value rest slot ∷ steps) some quiet = elim quiet [
  | inl guided ↦ All-head IsGuided (from_value label op value rest slot) steps guided
  | inr nothing ↦ some nothing
]
some_read over _ some quiet = elim quiet [ inl guided ↦ some guided | inr nothing ↦ absurd nothing ]

-- where some are counted, there is one
pub some_found : (entries : List ValueEntry) (label : Label) (op : Op) (value : Value) (count : ℕ)
    → ((oids : List Oid) → ListsInOrder (IsFound entries label op value) oids → count ≡ length oids) → 0 < count
    → ((oid : Oid) → IsFound entries label op value oid → ⊥) → ⊥
some_found entries label op value count told some none =
    let zero : count ≡ 0 = told [] (record {
      ascending = λ i j d less within. absurd (omega (arith, within));
      exact = λ oid. (λ at. absurd (Contains-none oid at), λ found. absurd (none oid found));
    }) in
    omega (arith, zero, some)

-- a step that the guide tells tests no condition
pub test_among : (steps : List PlanStep) (n : ℕ) (last : PlanStep) → slice_get steps n ≡ Some last → step_tree last ≡ filter
    → All IsGuided (map step_tree steps) → ⊥
test_among steps n last is tests guided =
    All-contains IsGuided (map step_tree steps) filter guided
    (Contains-from_place (map step_tree steps) n filter (slice_get-map step_tree steps n ∙ ap (option_map step_tree) is ∙ ap Some tests))

-- What a list of steps begins with.

pub first_can : (steps rest : List PlanStep) (first step : PlanStep) → steps ≡ first ∷ rest → first ≡ step → All CanBeReady (map step_tree steps)
    → CanBeReady (step_tree step)
first_can steps rest first step is same all =
    subst (λ (s : PlanStep). CanBeReady (step_tree s)) same
    (All-head CanBeReady (step_tree first) (map step_tree rest) (subst (λ (l : List PlanStep). All CanBeReady (map step_tree l)) is all))

pub begun_so : (entries : List ValueEntry) (steps rest : List PlanStep) (first step : PlanStep) → steps ≡ first ∷ rest → first ≡ step
    → ReadsSome entries (step_tree step ∷ map step_tree rest) → ReadsSome entries (map step_tree steps)
begun_so entries steps rest first step is same some =
    subst (λ (l : List PlanStep). ReadsSome entries (map step_tree l)) (sym is)
    (subst (λ (s : PlanStep). ReadsSome entries (step_tree s ∷ map step_tree rest)) (sym same) some)

pub begun_guided : (entries : List ValueEntry) (steps rest : List PlanStep) (first : PlanStep) (named : Oid) (path : Path) (slot : ℕ)
    → steps ≡ first ∷ rest → first ≡ plan_steps.FromGuide named path slot → (All IsGuided (map step_tree steps) → ⊥)
    → ReadsSome entries (map step_tree steps)
begun_guided entries steps rest first named path slot is same not_all =
    begun_so entries steps rest first (plan_steps.FromGuide named path slot) is same
    (λ guided. not_all (subst (λ (l : List PlanStep). All IsGuided (map step_tree l)) (sym is)
    (subst (λ (s : PlanStep). All IsGuided (step_tree s ∷ map step_tree rest)) (sym same) guided)))

-- what holds anyhow holds of a value, if there is one
pub if_any : {X : Type 0} (o : Option X) (P : Type 0) → P → IfSome o (λ x. P)
if_any None P p = tt
if_any (Some x) P p = p

-- what is told of a value, where there is one
pub told_of_some : {X : Type 0} (o : Option X) (P : Type 0) → IfSome o (λ x. P) → IsTrue (is_some o) → P
told_of_some None P told so = absurd (true≢false (sym so))
told_of_some (Some x) P told so = told
