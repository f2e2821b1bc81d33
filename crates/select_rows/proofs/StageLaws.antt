-- Stages of a select: what the rows that its plan finds in a view show is its rows there, or they are too many.
use Rattle.std.proofs.Common.{◌≡◌, ◌↔◌, ◌⊎◌, inl, inr, ℕ, List, ◌∷◌, Option, Some, None, option_map, Result, Ok, Err, IfOk, All}
use Rattle.std.specs.Prelude.{OnOk, MatchOption}
use Rattle.std.proofs.lemmas.Result.{IfOk-weaker}
use Rattle.answers.proofs.RowLaws.{AreLeft, over_of}
use Rattle.lore_base.specs.Paths.{PathTree}
use Rattle.lorel_bound.specs.declared.conditions.BoundCond.{BoundCond}
use Rattle.lorel_bound.specs.Bound.{BoundTree, bound_cond}
use Rattle.lorel_bound.specs.Runnable.{IsRunnable}
use Rattle.lorel_bound.specs.Plans.{StepTree, from_value, steps_of}
use Rattle.lorel_bound.specs.SlotRows.{HoldsOver, ShowsObjects}
use Rattle.lorel_eval.specs.Tests.{CondOver}
use Rattle.plan_ops.specs.Types.{Plan}
use Rattle.plan_laws.specs.Steps.{StepsOver, steps_over, IsSought, Agrees}
use Rattle.plan_ops.specs.Rows.{RowsLeft, IsToCome, AreSame, WalksOrTests, FindsNothing, AreQuiet, ReadNothing}
use Rattle.answers.specs.Asked.{ShowsAsked, AreRows, AreTooMany}
use Rattle.answers.proofs.FoundLaws.{asked_rows, too_many_asked}
use Rattle.select_rows.specs.Types.{Oid, Edge, Value, ValueEntry, Cell}
use Rattle.select_rows.specs.Views.{view_over, IsRowOf, ReadsNone}
use Rattle.select_rows.proofs.SlotLaws.{sought_rows}

-- what holds of a value where something is given holds so of the value
pub ok_where : {T E : Type 0} (result : Result T E) (Given Holds : Type 0) → (Given → OnOk result Holds) → OnOk result (Given → Holds)
ok_where (Ok value) Given Holds gives = gives
ok_where (Err error) Given Holds gives = tt

-- ---- what cells show
-- cells show the same of slots that are the same
shows_alike : (labels : List (List ℕ)) (edges : List Edge) (bound : BoundTree) (P Q : List Oid → Type 0) → ((slots : List Oid) → P slots ↔ Q slots)
    → (row : List Cell) → ShowsAsked labels edges bound P row ↔ ShowsAsked labels edges bound Q row
shows_alike labels edges bound P Q same row =
    (λ h. (h.0, (same h.0).0 h.1, h.2), λ h. (h.0, (same h.0).1 h.1, h.2))

-- all that is asked for, or too much of it, in other words
abbrev Answered : (List Cell → Type 0) → Option (List (List Cell)) → Type 0
Answered IsAsked answer = MatchOption answer (AreTooMany IsAsked) (AreRows IsAsked)

answered_alike : (P Q : List Cell → Type 0) → ((row : List Cell) → P row ↔ Q row) → (answer : Option (List (List Cell)))
    → Answered P answer → Answered Q answer
answered_alike P Q same None many = too_many_asked P Q (λ row. (same row).0) many
answered_alike P Q same (Some rows) all = asked_rows P Q rows same all

-- ---- which rows pass
-- those that the test of a condition passes
abbrev pub passes_of : CondOver → List Oid → Type 0
passes_of test slots = HoldsOver test.labels test.edges test.objects slots (option_map bound_cond test.cond)

pub passes_alike : (labels : List (List ℕ)) (edges : List Edge) (objects : List (Oid × Value)) (test : CondOver) (cond : Option BoundCond)
    → test.labels ≡ labels → test.edges ≡ edges → test.objects ≡ objects → test.cond ≡ cond
    → (slots : List Oid) → passes_of test slots ↔ HoldsOver labels edges objects slots (option_map bound_cond cond)
passes_alike labels edges objects test cond l e o c slots = rw (l, e, o, c) (λ h. h, λ h. h)

passed_by : {C : Type 0} (condition : Option C) (P Q : Type 0) → (P → Q) → MatchOption condition (Unit {0}) (λ own. P)
    → MatchOption condition (Unit {0}) (λ own. Q)
passed_by None P Q gives h = h
passed_by (Some own) P Q gives h = gives h

-- rows that are sought are sought where all that pass pass
sought_by : (labels : List (List ℕ)) (edges : List Edge) (bound : BoundTree) (P Q : List Oid → Type 0) → ((slots : List Oid) → P slots → Q slots)
    → (row : List Oid) → IsSought labels edges P bound row → IsSought labels edges Q bound row
sought_by labels edges bound P Q gives row h = record {
  slots = h.slots;
  filled = h.filled;
  is = h.is;
  passed = passed_by bound.cond (P row) (Q row) (gives row) h.passed;
}

-- what steps find to begin with doesn't depend on which rows pass
nothing_by : (labels : List (List ℕ)) (edges links : List Edge) (entries : List ValueEntry) (reaches : PathTree → Oid → Oid → Type 0)
    (P Q : List Oid → Type 0) (steps : List StepTree) → FindsNothing (steps_over labels edges links entries reaches P) steps
    → FindsNothing (steps_over labels edges links entries reaches Q) steps
nothing_by labels edges links entries reaches P Q (from_value label op value rest slot ∷ steps) nothing = nothing
nothing_by labels edges links entries reaches P Q _ nothing = absurd nothing

quiet_by : (labels : List (List ℕ)) (edges links : List Edge) (entries : List ValueEntry) (reaches : PathTree → Oid → Oid → Type 0)
    (P Q : List Oid → Type 0) (steps : List StepTree) → AreQuiet (steps_over labels edges links entries reaches P) steps
    → AreQuiet (steps_over labels edges links entries reaches Q) steps
quiet_by labels edges links entries reaches P Q steps (inl guided) = inl guided
quiet_by labels edges links entries reaches P Q steps (inr nothing) = inr (nothing_by labels edges links entries reaches P Q steps nothing)

-- ---- rows that are made of such parts, and keep them
module _ {A K V P T : Type 0} (rows : RowsLeft A K V P T) (labels : List (List ℕ)) (graph : A) (links : K) (values : V) (paths : P) (test : T) (plan : Plan)
    (made : (rows.graph ≡ graph) × (rows.links ≡ links) × (rows.values ≡ values) × (rows.paths ≡ paths) × (rows.test ≡ test) × (rows.labels ≡ labels)
    × (rows.plan ≡ plan))
    (edges_of : A → List Edge) (links_of : K → List Edge) (entries_of : V → List ValueEntry) (reaches_of : P → PathTree → Oid → Oid → Type 0)
    (passes : T → List Oid → Type 0) where
  abbrev over : StepsOver
  over = steps_over labels (edges_of graph) (links_of links) (entries_of values) (reaches_of paths) (passes test)

  abbrev Left : List Oid → Type 0
  Left = AreLeft edges_of links_of entries_of reaches_of passes rows

  -- what is said over the parts is said over those that are kept
  along_parts : (Says : StepsOver → Type 0) → Says over → Says (over_of edges_of links_of entries_of reaches_of passes rows)
  along_parts Says h = rw (made.5, made.0, made.1, made.2, made.3, made.4) h

  -- in a view where objects have values, with the test of the condition of a select
  module _ (bound : BoundTree) (runnable : IsRunnable bound) (objects : List (Oid × Value))
      (same : (slots : List Oid) → passes test slots ↔ HoldsOver labels (edges_of graph) objects slots bound.cond) where
    abbrev view : StepsOver
    view = view_over labels (edges_of graph) objects (links_of links) (entries_of values) (reaches_of paths) bound

    abbrev Sought : List Oid → Type 0
    Sought = IsSought labels (edges_of graph) (passes test) bound

    -- no edge is read for the rows that are to come of steps that read none
    quiet_rows : ReadsNone view bound (steps_of plan)
        → (AreQuiet over (steps_of rows.plan) → ReadNothing over (steps_of rows.plan) rows.partials)
        → ReadNothing (over_of edges_of links_of entries_of reaches_of passes rows) (steps_of rows.plan) rows.partials
    quiet_rows none read =
        let quiet = quiet_by labels (edges_of graph) (links_of links) (entries_of values) (reaches_of paths) view.passes over.passes (steps_of plan) none.0 in
        along_parts (λ kept. ReadNothing kept (steps_of rows.plan) rows.partials) (read (rw (made.6) quiet))

    -- of a plan that walks forward alone, or whose links, values and paths are the graph's
    module _ (fits : All WalksOrTests (steps_of plan) ⊎ Agrees view objects bound)
        (agreed : (all : List (Oid × Value)) → Agrees over all bound → AreSame Sought (IsToCome over (steps_of rows.plan) rows.partials))
        (walked : All WalksOrTests (steps_of plan) → AreSame Sought (IsToCome over (steps_of rows.plan) rows.partials)) where
      -- the rows that are sought are to come
      sought_come : AreSame Sought Left
      sought_come =
          along_parts (λ kept. AreSame Sought (IsToCome kept (steps_of rows.plan) rows.partials)) (elim fits [
            | inl walks ↦ walked walks
            | inr agrees ↦ agreed objects (record {
              links = agrees.links;
              entries = agrees.entries;
              reached = agrees.reached;
              passed = λ row eight. same row;
            })
          ])

      -- so what their cells show is the rows of the select
      pub planned_rows : {E : Type 0} (result : Result (Option (List (List Cell))) E)
          → IfOk result (λ answer. Answered (ShowsAsked labels (edges_of graph) bound Left) answer)
          → IfOk result (λ answer. Answered (IsRowOf labels (edges_of graph) objects bound) answer)
      planned_rows result answered =
          let come = sought_come in
          let sought = sought_rows labels (edges_of graph) objects bound (passes test) runnable same in
          let shown = shows_alike labels (edges_of graph) bound Left Sought come in
          IfOk-weaker result (λ answer. Answered (ShowsAsked labels (edges_of graph) bound Left) answer)
          (λ answer. Answered (IsRowOf labels (edges_of graph) objects bound) answer)
          (answered_alike (ShowsAsked labels (edges_of graph) bound Left) (IsRowOf labels (edges_of graph) objects bound)
          (λ row. (λ h. (sought row).0 ((shown row).0 h), λ h. (shown row).1 ((sought row).1 h)))) answered

      -- and where no edge is to be read, no cell shows a word, or no row comes
      quiet_cells : ReadsNone view bound (steps_of plan) → ShowsObjects bound ⊎ ((slots : List Oid) → Left slots → ⊥)
      quiet_cells none = elim none.1 [
        | inl objects_alone ↦ inl objects_alone
        | inr nothing ↦ inr (λ slots left.
            nothing slots (sought_by labels (edges_of graph) bound (passes test) view.passes (λ row. (same row).0) slots ((sought_come slots).0 left)))
      ]

      pub quiet_left : ReadsNone view bound (steps_of plan)
          → (AreQuiet over (steps_of rows.plan) → ReadNothing over (steps_of rows.plan) rows.partials)
          → ReadNothing (over_of edges_of links_of entries_of reaches_of passes rows) (steps_of rows.plan) rows.partials
          × (ShowsObjects bound ⊎ ((slots : List Oid) → Left slots → ⊥))
      quiet_left none read = (quiet_rows none read, quiet_cells none)
