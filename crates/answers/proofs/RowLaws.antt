-- Rows that are noted down as those of a plan come: one more, all of them, and too many.
use Rattle.std.proofs.Common.{◌≡◌, ◌≢◌, ◌↔◌, inl, inr, Bool, true, false, true≢false, ℕ, List, Option, Some, None, nat_eq, subst, sym, ap, ◌∙◌}
use Rattle.std.specs.Prelude.{◌⊎◌}
use Rattle.std.specs.Cmp.Lexicographic.{pointwise, pointwise_decides}
use Rattle.std.specs.Cmp.{unsigned_Decides}
use Rattle.std.proofs.lemmas.Bool.{cases_Bool}
use Rattle.lore_base.specs.Paths.{PathTree}
use Rattle.lorel_bound.specs.declared.bound.Bound.{Bound}
use Rattle.lorel_bound.specs.Bound.{bound_tree}
use Rattle.lorel_bound.specs.SlotRows.{ShowsObjects}
use Rattle.lorel_bound.specs.Plans.{StepTree, steps_of}
use Rattle.plan_laws.specs.Steps.{StepsOver, steps_over}
use Rattle.plan_ops.specs.Rows.{RowsLeft, HasTheSamePlan, IsToCome, ReadNothing, Gives, AnswersNext}
use Rattle.answers.specs.Types.{Oid, Edge, ValueEntry, Cell}
use Rattle.answers.specs.Asked.{ShowsRow, AreTooMany}
use Rattle.answers.specs.inside.Showing.{RowsShown, AreOfOne, IsNoted, ShowsNext, AreNow}
use Rattle.answers.proofs.FoundLaws.{too_many_asked}
use Rattle.answers.proofs.NoteLaws.{now_alike}

-- the rows that are shown are those of this select over these label texts and edges
pub record IsShownOf (texts : List (List ℕ)) (graph : List Edge) (select : Bound) (shown : RowsShown) : Type 0 where
  pub labels : shown.labels ≡ texts
  pub edges : shown.edges ≡ graph
  pub bound : shown.bound ≡ select

pub shown_of_one : (texts : List (List ℕ)) (graph : List Edge) (select : Bound) (old new : RowsShown) → IsShownOf texts graph select old → AreOfOne old new
    → IsShownOf texts graph select new
shown_of_one texts graph select old new shown one = record {
  labels = one.labels ∙ shown.labels;
  edges = one.edges ∙ shown.edges;
  bound = one.bound ∙ shown.bound;
}

pub next_shown : (texts : List (List ℕ)) (graph : List Edge) (select : Bound) (shown : RowsShown) (slots : List Oid) (row : List Cell)
    → IsShownOf texts graph select shown → ShowsNext shown slots row ↔ ShowsRow texts graph (bound_tree select) slots row
next_shown texts graph select shown slots row is = rw (is.labels, is.edges, is.bound) (λ h. h, λ h. h)

-- what is noted with the next row of slots
pub now_shown : (texts : List (List ℕ)) (graph : List Edge) (select : Bound) (old new : RowsShown) (slots : List Oid) (cut : Bool) → IsShownOf texts graph select old
    → AreNow (λ own. IsNoted old own ⊎ ShowsNext old slots own) (IsNoted new) cut
    → AreNow (λ own. IsNoted old own ⊎ ShowsRow texts graph (bound_tree select) slots own) (IsNoted new) cut
now_shown texts graph select old new slots cut shown =
    now_alike (λ own. IsNoted old own ⊎ ShowsNext old slots own) (λ own. IsNoted old own ⊎ ShowsRow texts graph (bound_tree select) slots own) (IsNoted new) cut
    (λ row.
    let same = next_shown texts graph select old slots row shown in (
      λ h. elim h [ inl noted ↦ inl noted | inr next ↦ inr (same.0 next) ],
      λ h. elim h [ inl noted ↦ inl noted | inr next ↦ inr (same.1 next) ],
    ))

-- no cell shows a word, where that holds or no row comes at all, and one came
pub shows_objects : (select own : Bound) (Left : List Oid → Type 0) (slots : List Oid) → own ≡ select → Left slots
    → ShowsObjects (bound_tree select) ⊎ ((other : List Oid) → Left other → ⊥) → ShowsObjects (bound_tree own)
shows_objects select own Left slots same came few = elim few [
  | inl objects ↦ subst (λ (bound : Bound). ShowsObjects (bound_tree bound)) (sym same) objects
  | inr none ↦ absurd (none slots came)
]

-- ---- of rows of slots that are left one comes
same_oid : (a b : Oid) → a.0 ≡ b.0 → a ≡ b
same_oid a b same i = record { 0 = same i }

same_or_other : (a b : List Oid) → (a ≡ b) ⊎ (a ≢ b)
same_or_other a b =
    let decides = pointwise_decides {E = λ (x y : Oid). nat_eq x.0 y.0}
    (λ c d. (λ e. same_oid c d ((unsigned_Decides c.0 d.0).0 e), λ e. (unsigned_Decides c.0 d.0).1 (ap (λ (o : Oid). o.0) e))) a b in
    elim (cases_Bool (pointwise (λ (x y : Oid). nat_eq x.0 y.0) a b)) [
      | inl tied ↦ inl (decides.0 tied)
      | inr apart ↦ inr (λ is. true≢false (sym (decides.1 is) ∙ apart))
    ]

-- with a row of slots comes what is shown of it
pub shown_next : (Before After : List Oid → Type 0) (Shows : List Oid → List Cell → Type 0) (slots : List Oid) → Gives Before After slots
    → (row : List Cell) → ((s : List Oid) × Before s × Shows s row) ↔ (((s : List Oid) × After s × Shows s row) ⊎ Shows slots row)
shown_next Before After Shows slots gives row = (
  λ h. elim (same_or_other h.0 slots) [
    | inl same ↦ inr (subst (λ (s : List Oid). Shows s row) same h.2)
    | inr apart ↦ inl (h.0, (gives.others h.0).1 (h.1, apart), h.2)
  ],
  λ h. elim h [
    | inl later ↦ (later.0, ((gives.others later.0).0 later.1).0, later.2)
    | inr shown ↦ (slots, gives.came, shown)
  ],
)

-- ---- the rows of slots that are left of a plan
module _ {A K V P T : Type 0} (edges : A → List Edge) (links : K → List Edge) (entries : V → List ValueEntry)
    (reaches : P → PathTree → Oid → Oid → Type 0) (passes : T → List Oid → Type 0) where
  -- what the steps of the plan are taken over
  abbrev pub over_of : RowsLeft A K V P T → StepsOver
  over_of rows = steps_over rows.labels (edges rows.graph) (links rows.links) (entries rows.values) (reaches rows.paths) (passes rows.test)

  abbrev pub AreLeft : RowsLeft A K V P T → List Oid → Type 0
  AreLeft rows = IsToCome (over_of rows) (steps_of rows.plan) rows.partials

  -- no edge is read for those that are left
  abbrev pub AreQuietLeft : RowsLeft A K V P T → Type 0
  AreQuietLeft rows = ReadNothing (over_of rows) (steps_of rows.plan) rows.partials

  -- what is said of the steps goes on to hold where all but the partial rows stays
  along_plan : (Says : StepsOver → List StepTree → Type 0) (old new : RowsLeft A K V P T) → HasTheSamePlan old new
      → Says (over_of old) (steps_of old.plan) → Says (over_of new) (steps_of new.plan)
  along_plan Says old new same h =
      rw (same.labels, same.graph, same.links, same.values, same.paths, same.test, same.plan) h

  pub quiet_left : (old new : RowsLeft A K V P T) → HasTheSamePlan old new → ReadNothing (over_of old) (steps_of old.plan) new.partials → AreQuietLeft new
  quiet_left old new = along_plan (λ over steps. ReadNothing over steps new.partials) old new

  module _ (old new : RowsLeft A K V P T) (next : Option (List Oid))
      (answers : AnswersNext (AreLeft old) (IsToCome (over_of old) (steps_of old.plan) new.partials) next) where
    -- one comes
    pub gives_left : (slots : List Oid) → HasTheSamePlan old new → next ≡ Some slots → Gives (AreLeft old) (AreLeft new) slots
    gives_left slots same is =
        subst (AnswersNext (AreLeft old) (AreLeft new)) is
        (along_plan (λ over steps. AnswersNext (AreLeft old) (IsToCome over steps new.partials) next) old new same answers)

    -- where none comes none is left
    pub none_left : next ≡ None → (slots : List Oid) → AreLeft old slots → ⊥
    none_left is slots left =
        let none : AnswersNext (AreLeft old) (IsToCome (over_of old) (steps_of old.plan) new.partials) None = subst (AnswersNext (AreLeft old) _) is answers in
        (none slots).0 left

-- ---- rows that are noted down
module _ {Asked Noted Left Later Next Now : List Cell → Type 0} (all : (row : List Cell) → Asked row ↔ (Noted row ⊎ Left row))
    (comes : (row : List Cell) → Left row ↔ (Later row ⊎ Next row)) (cut : Bool) (now : AreNow (λ row. Noted row ⊎ Next row) Now cut) where
  -- with one more each row that is asked for is noted or left, and no other
  pub noted_next : cut ≡ false → (row : List Cell) → Asked row ↔ (Now row ⊎ Later row)
  noted_next whole row = (
    λ asked. elim ((all row).0 asked) [
      | inl noted ↦ inl ((now.exact whole row).1 (inl noted))
      | inr left ↦ elim ((comes row).0 left) [
        | inl later ↦ inr later
        | inr next ↦ inl ((now.exact whole row).1 (inr next))
      ]
    ],
    λ h. elim h [
      | inl there ↦ elim ((now.exact whole row).0 there) [
        | inl noted ↦ (all row).1 (inl noted)
        | inr next ↦ (all row).1 (inr ((comes row).1 (inr next)))
      ]
      | inr later ↦ (all row).1 (inr ((comes row).1 (inl later)))
    ],
  )

  -- with one more they are too many
  pub noted_many : cut ≡ true → AreTooMany Asked
  noted_many is =
      too_many_asked (λ row. Noted row ⊎ Next row) Asked (λ row h. elim h [
        | inl noted ↦ (all row).1 (inl noted)
        | inr next ↦ (all row).1 (inr ((comes row).1 (inr next)))
      ]) (now.many is)
