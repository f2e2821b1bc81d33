-- Which objects entries name.
use Rattle.std.proofs.Common.{◌≡◌, ◌==◌, ◌<◌, ◌≤◌, inl, inr, ℕ, Bool, true, false, Less, List, AllPairs, length, get_or, Contains, subst, refl, sym, ap, ◌∙◌, arith}
use Rattle.std.specs.Prelude.{nat_le}
use Rattle.std.specs.Ordering.{nat_cmp, ordering_then}
use Rattle.std.specs.declared.cmp.Ordering.{Ordering}
use Rattle.std.specs.List.Sorted.{IsPartitionedBy, IsPartitionPoint}
use Rattle.std.proofs.lemmas.Bool.{true≢false, false_from_ne_true, cases_lt, leb-true, le-leb}
use Rattle.std.proofs.lemmas.Bool.Decides.{nat_tests}
use Rattle.std.proofs.lemmas.List.{get_or_default}
use Rattle.std.proofs.lemmas.List.Folds.{Any-from_list_any, list_any_at}
use Rattle.lore_base.proofs.MemberLaws.{Contains-same}
use Rattle.list_laws.proofs.OrderLaws.{eqb_itself}
use Rattle.index_traits.proofs.ObjectLaws.{same_oid}
use Rattle.value_index.specs.Types.{Oid, Label, Value, Entry, Kind}
use Rattle.value_orders.specs.inside.Naming.{naming}
use Rattle.value_index.specs.inside.Leaving.{names}
use Rattle.value_orders.specs.EntryOrder.{AscendByValue}
use Rattle.value_index.specs.inside.Leaving.{IsPastLabel}
use Rattle.value_orders.proofs.KeyLaws.{same_naming}

-- an entry that names an object, by its label
pub names-from : (entries : List Entry) (object : Oid) → names entries object ≡ true → (label : Label) × Contains entries (naming label object)
names-from entries object h =
    let any = Any-from_list_any (λ (e : Entry). e.object.0 == object.0) entries h in
    let entry = any.1 in
    let same : entry ≡ naming entry.label object = same_naming entry (naming entry.label object) refl (same_oid entry.object object any.4) in
    (entry.label, Contains-same entries entry (naming entry.label object) same (any.0, any.2, any.3))

pub names-to : (entries : List Entry) (entry : Entry) → Contains entries entry → names entries entry.object ≡ true
names-to entries entry at =
    list_any_at (λ (e : Entry). e.object.0 == entry.object.0) entries at.0 entry at.1
    (ap (λ (e : Entry). e.object.0 == entry.object.0) at.2 ∙ eqb_itself entry.object.0)

-- ---- a search label by label

-- no entry before the place names the object
abbrev pub IsPassed : List Entry → Oid → ℕ → Type 0
IsPassed entries object start = (k : ℕ) (d : Entry) → k < start → k < length entries → (get_or entries k d).object ≡ object → ⊥

-- labels don't fall along ascending entries
less_label : (p q : ℕ) (o : Ordering) → ordering_then (nat_cmp p q) o ≡ Less → p ≤ q
less_label p q o h = grind (arith, nat_tests)

pub labels-rise : (values : List (Oid × Value)) (kind : Kind) (entries : List Entry) → AscendByValue values kind entries
    → AllPairs (λ (a b : Entry). a.label.0 ≤ b.label.0) entries
labels-rise values kind entries ascend i j d lt len =
    less_label (get_or entries i d).label.0 (get_or entries j d).label.0 _ (ascend i j d lt len)

pub labels-parted : (entries : List Entry) (label : Label) → AllPairs (λ (a b : Entry). a.label.0 ≤ b.label.0) entries
    → (test : Entry → Bool) → ((e : Entry) → test e ≡ true → e.label.0 ≤ label.0) → ((e : Entry) → e.label.0 ≤ label.0 → test e ≡ true)
    → IsPartitionedBy test entries
labels-parted entries label rise test from to i j d le lt at = elim (cases_lt i j) [
  | inl before ↦ to (get_or entries i d) (let up = rise i j d before lt in let low = from (get_or entries j d) at in omega (arith, up, low))
  | inr ge ↦ let same : i ≡ j = omega arith in subst (λ k. test (get_or entries k d) ≡ true) (sym same) at
]

pub past-from : (entries : List Entry) (label : Label) (place : ℕ) (test : Entry → Bool) → ((e : Entry) → test e ≡ true → e.label.0 ≤ label.0)
    → ((e : Entry) → e.label.0 ≤ label.0 → test e ≡ true) → place ≤ length entries
    → IsPartitionPoint (λ e. test e ≡ true) (λ e. test e ≡ false) entries place → IsPastLabel entries label place
past-from entries label place test from to within point = record {
  before = λ k d lt. from (get_or entries k d) (point.0 k d (omega arith) lt);
  behind = λ k d le lt. elim (cases_lt label.0 (get_or entries k d).label.0) [
    | inl above ↦ above
    | inr low ↦ absurd (true≢false (sym (to (get_or entries k d) low) ∙ point.1 k d le lt))
  ];
}

-- where the entry of this label isn't there, none of the label names the object
module _ (entries : List Entry) (object : Oid) (label : Label) (start next : ℕ) (rise : AllPairs (λ (a b : Entry). a.label.0 ≤ b.label.0) entries)
    (past : IsPastLabel entries label next) (e : Entry) (lt : start < length entries) (own : label ≡ (get_or entries start e).label) where
  pub passes-on : start < next
  passes-on = elim (cases_lt start next) [
    | inl before ↦ before
    | inr behind ↦
        let above = past.behind start e behind lt in
        absurd (omega (arith, above, ap (λ (l : Label). l.0) own))
  ]

  pub passed-more : IsPassed entries object start → (Contains entries (naming label object) → ⊥) → IsPassed entries object next
  passed-more passed absent k d below len same = elim (cases_lt k start) [
    | inl before ↦ passed k d before len same
    | inr after ↦
        let entry = get_or entries k d in
        let first = get_or entries start e in
        let low = past.before k d below in
        let high : first.label.0 ≤ entry.label.0 = elim (cases_lt start k) [
          | inl later ↦ (
              let read : get_or entries start d ≡ first = get_or_default entries start d e lt in
              let up = rise start k d later len in
              omega (arith, up, ap (λ (e : Entry). e.label.0) read))
          | inr other ↦ (
              let place : k ≡ start = omega arith in
              let read : entry ≡ first = ap (λ n. get_or entries n d) place ∙ get_or_default entries start d e lt in
              omega (arith, ap (λ (e : Entry). e.label.0) read))
        ] in
        let number : entry.label.0 ≡ label.0 = omega (arith, low, high, ap (λ (l : Label). l.0) own) in
        let is : entry ≡ naming label object = same_naming entry (naming label object) (ap (λ n. record { 0 = n }) number) same in
        absent (Contains-same entries entry (naming label object) is (k, len, get_or_default entries k entry d len))
  ]

-- where all entries are passed, none names the object
pub passed-all : (entries : List Entry) (object : Oid) (start : ℕ) → length entries ≤ start → IsPassed entries object start → names entries object ≡ false
passed-all entries object start all passed =
    false_from_ne_true (names entries object) (λ h.
    let found = names-from entries object h in
    passed found.1.0 (naming found.0 object) (omega (arith, all, found.1.1)) found.1.1 (ap (λ (e : Entry). e.object) found.1.2))

pub passed-none : (entries : List Entry) (object : Oid) → IsPassed entries object 0
passed-none entries object k d below = absurd (omega (arith, below))

-- the place that a search for the end of a label gives
pub end-is : (entries : List Entry) (label : Label) (place : ℕ) → AllPairs (λ (a b : Entry). a.label.0 ≤ b.label.0) entries → place ≤ length entries
    → (IsPartitionedBy (λ (e : Entry). nat_le e.label.0 label.0) entries
    → IsPartitionPoint (λ (e : Entry). nat_le e.label.0 label.0 ≡ true) (λ (e : Entry). nat_le e.label.0 label.0 ≡ false) entries place)
    → IsPastLabel entries label place
end-is entries label place rise within point =
    let test : Entry → Bool = λ e. nat_le e.label.0 label.0 in
    let from : (e : Entry) → test e ≡ true → e.label.0 ≤ label.0 = λ e h. leb-true e.label.0 label.0 h in
    let to : (e : Entry) → e.label.0 ≤ label.0 → test e ≡ true = λ e le. le-leb e.label.0 label.0 le in
    past-from entries label place test from to within (point (labels-parted entries label rise test from to))
