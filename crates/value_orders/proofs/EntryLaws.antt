-- Value entries: their order, and entries put at their places among others.
use Rattle.std.proofs.Common.{◌≡◌, ◌⊎◌, inl, inr, Less, Equal, Greater, List, [], ◌∷◌, get_or, Contains, nat_cmp, subst, sym, ap, ◌∙◌, arith}
use Rattle.std.specs.BTreeSet.{insert_key}
use Rattle.std.specs.Ordering.{ordering_reverse}
use Rattle.std.proofs.lemmas.Bool.{cases_lt}
use Rattle.std.proofs.lemmas.Cmp.{tied_itself}
use Rattle.std.proofs.lemmas.List.{get_or_default}
use Rattle.index_traits.specs.Entries.{AreAscendingEntries, entry_of, entry_cmp}
use Rattle.lore_base.proofs.MemberLaws.{Contains-none, Contains-head, Contains-tail, Contains-cases, Contains-same}
use Rattle.list_laws.proofs.InsertLaws.{Contains-from_insert_key, Contains-insert_key, insert_key-contains_new, AllPairs-insert_key}
use Rattle.list_laws.proofs.OrderLaws.{same_from_cmp}
use Rattle.index_traits.proofs.ObjectLaws.{entry_cmp_total}
use Rattle.value_orders.specs.Types.{Oid, Label, Value, ValueEntry}
use Rattle.value_orders.specs.Orders.{with_entries}
use Rattle.value_orders.proofs.KeyLaws.{first_same, rest_equal}

-- equal entries have the label and the object in common
pub same_label : (a b : ValueEntry) → entry_cmp a b ≡ Equal → a.label ≡ b.label
same_label a b equal = let number : a.label.0 ≡ b.label.0 = first_same a.label.0 b.label.0 _ equal in ap (λ n. record { 0 = n }) number

pub same_object : (a b : ValueEntry) → entry_cmp a b ≡ Equal → a.object ≡ b.object
same_object a b equal = let number : a.object.0 ≡ b.object.0 = same_from_cmp _ _ (rest_equal (nat_cmp a.label.0 b.label.0) _ equal) in ap (λ n. record { 0 = n }) number

pub same_entry : (a b : ValueEntry) → a.label ≡ b.label → a.value ≡ b.value → a.object ≡ b.object → a ≡ b
same_entry a b label value object = λ i. record { label = label i; value = value i; object = object i }

pub in-with : (xs ys : List ValueEntry) (entry : ValueEntry) → Contains (with_entries xs ys) entry → Contains xs entry ⊎ Contains ys entry
in-with xs [] entry at = inl at
in-with xs (y ∷ ys) entry at = elim (in-with (insert_key entry_cmp xs y) ys entry at) [
  | inl there ↦ elim (Contains-from_insert_key entry_cmp xs y entry there) [ inl kept ↦ inl kept | inr same ↦ inr (Contains-same (y ∷ ys) y entry same (Contains-head y ys)) ]
  | inr later ↦ inr (Contains-tail y ys entry later)
]

kept-with : (xs ys : List ValueEntry) (entry : ValueEntry) → Contains xs entry → Contains (with_entries xs ys) entry
kept-with xs [] entry at = at
kept-with xs (y ∷ ys) entry at = kept-with (insert_key entry_cmp xs y) ys entry (Contains-insert_key entry_cmp xs y entry at)

-- an entry stands there if no other one is equal
pub new-with : (xs ys : List ValueEntry) (entry : ValueEntry)
    → ((other : ValueEntry) → Contains xs other ⊎ Contains ys other → entry_cmp entry other ≡ Equal → other ≡ entry)
    → Contains ys entry → Contains (with_entries xs ys) entry
new-with xs [] entry alone at = absurd (Contains-none entry at)
new-with xs (y ∷ ys) entry alone at = elim (Contains-cases y ys entry at) [
  | inl same ↦ kept-with (insert_key entry_cmp xs y) ys entry (Contains-same (insert_key entry_cmp xs y) y entry same
      (insert_key-contains_new entry_cmp xs y (λ other there equal.
      alone other (inl there) (subst (λ (e : ValueEntry). entry_cmp e other ≡ Equal) same equal) ∙ sym same)))
  | inr later ↦ new-with (insert_key entry_cmp xs y) ys entry (λ other either equal. elim either [
    | inl there ↦ elim (Contains-from_insert_key entry_cmp xs y other there) [
      | inl kept ↦ alone other (inl kept) equal
      | inr same ↦ alone other (inr (Contains-same (y ∷ ys) y other same (Contains-head y ys))) equal
    ]
    | inr behind ↦ alone other (inr (Contains-tail y ys other behind)) equal
  ]) later
]

pub ascend-with : (xs ys : List ValueEntry) → AreAscendingEntries xs → AreAscendingEntries (with_entries xs ys)
ascend-with xs [] ascend = ascend
ascend-with xs (y ∷ ys) ascend = ascend-with (insert_key entry_cmp xs y) ys (AllPairs-insert_key entry_cmp entry_cmp_total xs y ascend)

pub ascend-none : AreAscendingEntries []
ascend-none i j d lt len = absurd (omega (arith, len))

pub less_once : (a b : ValueEntry) → entry_cmp a b ≡ Less → entry_cmp b a ≡ Less → ⊥
less_once a b first second =
    let none : Less ≡ Greater = sym first ∙ entry_cmp_total.antisymm a b ∙ ap ordering_reverse second in
    absurd (cc)

-- of ascending entries no two are equal
pub same_of_equal : (entries : List ValueEntry) → AreAscendingEntries entries → (a b : ValueEntry) → Contains entries a → Contains entries b
    → entry_cmp a b ≡ Equal → a ≡ b
same_of_equal entries ascend a b first second equal =
    let a_at = first.2 in
    let b_at : get_or entries second.0 a ≡ b = get_or_default entries second.0 a b second.1 ∙ second.2 in
    elim (cases_lt first.0 second.0) [
      | inl before ↦ (
          let less : entry_cmp a b ≡ Less = subst (λ x. entry_cmp x b ≡ Less) a_at (subst (λ y. entry_cmp (get_or entries first.0 a) y ≡ Less) b_at (ascend first.0 second.0 a before second.1)) in
          let none : Less ≡ Equal = sym less ∙ equal in absurd (cc))
      | inr late ↦ elim (cases_lt second.0 first.0) [
        | inl before ↦ (
            let less : entry_cmp b a ≡ Less = subst (λ x. entry_cmp b x ≡ Less) a_at (subst (λ y. entry_cmp y (get_or entries first.0 a) ≡ Less) b_at (ascend second.0 first.0 a before first.1)) in
            let none : Equal ≡ Greater = sym equal ∙ entry_cmp_total.antisymm a b ∙ ap ordering_reverse less in absurd (cc))
        | inr other ↦ (let place : first.0 ≡ second.0 = omega arith in sym a_at ∙ ap (λ k. get_or entries k a) place ∙ b_at)
      ]
    ]

-- an object has one value under a label
pub one_own : (entries : List ValueEntry) → AreAscendingEntries entries → (label : Label) (object : Oid) (a b : Value)
    → Contains entries (entry_of label a object) → Contains entries (entry_of label b object) → a ≡ b
one_own entries ascend label object a b first second =
    ap (λ (e : ValueEntry). e.value)
    (same_of_equal entries ascend (entry_of label a object) (entry_of label b object) first second (tied_itself entry_cmp_total (entry_of label a object)))
