-- There is one list of entries: two are equal, and items put at their places are one.
use Rattle.std.proofs.Common.{◌≡◌, ◌≢◌, ◌==◌, ◌↔◌, ◌⊎◌, true, false, Less, Equal, Greater, List, [], ◌∷◌, AllPairs, Contains, refl, sym, ap, subst, ◌∙◌, inl, inr, arith}
use Rattle.std.specs.declared.cmp.Ordering.{Ordering}
use Rattle.std.specs.Cmp.{IsTotalOrder}
use Rattle.std.specs.Ordering.{ordering_reverse}
use Rattle.std.specs.BTreeSet.{insert_key}
use Rattle.std.proofs.lemmas.Bool.Decides.{nat_tests}
use Rattle.std.proofs.lemmas.Cmp.{nat_cmp_total, on_total, then_total}
use Rattle.lore_base.proofs.ListLaws.{AllPairs-unique}
use Rattle.lore_base.proofs.MemberLaws.{Contains-none, Contains-head, Contains-tail, Contains-cases, Contains-same}
use Rattle.lore_base.specs.Databases.{AreAscendingObjects}
use Rattle.lore_base.proofs.ToldLaws.{told_complex}
use Rattle.list_laws.proofs.InsertLaws.{Contains-insert_key, AllPairs-insert_key, Contains-from_insert_key, insert_key-contains_new}
use Rattle.index_traits.proofs.ObjectLaws.{entry_cmp_total, one_value_of}
use Rattle.index_traits.specs.Types.{Oid, Label, Edge, Value, Complex}
use Rattle.index_traits.specs.declared.entries.ValueEntry.{ValueEntry}
use Rattle.index_traits.specs.Entries.{link_cmp, entry_of, entry_cmp, IsValueEntry, AreValueEntries}
use Rattle.index_laws.specs.EntryLaws.{LinksAreDetermined, EntriesAreDetermined, LinksExist, EntriesExist}
use Rattle.index_laws.proofs.ChangedEntries.{entries_gain_at_most_one}

link_cmp_total : IsTotalOrder link_cmp
link_cmp_total = then_total (on_total (λ e. e.child.0) nat_cmp_total) (then_total (on_total (λ e. e.label.0) nat_cmp_total) (on_total (λ e. e.parent.0) nat_cmp_total))

module _ {X : Type 0} (cmp : X → X → Ordering) (total : IsTotalOrder cmp) where
  once : (x y : X) → cmp x y ≡ Less → cmp y x ≡ Less → ⊥
  once x y less back = let none : Less ≡ Greater = sym less ∙ total.antisymm x y ∙ ap ordering_reverse back in cc

  -- two ascending lists of the same items are one
  same_items : (Holds : X → Type 0) (xs ys : List X) → AllPairs (λ a b. cmp a b ≡ Less) xs → AllPairs (λ a b. cmp a b ≡ Less) ys
      → ((x : X) → Contains xs x ↔ Holds x) → ((x : X) → Contains ys x ↔ Holds x) → xs ≡ ys
  same_items Holds xs ys in_xs in_ys first second =
      AllPairs-unique (λ a b. cmp a b ≡ Less) once xs ys in_xs in_ys (λ x. (λ at. (second x).1 ((first x).0 at), λ at. (first x).1 ((second x).0 at)))

pub links_are_determined : LinksAreDetermined
links_are_determined edges first second is also = same_items link_cmp link_cmp_total (Contains edges) first second is.ascend also.ascend is.exact also.exact

pub entries_are_determined : EntriesAreDetermined
entries_are_determined objects edges first second is also = same_items entry_cmp entry_cmp_total (IsValueEntry objects edges) first second is.ascend also.ascend is.exact also.exact

same_oid : (a b : Oid) → a.0 ≡ b.0 → a ≡ b
same_oid a b number = ap (λ n. record { 0 = n }) number

same_label : (a b : Label) → a.0 ≡ b.0 → a ≡ b
same_label a b number = ap (λ n. record { 0 = n }) number

tied_links : (a b : Edge) → link_cmp a b ≡ Equal → a ≡ b
tied_links a b tie =
    let parent : a.parent.0 ≡ b.parent.0 = grind (arith, nat_tests) in
    let label : a.label.0 ≡ b.label.0 = grind (arith, nat_tests) in
    let child : a.child.0 ≡ b.child.0 = grind (arith, nat_tests) in
    λ i. record { parent = same_oid a.parent b.parent parent i; label = same_label a.label b.label label i; child = same_oid a.child b.child child i }

pub links_exist : LinksExist
links_exist [] = ([], record { ascend = λ i j d lt len. absurd (omega (arith, lt, len)); exact = λ edge. (λ at. at, λ at. at) })
links_exist (edge ∷ edges) =
    let others = links_exist edges in (
      insert_key link_cmp others.0 edge,
      record {
        ascend = AllPairs-insert_key link_cmp link_cmp_total others.0 edge others.1.ascend;
        exact = λ other. (
          λ at. elim (Contains-from_insert_key link_cmp others.0 edge other at) [
            | inl kept ↦ Contains-tail edge edges other ((others.1.exact other).0 kept)
            | inr same ↦ Contains-same (edge ∷ edges) edge other same (Contains-head edge edges)
          ],
          λ at. elim (Contains-cases edge edges other at) [
            | inl same ↦ Contains-same (insert_key link_cmp others.0 edge) edge other same (insert_key-contains_new link_cmp others.0 edge (λ x there tie. sym (tied_links edge x tie)))
            | inr later ↦ Contains-insert_key link_cmp others.0 edge other ((others.1.exact other).1 later)
          ],
        );
      },
    )

-- an object is live with an atomic value, or it has none
atom_or_none : (objects : List (Oid × Value)) (oid : Oid)
    → ((value : Value) × Contains objects (oid, value) × (value ≢ Complex)) ⊎ ((value : Value) → Contains objects (oid, value) → value ≢ Complex → ⊥)
atom_or_none [] oid = inr (λ value at atom. Contains-none (oid, value) at)
atom_or_none (object ∷ objects) oid = elim (atom_or_none objects oid) [
  | inl found ↦ inl (found.0, Contains-tail object objects (oid, found.0) found.1, found.2)
  | inr none ↦
      elim (object.0.0 == oid.0) as (λ b. (object.0.0 == oid.0) ≡ b
      → ((value : Value) × Contains (object ∷ objects) (oid, value) × (value ≢ Complex)) ⊎ ((value : Value) → Contains (object ∷ objects) (oid, value) → value ≢ Complex → ⊥)) [
        | true ↦ λ same.
            let number : object.0.0 ≡ oid.0 = grind (arith, nat_tests) in
            let is : object ≡ (oid, object.1) = λ i. (same_oid object.0 oid number i, object.1) in
            let here = Contains-same (object ∷ objects) object (oid, object.1) is (Contains-head object objects) in
            elim (told_complex object.1) [
              | inl complex ↦ inr (λ value at atom. elim (Contains-cases object objects (oid, value) at) [
                | inl first ↦ atom (sym (ap (λ (o : Oid × Value). o.1) first) ∙ complex)
                | inr later ↦ none value later atom
              ])
              | inr atom ↦ inl (object.1, here, atom)
            ]
        | false ↦ λ other. inr (λ value at atom. elim (Contains-cases object objects (oid, value) at) [
          | inl first ↦ (let number : object.0.0 ≡ oid.0 = ap (λ (o : Oid × Value). o.0.0) first in grind (arith, nat_tests))
          | inr later ↦ none value later atom
        ])
      ] refl
]

tied_entries : (objects : List (Oid × Value)) → AreAscendingObjects objects → (a b : ValueEntry) → Contains objects (a.object, a.value) → Contains objects (b.object, b.value)
    → entry_cmp a b ≡ Equal → a ≡ b
tied_entries objects ascend a b at also tie =
    let label : a.label.0 ≡ b.label.0 = grind (arith, nat_tests) in
    let number : a.object.0 ≡ b.object.0 = grind (arith, nat_tests) in
    let object = same_oid a.object b.object number in
    let value = one_value_of objects ascend b.object a.value b.value (subst (λ (o : Oid). Contains objects (o, a.value)) object at) also in
    λ i. record { label = same_label a.label b.label label i; value = value i; object = object i }

-- entries with those of one edge more
module _ (objects : List (Oid × Value)) (ascend : AreAscendingObjects objects) (edge : Edge) (edges : List Edge) (entries : List ValueEntry)
    (are : AreValueEntries objects edges entries) where
  gains : (other : Edge) → Contains (edge ∷ edges) other ↔ (Contains edges other ⊎ (other ≡ edge))
  gains other = (
    λ at. elim (Contains-cases edge edges other at) [ inl same ↦ inr (sym same) | inr later ↦ inl later ],
    λ either. elim either [ inl later ↦ Contains-tail edge edges other later | inr same ↦ Contains-same (edge ∷ edges) edge other (sym same) (Contains-head edge edges) ],
  )

  with_atom : (value : Value) → Contains objects (edge.child, value) → value ≢ Complex
      → AreValueEntries objects (edge ∷ edges) (insert_key entry_cmp entries (entry_of edge.label value edge.child))
  with_atom value at atom =
      let new = entry_of edge.label value edge.child in
      let exact : (x : ValueEntry) → Contains entries x → entry_cmp new x ≡ Equal → x ≡ new
      = λ x there tie. sym (tied_entries objects ascend new x at ((are.exact x).0 there).live tie) in
      record {
        ascend = AllPairs-insert_key entry_cmp entry_cmp_total entries new are.ascend;
        exact = λ entry.
            let law = entries_gain_at_most_one objects edges (edge ∷ edges) edge gains entry in (
              λ there. law.1 (elim (Contains-from_insert_key entry_cmp entries new entry there) [
                | inl kept ↦ inl ((are.exact entry).0 kept)
                | inr same ↦ inr (
                  (sym (ap (λ (e : ValueEntry). e.label) same), sym (ap (λ (e : ValueEntry). e.object) same)),
                  subst (λ (e : ValueEntry). Contains objects (e.object, e.value)) same at,
                  subst (λ (e : ValueEntry). e.value ≢ Complex) same atom,
                )
              ]),
              λ h. elim (law.0 h) [
                | inl before ↦ Contains-insert_key entry_cmp entries new entry ((are.exact entry).1 before)
                | inr own ↦
                    let there = subst (λ (o : Oid). Contains objects (o, entry.value)) own.0.1 own.1 in
                    let value_is = one_value_of objects ascend edge.child value entry.value at there in
                    let same : new ≡ entry = λ i. record { label = sym own.0.0 i; value = value_is i; object = sym own.0.1 i } in
                    Contains-same (insert_key entry_cmp entries new) new entry same (insert_key-contains_new entry_cmp entries new exact)
              ],
            );
      }

  without_atom : ((value : Value) → Contains objects (edge.child, value) → value ≢ Complex → ⊥) → AreValueEntries objects (edge ∷ edges) entries
  without_atom none = record {
    ascend = are.ascend;
    exact = λ entry.
        let law = entries_gain_at_most_one objects edges (edge ∷ edges) edge gains entry in (
          λ there. law.1 (inl ((are.exact entry).0 there)),
          λ h. elim (law.0 h) [
            | inl before ↦ (are.exact entry).1 before
            | inr own ↦ absurd (none entry.value (subst (λ (o : Oid). Contains objects (o, entry.value)) own.0.1 own.1) own.2)
          ],
        );
  }

pub entries_exist : EntriesExist
entries_exist objects [] ascend = (
  [],
  record {
    ascend = λ i j d lt len. absurd (omega (arith, lt, len));
    exact = λ entry. (λ at. absurd (Contains-none entry at), λ h. absurd (Contains-none _ h.entered.1));
  },
)
entries_exist objects (edge ∷ edges) ascend =
    let others = entries_exist objects edges ascend in
    elim (atom_or_none objects edge.child) [
      | inl found ↦ (insert_key entry_cmp others.0 (entry_of edge.label found.0 edge.child), with_atom objects ascend edge edges others.0 others.1 found.0 found.1 found.2)
      | inr none ↦ (others.0, without_atom objects ascend edge edges others.0 others.1 none)
    ]
