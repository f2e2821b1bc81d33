-- What one edge more or less and a changed value do to entries.
use Rattle.std.proofs.Common.{◌≡◌, ◌≢◌, ◌==◌, ◌⊎◌, true, false, List, Contains, refl, sym, ap, subst, ◌∙◌, inl, inr, arith}
use Rattle.std.proofs.lemmas.Bool.Decides.{nat_tests}
use Rattle.index_traits.proofs.ObjectLaws.{same_oid, same_label}
use Rattle.index_traits.specs.Types.{Oid, Label, Edge, Value, Complex}
use Rattle.index_traits.specs.declared.entries.ValueEntry.{ValueEntry}
use Rattle.index_laws.specs.EntryLaws.{IsEntryOf, HasChangedValue, LinksGainTheEdge, EntriesGainAtMostOne, LinksLoseTheEdge, EntriesLoseAtMostOne, EntriesStayWithAnotherParent, EntriesGoWithTheLastEdge, EntriesOfOthersStay, EntriesChangeTheirValue, EntriesAreOfTheNewValue, EntriesGoWithAComplexValue}
use Rattle.lore_base.specs.Walks.{edge_of}

pub links_gain_the_edge : LinksGainTheEdge
links_gain_the_edge edges after links links_after edge gains before then other = (
  λ at. elim ((gains other).0 ((then.exact other).0 at)) [ inl kept ↦ inl ((before.exact other).1 kept) | inr same ↦ inr same ],
  λ either. (then.exact other).1 ((gains other).1 (elim either [ inl at ↦ inl ((before.exact other).0 at) | inr same ↦ inr same ])),
)

-- an edge with the label and the child of another, from its parent, is that other
the_edge : (edge : Edge) (label : Label) (child : Oid) → label ≡ edge.label → child ≡ edge.child → edge_of edge.parent label child ≡ edge
the_edge edge label child same_label same_child = λ i. record { parent = edge.parent; label = same_label i; child = same_child i }

pub entries_gain_at_most_one : EntriesGainAtMostOne
entries_gain_at_most_one objects edges after edge gains entry = (
  λ h. elim ((gains (edge_of h.entered.0 entry.label entry.object)).0 h.entered.1) [
    | inl kept ↦ inl (record { live = h.live; atomic = h.atomic; entered = (h.entered.0, kept) })
    | inr same ↦ inr ((ap (λ (e : Edge). e.label) same, ap (λ (e : Edge). e.child) same), h.live, h.atomic)
  ],
  λ either. elim either [
    | inl h ↦ record { live = h.live; atomic = h.atomic; entered = (h.entered.0, (gains (edge_of h.entered.0 entry.label entry.object)).1 (inl h.entered.1)) }
    | inr h ↦ record {
      live = h.1;
      atomic = h.2;
      entered = (edge.parent, (gains (edge_of edge.parent entry.label entry.object)).1 (inr (the_edge edge entry.label entry.object h.0.0 h.0.1)));
    }
  ],
)

pub links_lose_the_edge : LinksLoseTheEdge
links_lose_the_edge edges after links links_after edge loses before then other = (
  λ at. (let kept = (loses other).0 ((then.exact other).0 at) in ((before.exact other).1 kept.0, kept.1)),
  λ both. (then.exact other).1 ((loses other).1 ((before.exact other).0 both.0, both.1)),
)

other_oid : (a b : Oid) → (a.0 == b.0) ≡ false → a ≢ b
other_oid a b h same = let number : a.0 ≡ b.0 = ap (λ (o : Oid). o.0) same in grind (arith, nat_tests)

other_label : (a b : Label) → (a.0 == b.0) ≡ false → a ≢ b
other_label a b h same = let number : a.0 ≡ b.0 = ap (λ (l : Label). l.0) same in grind (arith, nat_tests)

-- an entry has the label and child of an edge or it has not
is_entry_or_not : (edge : Edge) (entry : ValueEntry) → IsEntryOf edge entry ⊎ (IsEntryOf edge entry → ⊥)
is_entry_or_not edge entry =
    elim (entry.label.0 == edge.label.0) as (λ b. (entry.label.0 == edge.label.0) ≡ b → IsEntryOf edge entry ⊎ (IsEntryOf edge entry → ⊥)) [
      | true ↦ λ label. elim (entry.object.0 == edge.child.0) as (λ b. (entry.object.0 == edge.child.0) ≡ b → IsEntryOf edge entry ⊎ (IsEntryOf edge entry → ⊥)) [
        | true ↦ λ child. inl (same_label entry.label edge.label label, same_oid entry.object edge.child child)
        | false ↦ λ child. inr (λ both. other_oid entry.object edge.child child both.1)
      ] refl
      | false ↦ λ label. inr (λ both. other_label entry.label edge.label label both.0)
    ] refl

-- an edge between the same objects by the same label
moved_edge : (edges : List Edge) (parent : Oid) (label other : Label) (child object : Oid) → label ≡ other → child ≡ object
    → Contains edges (edge_of parent label child) → Contains edges (edge_of parent other object)
moved_edge edges parent label other child object same_label same_child at =
    let same : edge_of parent label child ≡ edge_of parent other object = λ i. record { parent = parent; label = same_label i; child = same_child i } in
    subst (λ (e : Edge). Contains edges e) same at

pub entries_lose_at_most_one : EntriesLoseAtMostOne
entries_lose_at_most_one objects edges after edge loses entry = (
  λ h.
      let kept = (loses (edge_of h.entered.0 entry.label entry.object)).0 h.entered.1 in (
        record { live = h.live; atomic = h.atomic; entered = (h.entered.0, kept.0) },
        λ is. (
          h.entered.0,
          λ same. kept.1 (subst (λ (parent : Oid). edge_of parent entry.label entry.object ≡ edge) (sym same) (the_edge edge entry.label entry.object is.0 is.1)),
          moved_edge edges h.entered.0 entry.label edge.label entry.object edge.child is.0 is.1 kept.0,
        ),
      ),
  λ both.
      let h = both.0 in
      elim (is_entry_or_not edge entry) [
        | inl is ↦
            let other = both.1 is in
            let stays = (loses (edge_of other.0 edge.label edge.child)).1 (other.2, λ same. other.1 (ap (λ (e : Edge). e.parent) same)) in
            record { live = h.live; atomic = h.atomic; entered = (other.0, moved_edge after other.0 edge.label entry.label edge.child entry.object (sym is.0) (sym is.1) stays) }
        | inr other ↦ record {
          live = h.live;
          atomic = h.atomic;
          entered = (h.entered.0, (loses (edge_of h.entered.0 entry.label entry.object)).1 (h.entered.1, λ same. other (ap (λ (e : Edge). e.label) same, ap (λ (e : Edge). e.child) same)));
        }
      ],
)

pub entries_stay_with_another_parent : EntriesStayWithAnotherParent
entries_stay_with_another_parent objects edges after edge loses other entry =
    let all = entries_lose_at_most_one objects edges after edge loses entry in
    (λ h. (all.0 h).0, λ h. all.1 (h, λ is. other))

pub entries_go_with_the_last_edge : EntriesGoWithTheLastEdge
entries_go_with_the_last_edge objects edges after edge loses last entry is h = last (((entries_lose_at_most_one objects edges after edge loses entry).0 h).1 is)

-- the values of the other objects are as before
live_before : (objects after : List (Oid × Value)) (oid : Oid) (value : Value) → HasChangedValue objects oid value after
    → (entry : ValueEntry) → entry.object ≢ oid → Contains after (entry.object, entry.value) → Contains objects (entry.object, entry.value)
live_before objects after oid value changed entry other at = elim ((changed entry.object entry.value).0 at) [ inl before ↦ before.0 | inr new ↦ absurd (other new.0) ]

pub entries_of_others_stay : EntriesOfOthersStay
entries_of_others_stay objects after edges oid value changed entry other = (
  λ h. record { live = live_before objects after oid value changed entry other h.live; atomic = h.atomic; entered = h.entered },
  λ h. record { live = (changed entry.object entry.value).1 (inl (h.live, other)); atomic = h.atomic; entered = h.entered },
)

-- the object has no value but the new one
value_then : (objects after : List (Oid × Value)) (oid : Oid) (value : Value) → HasChangedValue objects oid value after
    → (entry : ValueEntry) → entry.object ≡ oid → Contains after (entry.object, entry.value) → entry.value ≡ value
value_then objects after oid value changed entry same at = elim ((changed entry.object entry.value).0 at) [ inl before ↦ absurd (before.1 same) | inr new ↦ new.1 ]

pub entries_change_their_value : EntriesChangeTheirValue
entries_change_their_value objects after edges oid old new changed had old_atom new_atom entry same = (
  λ h. (
    value_then objects after oid new changed entry same h.live,
    record { live = had; atomic = old_atom; entered = (h.entered.0, moved_edge edges h.entered.0 entry.label entry.label entry.object oid refl same h.entered.1) },
  ),
  λ both. record {
    live = (changed entry.object entry.value).1 (inr (same, both.0));
    atomic = λ complex. new_atom (sym both.0 ∙ complex);
    entered = (both.1.entered.0, moved_edge edges both.1.entered.0 entry.label entry.label oid entry.object refl (sym same) both.1.entered.1);
  },
)

pub entries_are_of_the_new_value : EntriesAreOfTheNewValue
entries_are_of_the_new_value objects after edges oid value changed atom entry same = (
  λ h. (value_then objects after oid value changed entry same h.live, (h.entered.0, moved_edge edges h.entered.0 entry.label entry.label entry.object oid refl same h.entered.1)),
  λ both. record {
    live = (changed entry.object entry.value).1 (inr (same, both.0));
    atomic = λ complex. atom (sym both.0 ∙ complex);
    entered = (both.1.0, moved_edge edges both.1.0 entry.label entry.label oid entry.object refl (sym same) both.1.1);
  },
)

pub entries_go_with_a_complex_value : EntriesGoWithAComplexValue
entries_go_with_a_complex_value objects after edges oid changed entry same h = h.atomic (value_then objects after oid Complex changed entry same h.live)
