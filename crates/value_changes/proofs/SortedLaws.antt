-- Lists that hold each item once that passes: sorted, and grown at their end.
use Rattle.std.proofs.Common.{◌≡◌, ◌⊎◌, ◌↔◌, ◌∙◌, ℕ, ◌<◌, inl, inr, Less, List, [], ◌∷◌, ◌++◌, length, take, get_or, Contains, sym, subst, arith, length-take}
use Rattle.std.specs.declared.cmp.Ordering.{Ordering}
use Rattle.std.proofs.lemmas.List.{get_or_default, get_or-take}
use Rattle.std.proofs.lemmas.List.Elements.{Contains-get_or, Contains-append_left, Contains-push, Contains-push_cases}
use Rattle.lore_base.proofs.ListLaws.{AllPairs-append}
use Rattle.lore_base.proofs.MemberLaws.{Contains-none, Contains-same}
use Rattle.sorted_list.specs.SortedLists.{Ascends}
use Rattle.value_changes.specs.inside.Sets.{AreSetOf}

-- what stands in a list with one item more
pub in-more : {X : Type 0} (items : List X) (next item : X)
    → Contains (items ++ next ∷ []) item ↔ (Contains items item ⊎ (next ≡ item))
in-more items next item = (
  λ at. Contains-push_cases items next item at,
  λ either. elim either [
    | inl early ↦ Contains-append_left items (next ∷ []) item early
    | inr same ↦ Contains-same (items ++ next ∷ []) next item same (Contains-push items next)
  ],
)

taken_item : {X : Type 0} (items : List X) (place i : ℕ) (item : X) → i < place → get_or (take place items) i item ≡ item
    → get_or items i item ≡ item
taken_item items place i item early at = sym (get_or-take place items i item early) ∙ at

module _ {X : Type 0} (cmp : X → X → Ordering) where
  ascends-one : (item : X) → Ascends cmp (item ∷ [])
  ascends-one item i j d lt len = absurd (omega (arith, lt, len))

  ascends-none : Ascends cmp []
  ascends-none i j d lt len = absurd (omega (arith, lt, len))

  ascends-more : (items : List X) (next : X) → Ascends cmp items
      → ((item : X) → Contains items item → cmp item next ≡ Less) → Ascends cmp (items ++ next ∷ [])
  ascends-more items next ascend below =
      AllPairs-append (λ a b. cmp a b ≡ Less) items (next ∷ []) ascend (ascends-one next)
      (λ i j d lt_i lt_j.
      let first : j ≡ 0 = omega (arith, lt_j) in
      rw first (below (get_or items i d) (Contains-get_or items i d lt_i)))

  -- what stands before a place is below the item there
  pub below-next : (items : List X) → Ascends cmp items → (place : ℕ) (d : X) → place < length items → (item : X)
      → Contains (take place items) item → cmp item (get_or items place d) ≡ Less
  below-next items ascend place d lt item at =
      let early : at.0 < place = omega (arith, at.1, length-take place items) in
      let here = taken_item items place at.0 item early at.2 in
      let less = ascend at.0 place item early lt in
      subst (λ (x : X). cmp x (get_or items place d) ≡ Less) here
      (subst (λ (x : X). cmp (get_or items at.0 item) x ≡ Less) (get_or_default items place item d lt) less)

  -- a list that was put in order
  pub set-sorted : (Passes : X → Type 0) (items sorted : List X) → Ascends cmp sorted
      → ((item : X) → Contains sorted item ↔ Contains items item) → ((item : X) → Contains items item ↔ Passes item)
      → AreSetOf cmp Passes sorted
  set-sorted Passes items sorted ascend members exact = record {
    ascend = ascend;
    exact = λ item. (
      λ at. (exact item).0 ((members item).0 at),
      λ passes. (members item).1 ((exact item).1 passes),
    );
  }

  pub set-none : (Passes : X → Type 0) → ((item : X) → Passes item → ⊥) → AreSetOf cmp Passes []
  set-none Passes none = record {
    ascend = ascends-none;
    exact = λ item. (λ at. absurd (Contains-none item at), λ passes. absurd (none item passes));
  }

  -- where the same pass, the same list holds them
  pub set-same : (First All : X → Type 0) (items : List X) → AreSetOf cmp First items
      → ((item : X) → All item ↔ First item) → AreSetOf cmp All items
  set-same First All items firsts same = record {
    ascend = firsts.ascend;
    exact = λ item. (
      λ at. (same item).1 ((firsts.exact item).0 at),
      λ passes. (firsts.exact item).1 ((same item).0 passes),
    );
  }

  -- where one more passes, above all the others, it goes to the end
  pub set-more : (First All : X → Type 0) (items : List X) (next : X) → AreSetOf cmp First items
      → ((item : X) → First item → cmp item next ≡ Less) → ((item : X) → All item ↔ (First item ⊎ (next ≡ item)))
      → AreSetOf cmp All (items ++ next ∷ [])
  set-more First All items next firsts below whole = record {
    ascend = ascends-more items next firsts.ascend (λ item at. below item ((firsts.exact item).0 at));
    exact = λ item. (
      λ at. (whole item).1 (elim ((in-more items next item).0 at) [
        | inl early ↦ inl ((firsts.exact item).0 early)
        | inr same ↦ inr same
      ]),
      λ passes. (in-more items next item).1 (elim ((whole item).0 passes) [
        | inl early ↦ inl ((firsts.exact item).1 early)
        | inr same ↦ inr same
      ]),
    );
  }
