-- Items put behind those that are there where they pass, of one item more.
use Rattle.std.proofs.Common.{◌≡◌, ◌⊎◌, ◌↔◌, ℕ, ◌+◌, ◌<◌, inl, inr, List, [], ◌∷◌, ◌++◌, length, map, take, get_or, Contains, sym, subst}
use Rattle.std.proofs.lemmas.List.{take_more, map-append}
use Rattle.lore_base.proofs.MemberLaws.{Contains-none}
use Rattle.value_changes.specs.inside.Sets.{AreAdded}
use Rattle.value_changes.proofs.SortedLaws.{in-more}

module _ {X Y : Type 0} (of : X → Y) (Passes : Y → Type 0) where
  pub added-none : (old : List Y) → AreAdded of Passes [] old old
  added-none old = record {
    exact = λ item. (
      λ at. inl at,
      λ h. elim h [ inl at ↦ at | inr none ↦ absurd (Contains-none item none.0) ],
    );
  }

  -- where nothing was there before
  pub added-alone : (others : List X) (new : List Y) → AreAdded of Passes others [] new → (item : Y)
      → Contains new item ↔ (Contains (map of others) item × Passes item)
  added-alone others new adds item = (
    λ at. elim ((adds.exact item).0 at) [ inl none ↦ absurd (Contains-none item none) | inr h ↦ h ],
    λ h. (adds.exact item).1 (inr h),
  )

  module _ (others : List X) (old new : List Y) (place : ℕ) (d : X) (lt : place < length others)
      (sofar : AreAdded of Passes (take place others) old new) where
    in-next : (item : Y) → Contains (map of (take (place + 1) others)) item
        ↔ (Contains (map of (take place others)) item ⊎ (of (get_or others place d) ≡ item))
    in-next item =
        rw (take_more others place d lt, map-append of (take place others) (get_or others place d ∷ []))
        (in-more (map of (take place others)) (of (get_or others place d)) item)

    pub added-more : (longer : List Y) → longer ≡ new ++ of (get_or others place d) ∷ [] → Passes (of (get_or others place d))
        → AreAdded of Passes (take (place + 1) others) old longer
    added-more longer is passes = rw is (record {
      exact = λ item. (
        λ at. elim ((in-more new (of (get_or others place d)) item).0 at) [
          | inl early ↦ elim ((sofar.exact item).0 early) [
            | inl was ↦ inl was
            | inr h ↦ inr ((in-next item).1 (inl h.0), h.1)
          ]
          | inr same ↦ inr ((in-next item).1 (inr same), subst Passes same passes)
        ],
        λ h. (in-more new (of (get_or others place d)) item).1 (elim h [
          | inl was ↦ inl ((sofar.exact item).1 (inl was))
          | inr added ↦ elim ((in-next item).0 added.0) [
            | inl early ↦ inl ((sofar.exact item).1 (inr (early, added.1)))
            | inr same ↦ inr same
          ]
        ]),
      );
    })

    pub added-less : (Passes (of (get_or others place d)) → ⊥) → AreAdded of Passes (take (place + 1) others) old new
    added-less fails = record {
      exact = λ item. (
        λ at. elim ((sofar.exact item).0 at) [
          | inl was ↦ inl was
          | inr h ↦ inr ((in-next item).1 (inl h.0), h.1)
        ],
        λ h. elim h [
          | inl was ↦ (sofar.exact item).1 (inl was)
          | inr added ↦ elim ((in-next item).0 added.0) [
            | inl early ↦ (sofar.exact item).1 (inr (early, added.1))
            | inr same ↦ absurd (fails (subst Passes (sym same) added.1))
          ]
        ],
      );
    }
