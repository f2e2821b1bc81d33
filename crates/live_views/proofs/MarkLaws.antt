-- The names of views that are marked, as they are gathered in order.
use Rattle.std.proofs.Common.{◌≡◌, ℕ, ◌⊎◌, inl, inr, ◌↔◌, List, [], ◌∷◌, ◌++◌, AllPairs, Less, sym, ap, subst, append-nil, append_assoc}
use Rattle.std.specs.List.{Contains}
use Rattle.std.specs.List.Sorted.{IsStrictlySortedBy}
use Rattle.std.specs.Map.{keys_of}
use Rattle.std.proofs.lemmas.List.Elements.{All-from_recursion, Contains-append_left, Contains-append_right, Contains-append_cases, Contains-push, Contains-push_cases}
use Rattle.std.proofs.lemmas.List.Kept.{AllPairs-cons}
use Rattle.std.proofs.lemmas.Map.Keys.{sorted_head, sorted_tail}
use Rattle.lore_base.specs.Bytes.{bytes_cmp}
use Rattle.lore_base.proofs.MemberLaws.{Contains-none, Contains-head, Contains-tail, Contains-cases}
use Rattle.lore_base.proofs.ListLaws.{AllPairs-head, AllPairs-tail}
use Rattle.list_laws.proofs.MemberLaws.{All-from_members}
use Rattle.list_laws.proofs.PairLaws.{AllPairs-nil}
use Rattle.live_views.specs.Views.{View, NamedView}

-- names in order
abbrev Ascend : List (List ℕ) → Type 0
Ascend names = AllPairs (λ a b. bytes_cmp a b ≡ Less) names

Ascend-sorted : (names : List (List ℕ)) → IsStrictlySortedBy bytes_cmp names → Ascend names
Ascend-sorted [] sorted = AllPairs-nil (λ a b. bytes_cmp a b ≡ Less)
Ascend-sorted (name ∷ names) sorted =
    AllPairs-cons (λ a b. bytes_cmp a b ≡ Less) name names
    (All-from_recursion (λ b. bytes_cmp name b ≡ Less) names (sorted_head bytes_cmp name names sorted))
    (Ascend-sorted names (sorted_tail bytes_cmp name names sorted))

-- one item more or less in the middle
within_more : {X : Type 0} (xs : List X) (x : X) (ys : List X) (y : X) → Contains (xs ++ ys) y → Contains (xs ++ x ∷ ys) y
within_more xs x ys y there = elim (Contains-append_cases xs ys y there) [
  | inl front ↦ Contains-append_left xs (x ∷ ys) y front
  | inr back ↦ Contains-append_right xs (x ∷ ys) y (Contains-tail x ys y back)
]

AllPairs-less : {X : Type 0} (R : X → X → Type 0) (xs : List X) (x : X) (ys : List X) → AllPairs R (xs ++ x ∷ ys) → AllPairs R (xs ++ ys)
AllPairs-less R [] x ys pairs = AllPairs-tail R x ys pairs
AllPairs-less R (first ∷ xs) x ys pairs =
    AllPairs-cons R first (xs ++ ys)
    (All-from_members (R first) (xs ++ ys) (λ y there. AllPairs-head R first (xs ++ x ∷ ys) pairs y (within_more xs x ys y there)))
    (AllPairs-less R xs x ys (AllPairs-tail R first (xs ++ x ∷ ys) pairs))

-- a view of this name passes
abbrev pub HasSuch : (View → Type 0) → List NamedView → List ℕ → Type 0
HasSuch Passes views name = (view : View) × Contains views (name, view) × Passes view

-- of the views some are left; the names of those before that pass are marked
pub record AreMarked (Passes : View → Type 0) (all left : List NamedView) (marks : List (List ℕ)) : Type 0 where
  pub ascend : Ascend (marks ++ keys_of left)
  pub exact : (name : List ℕ) → (Contains marks name ⊎ HasSuch Passes left name) ↔ HasSuch Passes all name

module _ (Passes : View → Type 0) (all : List NamedView) where
  pub AreMarked-none : (marks : List (List ℕ)) → marks ≡ [] → IsStrictlySortedBy bytes_cmp (keys_of all) → AreMarked Passes all all marks
  AreMarked-none marks none sorted = record {
    ascend = subst (λ (l : List (List ℕ)). Ascend (l ++ keys_of all)) (sym none) (Ascend-sorted (keys_of all) sorted);
    exact = λ name. (
      λ h. elim h [
        | inl at ↦ absurd (Contains-none name (subst (λ (l : List (List ℕ)). Contains l name) none at))
        | inr such ↦ such
      ],
      λ such. inr such,
    );
  }

  module _ (entry : NamedView) (left : List NamedView) (marks : List (List ℕ)) where
    first_or_left : (name : List ℕ) → HasSuch Passes (entry ∷ left) name → ((entry.0 ≡ name) × Passes entry.1) ⊎ HasSuch Passes left name
    first_or_left name (view, there, passes) = elim (Contains-cases entry left (name, view) there) [
      | inl same ↦ inl (ap (λ (e : NamedView). e.0) same, subst Passes (sym (ap (λ (e : NamedView). e.1) same)) passes)
      | inr later ↦ inr (view, later, passes)
    ]

    pub AreMarked-passed : Passes entry.1 → AreMarked Passes all (entry ∷ left) marks → AreMarked Passes all left (marks ++ entry.0 ∷ [])
    AreMarked-passed passes are = record {
      ascend = subst Ascend (sym (append_assoc marks (entry.0 ∷ []) (keys_of left))) are.ascend;
      exact = λ name. (
        λ h. (are.exact name).0 (elim h [
          | inl at ↦ elim (Contains-push_cases marks entry.0 name at) [
            | inl early ↦ inl early
            | inr same ↦ inr (entry.1, subst (λ (n : List ℕ). Contains (entry ∷ left) (n, entry.1)) same (Contains-head entry left), passes)
          ]
          | inr such ↦ inr (such.0, Contains-tail entry left (name, such.0) such.1, such.2)
        ]),
        λ such. elim ((are.exact name).1 such) [
          | inl early ↦ inl (Contains-append_left marks (entry.0 ∷ []) name early)
          | inr there ↦ elim (first_or_left name there) [
            | inl own ↦ inl (subst (Contains (marks ++ entry.0 ∷ [])) own.0 (Contains-push marks entry.0))
            | inr later ↦ inr later
          ]
        ],
      );
    }

    pub AreMarked-failed : (Passes entry.1 → ⊥) → AreMarked Passes all (entry ∷ left) marks → AreMarked Passes all left marks
    AreMarked-failed fails are = record {
      ascend = AllPairs-less (λ a b. bytes_cmp a b ≡ Less) marks entry.0 (keys_of left) are.ascend;
      exact = λ name. (
        λ h. (are.exact name).0 (elim h [
          | inl at ↦ inl at
          | inr such ↦ inr (such.0, Contains-tail entry left (name, such.0) such.1, such.2)
        ]),
        λ such. elim ((are.exact name).1 such) [
          | inl early ↦ inl early
          | inr there ↦ elim (first_or_left name there) [ inl own ↦ absurd (fails own.1) | inr later ↦ inr later ]
        ],
      );
    }

  pub marks_ascend : (left : List NamedView) (marks : List (List ℕ)) → left ≡ [] → AreMarked Passes all left marks → Ascend marks
  marks_ascend left marks none are =
      subst Ascend (append-nil marks) (subst (λ (l : List NamedView). Ascend (marks ++ keys_of l)) none are.ascend)

  pub marks_exact : (left : List NamedView) (marks : List (List ℕ)) → left ≡ [] → AreMarked Passes all left marks
      → (name : List ℕ) → Contains marks name ↔ HasSuch Passes all name
  marks_exact left marks none are name = (
    λ at. (are.exact name).0 (inl at),
    λ such. elim ((are.exact name).1 such) [
      | inl at ↦ at
      | inr more ↦ absurd (Contains-none (name, more.0) (subst (λ (l : List NamedView). Contains l (name, more.0)) none more.1))
    ],
  )
