-- Lists that are told apart, the sublists of a list, and each item of a list once.
use Rattle.std.proofs.Common.{◌≡◌, ◌≢◌, ◌↔◌, Bool, true, false, cond, inl, inr}
use Rattle.std.proofs.Common.{List, [], ◌∷◌, ◌++◌, map, refl, sym}
use Rattle.std.specs.List.{AllPairs, Contains, filter}
use Rattle.std.proofs.lemmas.List.Elements.{Contains-append_left, Contains-append_right}
use Rattle.std.proofs.lemmas.List.Kept.{AllPairs-cons}
use Rattle.lore_base.proofs.MemberLaws.{Contains-head, Contains-tail, Contains-cases, Contains-same}
use Rattle.lore_base.proofs.ToldLaws.{IsTold, told_member}
use Rattle.list_laws.proofs.PairLaws.{AllPairs-nil}
use Rattle.list_laws.proofs.MemberLaws.{Contains-map, All-from_members}

-- where items can be told apart, so can lists of them
pub told_list : {X : Type 0} → ((a b : X) → IsTold (a ≡ b)) → (xs ys : List X) → IsTold (xs ≡ ys)
told_list told [] [] = inl refl
told_list told [] (y ∷ ys) = inr (λ same. cc)
told_list told (x ∷ xs) [] = inr (λ same. cc)
told_list told (x ∷ xs) (y ∷ ys) = elim (told x y) [
  | inl first ↦ elim (told_list told xs ys) [
    | inl others ↦ inl (λ i. first i ∷ others i)
    | inr apart ↦ inr (λ same. let others : xs ≡ ys = cc in apart others)
  ]
  | inr apart ↦ inr (λ same. let first : x ≡ y = cc in apart first)
]

pub told_some_in : {X : Type 0} (xs : List X) → IsTold (xs ≢ [])
told_some_in [] = inr (λ some. some refl)
told_some_in (x ∷ xs) = inl (λ none. cc)

-- all lists of some of the items, in their order
abbrev pub sublists : {X : Type 0} → List X → List (List X)
sublists [] = [] ∷ []
sublists (x ∷ xs) = map (λ others. x ∷ others) (sublists xs) ++ sublists xs

pub filter-sublist : {X : Type 0} (test : X → Bool) (xs : List X) → Contains (sublists xs) (filter test xs)
filter-sublist test [] = Contains-head [] []
filter-sublist {X} test (x ∷ xs) =
    let with_x : List X → List X = λ others. x ∷ others in
    elim (test x) as (λ b. Contains (sublists (x ∷ xs)) (cond b (x ∷ filter test xs) (filter test xs))) [
      | true ↦ Contains-append_left (map with_x (sublists xs)) (sublists xs) (x ∷ filter test xs)
          (Contains-map with_x (sublists xs) (filter test xs) (filter-sublist test xs))
      | false ↦ Contains-append_right (map with_x (sublists xs)) (sublists xs) (filter test xs)
          (filter-sublist test xs)
    ]

-- a list of the same items, each once
pub record IsOnce {X : Type 0} (old new : List X) : Type 0 where
  pub apart : AllPairs (λ a b. a ≢ b) new
  pub same : (x : X) → Contains new x ↔ Contains old x

module _ {X : Type 0} (x : X) (xs new : List X) (once : IsOnce xs new) where
  once_there : Contains new x → IsOnce (x ∷ xs) new
  once_there there = record {
    apart = once.apart;
    same = λ z. (
      λ at. Contains-tail x xs z ((once.same z).0 at),
      λ at. elim (Contains-cases x xs z at) [
        | inl same ↦ Contains-same new x z same there
        | inr later ↦ (once.same z).1 later
      ],
    );
  }

  once_more : (Contains new x → ⊥) → IsOnce (x ∷ xs) (x ∷ new)
  once_more fresh = record {
    apart = AllPairs-cons (λ (a b : X). a ≢ b) x new
        (All-from_members (λ (z : X). x ≢ z) new (λ z there same. fresh (Contains-same new z x (sym same) there)))
        once.apart;
    same = λ z. (
      λ at. elim (Contains-cases x new z at) [
        | inl same ↦ Contains-same (x ∷ xs) x z same (Contains-head x xs)
        | inr later ↦ Contains-tail x xs z ((once.same z).0 later)
      ],
      λ at. elim (Contains-cases x xs z at) [
        | inl same ↦ Contains-same (x ∷ new) x z same (Contains-head x new)
        | inr later ↦ Contains-tail x new z ((once.same z).1 later)
      ],
    );
  }

pub some_once : {X : Type 0} → ((a b : X) → IsTold (a ≡ b)) → (xs : List X) → (new : List X) × IsOnce xs new
some_once {X} told [] =
    ([], record { apart = AllPairs-nil (λ (a b : X). a ≢ b); same = λ z. (λ at. at, λ at. at) })
some_once told (x ∷ xs) =
    let rest = some_once told xs in
    elim (told_member told rest.0 x) [
      | inl there ↦ (rest.0, once_there x xs rest.0 rest.1 there)
      | inr fresh ↦ (x ∷ rest.0, once_more x xs rest.0 rest.1 fresh)
    ]
