-- Items put into lists by their numbers, one after another.
use Rattle.std.proofs.Common.{◌≡◌, ◌≢◌, ◌↔◌, ℕ, ◌<◌, inl, inr, Bool, true, false, nat_eq, cond, List, [], ◌∷◌, ◌++◌, length, map, get_or, set, replicate}
use Rattle.std.proofs.Common.{refl, sym, ap, ◌∙◌, subst, arith, get_or-set_same, get_or-set_other}
use Rattle.std.specs.List.{Contains, filter}
use Rattle.std.specs.Prelude.{slice_index_or, slice_set}
use Rattle.std.proofs.lemmas.Bool.{cases_lt}
use Rattle.std.proofs.lemmas.Bool.Decides.{nat_tests}
use Rattle.std.proofs.lemmas.List.{get_or-replicate, get_or_past, length-replicate, map-append, append-nil}
use Rattle.std.proofs.lemmas.List.Elements.{filter-append}
use Rattle.lore_lists.proofs.MemberLaws.{Contains-filter, unfiltered}
use Rattle.list_laws.proofs.MemberLaws.{Contains-map, Contains-from_map}
use Rattle.block_rounds.specs.Gathered.{items_of, AreGathered}
use Rattle.block_rounds.proofs.MapLaws.{same_or_not}
use Rattle.block_rounds.proofs.SignatureLaws.{same_number}

number_is : (a b : ℕ) → a ≡ b → nat_eq a b ≡ true
number_is a b same = grind (arith, nat_tests)

number_differs : (a b : ℕ) → a ≢ b → nat_eq a b ≡ false
number_differs a b apart = elim (nat_eq a b) as (λ t. nat_eq a b ≡ t → t ≡ false) [
  | true ↦ λ is. absurd (apart (same_number a b is))
  | false ↦ λ is. refl
] refl

module _ {X : Type 0} where
  -- ---- an item more
  items-push : (number : ℕ) (pairs : List (ℕ × X)) (pair : ℕ × X)
      → items_of number (pairs ++ pair ∷ []) ≡ items_of number pairs ++ items_of number (pair ∷ [])
  items-push number pairs pair =
      ap (map (λ (p : ℕ × X). p.1)) (filter-append (λ (p : ℕ × X). nat_eq p.0 number) pairs (pair ∷ []))
      ∙ map-append (λ (p : ℕ × X). p.1) (filter (λ (p : ℕ × X). nat_eq p.0 number) pairs)
      (filter (λ (p : ℕ × X). nat_eq p.0 number) (pair ∷ []))

  item-here : (number : ℕ) (pair : ℕ × X) → pair.0 ≡ number → items_of number (pair ∷ []) ≡ pair.1 ∷ []
  item-here number pair here =
      ap (λ (t : Bool). map (λ (p : ℕ × X). p.1) (cond t (pair ∷ []) [])) (number_is pair.0 number here)

  item-apart : (number : ℕ) (pair : ℕ × X) → pair.0 ≢ number → items_of number (pair ∷ []) ≡ []
  item-apart number pair apart =
      ap (λ (t : Bool). map (λ (p : ℕ × X). p.1) (cond t (pair ∷ []) [])) (number_differs pair.0 number apart)

  pub AreGathered-none : (lists : List (List X)) (count : ℕ) → lists ≡ replicate count [] → AreGathered [] lists
  AreGathered-none lists count are number =
      ap (λ (l : List (List X)). get_or l number []) are ∙ (elim (cases_lt number count) [
        | inl within ↦ get_or-replicate count number [] [] within
        | inr beyond ↦ get_or_past (replicate count []) number [] (omega (arith, beyond, length-replicate {A = List X} count []))
      ])

  pub AreGathered-more : (pairs : List (ℕ × X)) (pair : ℕ × X) (lists next : List (List X)) → pair.0 < length lists
      → next ≡ slice_set lists pair.0 (slice_index_or lists pair.0 [] ++ pair.1 ∷ []) → AreGathered pairs lists
      → AreGathered (pairs ++ pair ∷ []) next
  AreGathered-more pairs pair lists next within put before number =
      let list : List X = get_or lists pair.0 [] in
      elim (same_or_not pair.0 number) [
        | inl here ↦
            let read : get_or next number [] ≡ list ++ pair.1 ∷ [] =
            ap (λ (l : List (List X)). get_or l number []) put ∙ ap (λ (k : ℕ). get_or (set lists pair.0 (list ++ pair.1 ∷ [])) k []) (sym here)
            ∙ get_or-set_same lists pair.0 (list ++ pair.1 ∷ []) [] within in
            let own : list ≡ items_of number pairs = ap (λ (k : ℕ). get_or lists k []) here ∙ before number in
            read ∙ ap (λ (l : List X). l ++ pair.1 ∷ []) own
            ∙ ap (λ (l : List X). items_of number pairs ++ l) (sym (item-here number pair here))
            ∙ sym (items-push number pairs pair)
        | inr apart ↦
            let read : get_or next number [] ≡ get_or lists number [] =
            ap (λ (l : List (List X)). get_or l number []) put
            ∙ get_or-set_other lists pair.0 number (list ++ pair.1 ∷ []) [] (λ same. apart (sym same)) in
            read ∙ before number ∙ sym (append-nil (items_of number pairs))
            ∙ ap (λ (l : List X). items_of number pairs ++ l) (sym (item-apart number pair apart))
            ∙ sym (items-push number pairs pair)
      ]

  -- ---- what is in the lists
  pub gathered_members : (pairs : List (ℕ × X)) (lists : List (List X)) → AreGathered pairs lists → (number : ℕ) (item : X)
      → Contains (slice_index_or lists number []) item ↔ Contains pairs (number, item)
  gathered_members pairs lists gathered number item = (
    λ at.
        let made = Contains-from_map (λ (p : ℕ × X). p.1) (filter (λ (p : ℕ × X). nat_eq p.0 number) pairs) item
        (subst (λ (l : List X). Contains l item) (gathered number) at) in
        let there = unfiltered (λ (p : ℕ × X). nat_eq p.0 number) pairs made.0 made.1 in
        let is : made.0 ≡ (number, item) = λ i. (same_number (made.0).0 number there.1 i, made.2 i) in
        subst (λ (p : ℕ × X). Contains pairs p) is there.0,
    λ at. subst (λ (l : List X). Contains l item) (sym (gathered number))
        (Contains-map (λ (p : ℕ × X). p.1) (filter (λ (p : ℕ × X). nat_eq p.0 number) pairs) (number, item)
        (Contains-filter (λ (p : ℕ × X). nat_eq p.0 number) pairs (number, item) at (number_is number number refl))),
  )
