-- Lists of items that are all apart: their sums and lengths, and those of a list that has them among its own items.
use Rattle.std.proofs.Common.{◌≡◌, ◌≢◌, ◌↔◌, ◌∙◌, ℕ, ◌+◌, ◌-◌, ◌<◌, ◌≤◌, inl, inr, List, [], ◌∷◌, length, get_or, refl, sym, ap}
use Rattle.std.proofs.Common.{one-add, arith}
use Rattle.std.specs.List.{All, AllPairs, Contains, sum_by, remove}
use Rattle.std.proofs.lemmas.Bool.{cases_lt}
use Rattle.std.proofs.lemmas.List.{get_or_default}
use Rattle.std.proofs.lemmas.List.Edits.{length-remove, get_or-remove_below, get_or-remove_above}
use Rattle.std.proofs.lemmas.List.Elements.{All-head, All-tail, Contains-get_or}
use Rattle.std.proofs.lemmas.List.Sums.{sum_by-cons, sum_by-remove}
use Rattle.lore_lists.proofs.ListLaws.{AllPairs-head, AllPairs-tail}
use Rattle.list_laws.proofs.MemberLaws.{All-from_members}

-- a list without one of its items still has the others
Contains-remove : {X : Type 0} (xs : List X) (i : ℕ) (y : X) → i < length xs → get_or xs i y ≢ y → Contains xs y
    → Contains (remove xs i) y
Contains-remove {X} xs i y within other at =
    let apart : at.0 ≢ i = λ same. other (ap (λ k. get_or xs k y) (sym same) ∙ at.2) in
    let short : length (remove xs i) + 1 ≡ length xs = length-remove xs i within in
    elim (cases_lt at.0 i) [
      | inl before ↦ (at.0, omega (arith, before, within, short), get_or-remove_below xs i y at.0 before within ∙ at.2)
      | inr behind ↦ (
        at.0 - 1,
        omega (arith, behind, apart, at.1, short),
        get_or-remove_above xs i y (at.0 - 1) (omega (arith, behind, apart)) within
            ∙ ap (λ k. get_or xs k y) (omega (arith, behind, apart)) ∙ at.2,
      )
    ]

pub sum_by-within : {X : Type 0} (f : X → ℕ) (xs ys : List X) → AllPairs (λ a b. a ≢ b) xs → All (Contains ys) xs
    → sum_by f xs ≤ sum_by f ys
sum_by-within f [] ys apart among = omega arith
sum_by-within {X} f (x ∷ xs) ys apart among =
    let at = All-head (Contains ys) x xs among in
    let left = remove ys at.0 in
    let among_left : All (Contains left) xs = λ k d within.
    Contains-remove ys at.0 (get_or xs k d) at.1
    (λ same. AllPairs-head (λ (a b : X). a ≢ b) x xs apart (get_or xs k d) (Contains-get_or xs k d within)
    (sym at.2 ∙ get_or_default ys at.0 x (get_or xs k d) at.1 ∙ same))
    (All-tail (Contains ys) x xs among k d within) in
    let others = AllPairs-tail (λ (a b : X). a ≢ b) x xs apart in
    let rest : sum_by f xs ≤ sum_by f left = sum_by-within f xs left others among_left in
    let whole : sum_by f left + f x ≡ sum_by f ys =
    ap (λ y. sum_by f left + f y) (sym at.2) ∙ sum_by-remove f ys at.0 x at.1 in
    omega (arith, sum_by-cons f x xs, rest, whole)

sum_by-ones : {X : Type 0} (xs : List X) → sum_by (λ _. 1) xs ≡ length xs
sum_by-ones [] = refl
sum_by-ones (x ∷ xs) = sum_by-cons (λ _. 1) x xs ∙ ap (λ n. 1 + n) (sum_by-ones xs) ∙ one-add (length xs)

pub length-within : {X : Type 0} (xs ys : List X) → AllPairs (λ a b. a ≢ b) xs → All (Contains ys) xs
    → length xs ≤ length ys
length-within xs ys apart among =
    omega (arith, sum_by-within (λ _. 1) xs ys apart among, sum_by-ones xs, sum_by-ones ys)

pub distinct_no_longer : {X : Type 0} (xs ys : List X) → AllPairs (λ a b. a ≢ b) xs
    → ((z : X) → Contains xs z → Contains ys z) → length xs ≤ length ys
distinct_no_longer xs ys apart within = length-within xs ys apart (All-from_members (Contains ys) xs within)

-- lists of the same items, each once, are equally long
pub distinct_as_long : {X : Type 0} (xs ys : List X) → AllPairs (λ a b. a ≢ b) xs → AllPairs (λ a b. a ≢ b) ys
    → ((z : X) → Contains xs z ↔ Contains ys z) → length xs ≡ length ys
distinct_as_long xs ys apart_xs apart_ys same =
    omega (
      arith,
      distinct_no_longer xs ys apart_xs (λ z. (same z).0),
      distinct_no_longer ys xs apart_ys (λ z. (same z).1),
    )
