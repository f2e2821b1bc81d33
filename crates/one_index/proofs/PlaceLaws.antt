-- Places of objects in an ascending list.
use Rattle.std.proofs.Common.{◌≡◌, ◌≢◌, ℕ, suc, ◌<◌, inl, inr, nat_eq, true, false, cond, Some, List, [], ◌∷◌, get_or, refl, sym, ap, ◌∙◌, arith}
use Rattle.std.specs.List.{AllPairs, Contains, slice_get}
use Rattle.std.proofs.lemmas.Bool.{true≢false}
use Rattle.std.proofs.lemmas.Bool.Decides.{nat_tests}
use Rattle.lore_base.proofs.MemberLaws.{Contains-none, Contains-cases}
use Rattle.list_laws.proofs.PlaceLaws.{one_place, Contains-from_place}
use Rattle.oem_set.proofs.MemberSearch.{same_oid}
use Rattle.one_index.specs.Types.{Oid}

objects_apart : (objects : List Oid) → AllPairs (λ a b. a.0 < b.0) objects → AllPairs (λ a b. a ≢ b) objects
objects_apart objects ascend i j d less within same =
    let before : (get_or objects i d).0 < (get_or objects j d).0 = ascend i j d less within in
    let number : (get_or objects i d).0 ≡ (get_or objects j d).0 = ap (λ (o : Oid). o.0) same in
    omega (arith, before, number)

-- an object has one place
pub place_once : (objects : List Oid) → AllPairs (λ a b. a.0 < b.0) objects → (i j : ℕ) (x : Oid)
    → slice_get objects i ≡ Some x → slice_get objects j ≡ Some x → i ≡ j
place_once objects ascend i j x first second = one_place objects (objects_apart objects ascend) i j x first second

-- the place of an object, the length where it has none
abbrev pub position : List Oid → Oid → ℕ
position [] oid = 0
position (x ∷ xs) oid = cond (nat_eq x.0 oid.0) 0 (suc (position xs oid))

pub position_at : (objects : List Oid) (oid : Oid) → Contains objects oid
    → slice_get objects (position objects oid) ≡ Some oid
position_at [] oid at = absurd (Contains-none oid at)
position_at (x ∷ xs) oid at =
    elim (nat_eq x.0 oid.0) as (λ b. nat_eq x.0 oid.0 ≡ b → slice_get (x ∷ xs) (cond b 0 (suc (position xs oid))) ≡ Some oid) [
      | true ↦ λ same. ap (λ (o : Oid). Some o) (same_oid x oid same)
      | false ↦ λ other. elim (Contains-cases x xs oid at) [
        | inl is ↦
            let number : x.0 ≡ oid.0 = ap (λ (o : Oid). o.0) is in
            let test : nat_eq x.0 oid.0 ≡ true = grind (arith, nat_tests) in
            absurd (true≢false (sym test ∙ other))
        | inr later ↦ position_at xs oid later
      ]
    ] refl

pub position_is : (objects : List Oid) → AllPairs (λ a b. a.0 < b.0) objects → (i : ℕ) (x : Oid)
    → slice_get objects i ≡ Some x → position objects x ≡ i
position_is objects ascend i x at =
    place_once objects ascend (position objects x) i x (position_at objects x (Contains-from_place objects i x at)) at
