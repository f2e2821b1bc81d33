-- Counts of keys, kept through a write.
use Rattle.std.proofs.Common.{◌≡◌, ◌↔◌, ℕ, ◌+◌, ◌-◌, ◌<◌, ◌≤◌, ◌&&◌, Bool, true, false, cond, nat_eq, if◌then◌else◌, Option, None, Some, List, [], ◌∷◌, ◌++◌, length, get_or, set, Contains, refl, sym, ap, ◌∙◌, subst, arith}
use Rattle.std.specs.List.{filter, count_by, sum_by}
use Rattle.std.specs.Cmp.{nat_eq_equiv}
use Rattle.std.specs.Prelude.{IsTrue, nat_lt}
use Rattle.std.proofs.lemmas.Bool.Decides.{nat_tests}
use Rattle.std.proofs.lemmas.List.Elements.{Contains-get_or}
use Rattle.std.proofs.lemmas.List.Sums.{length-filter, sum_by-set}
use Rattle.block_haste.specs.inside.Tallies.{Key, key_eq, count_from, AreCounts}
use Rattle.lore_lists.proofs.MemberLaws.{Contains-filter, unfiltered}
use Rattle.block_rounds.proofs.SignatureLaws.{same_number, left, right}

pub same_key : (a b : Key) → key_eq a b ≡ true → a ≡ b
same_key a b same =
    let front : (nat_eq a.0 b.0 && nat_eq a.1 b.1) ≡ true = left (nat_eq a.0 b.0 && nat_eq a.1 b.1) (nat_eq a.2 b.2) same in
    λ i. (
      same_number a.0 b.0 (left (nat_eq a.0 b.0) (nat_eq a.1 b.1) front) i,
      same_number a.1 b.1 (right (nat_eq a.0 b.0) (nat_eq a.1 b.1) front) i,
      same_number a.2 b.2 (right (nat_eq a.0 b.0 && nat_eq a.1 b.1) (nat_eq a.2 b.2) same) i,
    )

key_sym : (a b : Key) → key_eq a b ≡ key_eq b a
key_sym a b =
    ap (λ x. (x && nat_eq a.1 b.1) && nat_eq a.2 b.2) (nat_eq_equiv.symm a.0 b.0)
    ∙ ap (λ y. (nat_eq b.0 a.0 && y) && nat_eq a.2 b.2) (nat_eq_equiv.symm a.1 b.1)
    ∙ ap (λ z. (nat_eq b.0 a.0 && nat_eq b.1 a.1) && z) (nat_eq_equiv.symm a.2 b.2)

key_self : (a : Key) → key_eq a a ≡ true
key_self a =
    ap (λ x. (x && nat_eq a.1 a.1) && nat_eq a.2 a.2) (nat_eq_equiv.refl a.0)
    ∙ ap (λ y. y && nat_eq a.2 a.2) (nat_eq_equiv.refl a.1) ∙ nat_eq_equiv.refl a.2

-- a key is counted exactly where it stands
pub is_counted : (keys : List Key) (key : Key) → (0 < count_by (key_eq key) keys) ↔ Contains keys key
is_counted keys key = (
  λ some.
      let within : 0 < length (filter (key_eq key) keys) = omega (arith, length-filter (key_eq key) keys, some) in
      let first = unfiltered (key_eq key) keys (get_or (filter (key_eq key) keys) 0 key) (Contains-get_or (filter (key_eq key) keys) 0 key within) in
      subst (λ (k : Key). Contains keys k) (sym (same_key key (get_or (filter (key_eq key) keys) 0 key) first.1)) first.0,
  λ at.
      let kept = Contains-filter (key_eq key) keys key at (key_self key) in
      omega (arith, length-filter (key_eq key) keys, kept.1),
)

-- one more
pub counted_more : (old new : Key → Option ℕ) (key : Key) (count : ℕ) → count ≡ count_from (old key)
    → ((at : Key) → new at ≡ cond (key_eq key at) (Some (count + 1)) (old at))
    → (at : Key) → count_from (new at) ≡ (if key_eq key at then count_from (old at) + 1 else count_from (old at))
counted_more old new key count is updated at =
    elim (key_eq key at) as (λ b. key_eq key at ≡ b → count_from (new at) ≡ (if b then count_from (old at) + 1 else count_from (old at))) [
      | true ↦ λ here.
          ap count_from (updated at ∙ ap (λ b. cond b (Some (count + 1)) (old at)) here)
          ∙ ap (λ n. n + 1) (is ∙ ap (λ k. count_from (old k)) (same_key key at here))
      | false ↦ λ other. ap count_from (updated at ∙ ap (λ b. cond b (Some (count + 1)) (old at)) other)
    ] refl

-- one less, where what is there now stands for one less
pub counted_less : (old new : Key → Option ℕ) (key : Key) (value : Option ℕ) → count_from value ≡ count_from (old key) - 1
    → ((at : Key) → new at ≡ cond (key_eq key at) value (old at))
    → (at : Key) → count_from (new at) ≡ (if key_eq key at then count_from (old at) - 1 else count_from (old at))
counted_less old new key value is updated at =
    elim (key_eq key at) as (λ b. key_eq key at ≡ b → count_from (new at) ≡ (if b then count_from (old at) - 1 else count_from (old at))) [
      | true ↦ λ here.
          ap count_from (updated at ∙ ap (λ b. cond b value (old at)) here)
          ∙ is ∙ ap (λ k. count_from (old k) - 1) (same_key key at here)
      | false ↦ λ other. ap count_from (updated at ∙ ap (λ b. cond b value (old at)) other)
    ] refl

-- a write takes one key away and brings another
pub AreCounts-set : (keys : List Key) (before middle after : Key → Option ℕ) (place : ℕ) (key old : Key) → place < length keys → old ≡ get_or keys place old
    → AreCounts keys before
    → ((at : Key) → count_from (middle at) ≡ (if key_eq old at then count_from (before at) - 1 else count_from (before at)))
    → ((at : Key) → count_from (after at) ≡ (if key_eq key at then count_from (middle at) + 1 else count_from (middle at)))
    → AreCounts (set keys place key) after
AreCounts-set keys before middle after place key old within read counts less more at =
    let moved : count_by (key_eq at) (set keys place key) + cond (key_eq at old) 1 0 ≡ count_by (key_eq at) keys + cond (key_eq at key) 1 0 =
    ap (λ k. count_by (key_eq at) (set keys place key) + cond (key_eq at k) 1 0) read ∙ sum_by-set (λ k. cond (key_eq at k) 1 0) keys place key old within in
    let goes : count_from (middle at) + cond (key_eq at old) 1 0 ≡ count_by (key_eq at) keys =
    elim (key_eq at old) as (λ b. key_eq at old ≡ b → count_from (middle at) + cond b 1 0 ≡ count_by (key_eq at) keys) [
      | true ↦ λ here.
          let some : 0 < count_by (key_eq at) keys =
          (is_counted keys at).1 (subst (λ (k : Key). Contains keys k) (sym read ∙ sym (same_key at old here)) (Contains-get_or keys place old within)) in
          let one : count_from (middle at) ≡ count_from (before at) - 1 =
          less at ∙ ap (λ b. if b then count_from (before at) - 1 else count_from (before at)) (key_sym old at ∙ here) in
          omega (arith, some, one, counts at)
      | false ↦ λ other.
          let one : count_from (middle at) ≡ count_from (before at) =
          less at ∙ ap (λ b. if b then count_from (before at) - 1 else count_from (before at)) (key_sym old at ∙ other) in
          omega (arith, one, counts at)
    ] refl in
    elim (key_eq at key) as (λ b. key_eq at key ≡ b → count_by (key_eq at) (set keys place key) + cond (key_eq at old) 1 0 ≡ count_by (key_eq at) keys + cond b 1 0
    → count_from (after at) ≡ count_by (key_eq at) (set keys place key)) [
      | true ↦ λ here move.
          let one : count_from (after at) ≡ count_from (middle at) + 1 =
          more at ∙ ap (λ b. if b then count_from (middle at) + 1 else count_from (middle at)) (key_sym key at ∙ here) in
          omega (arith, one, goes, move)
      | false ↦ λ other move.
          let one : count_from (after at) ≡ count_from (middle at) =
          more at ∙ ap (λ b. if b then count_from (middle at) + 1 else count_from (middle at)) (key_sym key at ∙ other) in
          omega (arith, one, goes, move)
    ] refl moved

pub has_key : (keys : List Key) (key : Key) (count : ℕ) → count ≡ count_by (key_eq key) keys → IsTrue (nat_lt 0 count) ↔ Contains keys key
has_key keys key count is = (
  λ some. (is_counted keys key).0 (let positive : 0 < count = grind (arith, nat_tests) in omega (arith, positive, is)),
  λ at. (let some : 0 < count_by (key_eq key) keys = (is_counted keys key).1 at in let positive : 0 < count = omega (arith, some, is) in grind (arith, nat_tests)),
)
