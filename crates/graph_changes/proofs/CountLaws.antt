-- How many objects there are once some are dead and others given.
use Rattle.std.proofs.Common.{◌≡◌, ℕ, ◌+◌, ◌<◌, ◌≤◌, Bool, ◌||◌, true, false, not, cond, nat_eq, List, [], ◌∷◌, ◌++◌, length, get_or, take, drop, map, Contains, refl, sym, ap, ◌∙◌, inl, inr, subst, arith}
use Rattle.std.proofs.lemmas.Bool.{cases_eq}
use Rattle.std.proofs.lemmas.Bool.Decides.{nat_tests}
use Rattle.std.proofs.lemmas.List.{take_more, length-take, take-append-drop, get_or_append_left, get_or_default, length-map}
use Rattle.std.proofs.lemmas.List.Filters.{length-filter_both}
use Rattle.lore_base.specs.Databases as base
use Rattle.lore_base.proofs.MemberLaws.{Contains-none, Contains-head, Contains-tail, Contains-cases, Contains-same}
use Rattle.graph_changes.specs.Types.{ObjectRecord}
use Rattle.edge_lists.specs.Objects.{object_of, AreAscendingObjects, IsLive}
use Rattle.graph_changes.specs.Types.{Oid, Value}
use Rattle.graph_changes.specs.Puts.{with_objects}
use Rattle.graph_changes.specs.Left.{AreAscendingOids, is_among, not_dead}
use Rattle.graph_changes.proofs.PairLaws.{pairs-ascend, live-record, live-pair}
use Rattle.graph_changes.proofs.GivenLaws.{objects-head, objects-tail, with-more, length-old, length-new, members-with_objects, ascend-with_objects}
use Rattle.graph_changes.proofs.LeftLaws.{not_among, members-not_dead, ascend-not_dead}

among-more : (oids : List Oid) (last oid : Oid) → is_among (oids ++ last ∷ []) oid ≡ (is_among oids oid || nat_eq oid.0 last.0)
among-more [] last oid = elim (nat_eq oid.0 last.0) as (λ b. (b || false) ≡ b) [ true ↦ refl | false ↦ refl ]
among-more (first ∷ oids) last oid =
    let rest = among-more oids last oid in
    elim (nat_eq oid.0 first.0) as (λ b. (b || is_among (oids ++ last ∷ []) oid) ≡ ((b || is_among oids oid) || nat_eq oid.0 last.0)) [ true ↦ refl | false ↦ rest ]

or-false : (b : Bool) → (b || false) ≡ b
or-false true = refl
or-false false = refl

or-true : (b : Bool) → (b || true) ≡ true
or-true true = refl
or-true false = refl

-- an object that isn't there doesn't go
none-goes : (dead : List Oid) (last : Oid) (objects : List (Oid × Value)) → (¬ base.IsLive objects last) → not_dead (dead ++ last ∷ []) objects ≡ not_dead dead objects
none-goes dead last [] none = refl
none-goes dead last (first ∷ objects) none = elim (cases_eq first.0.0 last.0) [
  | inl same ↦ absurd (none (first.1, Contains-same (first ∷ objects) first (last, first.1) (ap (λ (o : Oid). (o, first.1)) (ap (λ n. record { 0 = n }) same)) (Contains-head first objects)))
  | inr other ↦
      let test : nat_eq first.0.0 last.0 ≡ false = grind (arith, nat_tests) in
      let is : is_among (dead ++ last ∷ []) first.0 ≡ is_among dead first.0 = among-more dead last first.0 ∙ ap (λ (b : Bool). is_among dead first.0 || b) test ∙ or-false (is_among dead first.0) in
      let rest = none-goes dead last objects (λ live. none (live.0, Contains-tail first objects (last, live.0) live.1)) in
      ap (λ (b : Bool). cond (not b) (first ∷ not_dead (dead ++ last ∷ []) objects) (not_dead (dead ++ last ∷ []) objects)) is
      ∙ ap (λ (l : List (Oid × Value)). cond (not (is_among dead first.0)) (first ∷ l) l) rest
]

-- one that is there goes
one-goes : (dead : List Oid) (last : Oid) (objects : List (Oid × Value)) → base.AreAscendingObjects objects → base.IsLive objects last → (¬ Contains dead last)
    → length (not_dead (dead ++ last ∷ []) objects) + 1 ≡ length (not_dead dead objects)
one-goes dead last [] ascend live new = absurd (Contains-none _ live.1)
one-goes dead last (first ∷ objects) ascend live new = elim (cases_eq first.0.0 last.0) [
  | inl same ↦
      let test : nat_eq first.0.0 last.0 ≡ true = grind (arith, nat_tests) in
      let same_oid : first.0 ≡ last = ap (λ n. record { 0 = n }) same in
      let goes : is_among (dead ++ last ∷ []) first.0 ≡ true = among-more dead last first.0 ∙ ap (λ (b : Bool). is_among dead first.0 || b) test ∙ or-true (is_among dead first.0) in
      let stays : is_among dead first.0 ≡ false = not_among dead first.0 (λ at. new (subst (λ (o : Oid). Contains dead o) same_oid at)) in
      let rest = none-goes dead last objects (λ later. omega (arith, same, objects-head first objects ascend (last, later.0) later.1)) in
      let now = ap (λ (b : Bool). length (cond (not b) (first ∷ not_dead (dead ++ last ∷ []) objects) (not_dead (dead ++ last ∷ []) objects))) goes in
      let before = ap (λ (b : Bool). length (cond (not b) (first ∷ not_dead dead objects) (not_dead dead objects))) stays in
      omega (arith, now, before, ap length rest)
  | inr other ↦
      let test : nat_eq first.0.0 last.0 ≡ false = grind (arith, nat_tests) in
      let is : is_among (dead ++ last ∷ []) first.0 ≡ is_among dead first.0 = among-more dead last first.0 ∙ ap (λ (b : Bool). is_among dead first.0 || b) test ∙ or-false (is_among dead first.0) in
      let later : base.IsLive objects last = elim (Contains-cases first objects (last, live.0) live.1) [
        | inl here ↦ absurd (other (ap (λ (o : Oid × Value). o.0.0) here))
        | inr behind ↦ (live.0, behind)
      ] in
      let rest = one-goes dead last objects (objects-tail first objects ascend) later new in
      let now = ap (λ (b : Bool). length (cond (not b) (first ∷ not_dead (dead ++ last ∷ []) objects) (not_dead (dead ++ last ∷ []) objects))) is in
      elim (is_among dead first.0) as (λ b. length (not_dead (dead ++ last ∷ []) (first ∷ objects)) ≡ length (cond (not b) (first ∷ not_dead (dead ++ last ∷ []) objects) (not_dead (dead ++ last ∷ []) objects))
      → length (not_dead (dead ++ last ∷ []) (first ∷ objects)) + 1 ≡ length (cond (not b) (first ∷ not_dead dead objects) (not_dead dead objects))) [
        | true ↦ λ at. omega (arith, at, rest)
        | false ↦ λ at. omega (arith, at, rest)
      ] now
]

pub none-dead : (objects : List (Oid × Value)) → not_dead [] objects ≡ objects
none-dead [] = refl
none-dead (first ∷ objects) = ap (λ (l : List (Oid × Value)). first ∷ l) (none-dead objects)

not-before : (dead : List Oid) → AreAscendingOids dead → (i : ℕ) (d : Oid) → i < length dead → Contains (take i dead) (get_or dead i d) → ⊥
not-before dead ascend i d lt at =
    let e = get_or dead i d in
    let k = at.0 in
    let lt_k : k < i = omega (arith, at.1, length-take i dead) in
    let read : get_or dead k e ≡ e =
    ap (λ (xs : List Oid). get_or xs k e) (sym (take-append-drop i dead)) ∙ get_or_append_left (take i dead) (drop i dead) e k at.1 ∙ at.2 in
    let here : get_or dead i e ≡ e = get_or_default dead i e d lt in
    omega (arith, ascend k i e lt_k lt, ap (λ (o : Oid). o.0) read, ap (λ (o : Oid). o.0) here)

-- so many are left
pub left-step : (dead : List Oid) → AreAscendingOids dead → (objects : List ObjectRecord) → AreAscendingObjects objects → (i : ℕ) (d : Oid) → i < length dead → (one : ℕ) → one ≤ 1
    → (one ≡ 1 → IsLive objects (get_or dead i d)) → (one ≡ 0 → ¬ IsLive objects (get_or dead i d))
    → length (not_dead (take (i + 1) dead) (map object_of objects)) + one ≡ length (not_dead (take i dead) (map object_of objects))
left-step dead ascend objects ordered i d lt one most live none =
    let last = get_or dead i d in
    let is = take_more dead i d lt in
    elim (cases_eq one 0) [
      | inl zero_is ↦
          let same = none-goes (take i dead) last (map object_of objects) (λ at. none zero_is (live-record objects last at)) in
          omega (arith, zero_is, ap (λ (l : List Oid). length (not_dead l (map object_of objects))) is, ap length same)
      | inr other ↦
          let one_is : one ≡ 1 = omega (arith, most, other) in
          let goes = one-goes (take i dead) last (map object_of objects) (pairs-ascend objects ordered) (live-pair objects last (live one_is)) (not-before dead ascend i d lt) in
          omega (arith, one_is, ap (λ (l : List Oid). length (not_dead l (map object_of objects))) is, goes)
    ]

-- and so many with those that are given
pub given-step : (dead : List Oid) (given : List (Oid × Value)) → base.AreAscendingObjects given → (objects : List ObjectRecord) → AreAscendingObjects objects → (i : ℕ) (d : Oid × Value) → i < length given
    → (one : ℕ) → one ≤ 1 → (one ≡ 1 → ¬ (IsLive objects (get_or given i d).0 × (¬ Contains dead (get_or given i d).0)))
    → (one ≡ 0 → IsLive objects (get_or given i d).0 × (¬ Contains dead (get_or given i d).0))
    → length (with_objects (not_dead dead (map object_of objects)) (take (i + 1) given)) ≡ length (with_objects (not_dead dead (map object_of objects)) (take i given)) + one
given-step dead given ascend objects ordered i d lt one most new old =
    let last = get_or given i d in
    let left = not_dead dead (map object_of objects) in
    let so_far = with_objects left (take i given) in
    let left_ascend = ascend-not_dead dead (map object_of objects) (pairs-ascend objects ordered) in
    let is = ap (λ (l : List (Oid × Value)). length (with_objects left l)) (take_more given i d lt) ∙ ap length (with-more left (take i given) last) in
    let front = take-ascends given ascend i in
    elim (cases_eq one 0) [
      | inl zero_is ↦
          let both = old zero_is in
          let pair = live-pair objects last.0 both.0 in
          let there : base.IsLive so_far last.0 = (pair.0, (members-with_objects left (take i given) left_ascend front (last.0, pair.0)).1 (inr ((members-not_dead dead (map object_of objects) (last.0, pair.0)).1 (pair.1, both.1), not-given given ascend i d lt))) in
          omega (arith, zero_is, is, length-old so_far last (ascend-with_objects left (take i given) left_ascend) there)
      | inr other ↦
          let one_is : one ≡ 1 = omega (arith, most, other) in
          let absent : ¬ base.IsLive so_far last.0 = λ live. elim ((members-with_objects left (take i given) left_ascend front (last.0, live.0)).0 live.1) [
            | inl earlier ↦ not-given given ascend i d lt (live.0, earlier)
            | inr stays ↦
                let both = (members-not_dead dead (map object_of objects) (last.0, live.0)).0 stays.0 in
                new one_is (live-record objects last.0 (live.0, both.0), both.1)
          ] in
          omega (arith, one_is, is, length-new so_far last absent)
    ]
  where
    take-ascends : (xs : List (Oid × Value)) → base.AreAscendingObjects xs → (n : ℕ) → base.AreAscendingObjects (take n xs)
    take-ascends xs up n k j e lt_kj len =
        let lens = length-take n xs in
        let read_j : get_or xs j e ≡ get_or (take n xs) j e = ap (λ (l : List (Oid × Value)). get_or l j e) (sym (take-append-drop n xs)) ∙ get_or_append_left (take n xs) (drop n xs) e j len in
        let read_k : get_or xs k e ≡ get_or (take n xs) k e = ap (λ (l : List (Oid × Value)). get_or l k e) (sym (take-append-drop n xs)) ∙ get_or_append_left (take n xs) (drop n xs) e k (omega (arith, lt_kj, len)) in
        omega (arith, up k j e lt_kj (omega (arith, len, lens)), ap (λ (o : Oid × Value). o.0.0) read_j, ap (λ (o : Oid × Value). o.0.0) read_k)

    not-given : (xs : List (Oid × Value)) → base.AreAscendingObjects xs → (n : ℕ) (e : Oid × Value) → n < length xs → base.IsLive (take n xs) (get_or xs n e).0 → ⊥
    not-given xs up n e lt_n live =
        let k = live.1.0 in
        let o : Oid × Value = ((get_or xs n e).0, live.0) in
        let lt_k : k < n = omega (arith, live.1.1, length-take n xs) in
        let read : get_or xs k o ≡ o = ap (λ (l : List (Oid × Value)). get_or l k o) (sym (take-append-drop n xs)) ∙ get_or_append_left (take n xs) (drop n xs) o k live.1.1 ∙ live.1.2 in
        omega (arith, up k n o lt_k lt_n, ap (λ (x : Oid × Value). x.0.0) read, ap (λ (x : Oid × Value). x.0.0) (get_or_default xs n o e lt_n))

-- no more are left than there were
pub few-left : (dead : List Oid) (objects : List ObjectRecord) → length (not_dead dead (map object_of objects)) ≤ length objects
few-left dead objects =
    omega (arith, length-filter_both (λ (o : Oid × Value). not (is_among dead o.0)) (λ (o : Oid × Value). not (not (is_among dead o.0))) (λ o. refl) (map object_of objects), length-map objects object_of)
