-- What is left of objects where dead ones are taken out one by one.
use Rattle.std.proofs.Common.{◌≡◌, ◌≢◌, ℕ, ◌+◌, ◌<◌, ◌||◌, Bool, true, false, not, nat_eq, cond, List, [], ◌∷◌, ◌++◌, length, get_or, take, drop, refl, sym, ap, ◌∙◌, subst, arith}
use Rattle.std.specs.List.{filter}
use Rattle.std.proofs.lemmas.Bool.Decides.{nat_tests}
use Rattle.std.proofs.lemmas.List.{take-append-drop, take_more, get_or_default}
use Rattle.std.proofs.lemmas.List.Elements.{filter-append}
use Rattle.std.proofs.lemmas.List.Folds.{list_any-append}
use Rattle.std.proofs.lemmas.List.Kept.{AllPairs-filter}
use Rattle.list_laws.proofs.PartLaws.{drop_more_read, All-take_within, All-drop_within, filter_all}
use Rattle.graph_changes.specs.Types.{Oid, ObjectRecord}
use Rattle.edge_lists.specs.Objects.{AreAscendingObjects, IsLive}
use Rattle.graph_changes.specs.Left.{is_among}
use Rattle.graph_changes.specs.Given.{AreDropped}
use Rattle.graph_changes.proofs.PairLaws.{any_object}
use Rattle.graph_changes.proofs.RecordLaws.{live-at}

-- ---- one object is taken out
-- whether an object is another one than this
abbrev other_than : Oid → ObjectRecord → Bool
other_than oid object = not (is_among (oid ∷ []) object.oid)

other_number : (a b : ℕ) → a ≢ b → not (nat_eq a b || false) ≡ true
other_number a b other =
    let test : nat_eq a b ≡ false = grind (arith, nat_tests) in
    ap (λ (t : Bool). not (t || false)) test

same_number : (a b : ℕ) → a ≡ b → not (nat_eq a b || false) ≡ false
same_number a b same =
    let test : nat_eq a b ≡ true = grind (arith, nat_tests) in
    ap (λ (t : Bool). not (t || false)) test

dropped_at : (objects : List ObjectRecord) → AreAscendingObjects objects → (oid : Oid) (place : ℕ) (d : ObjectRecord) → place < length objects
    → (get_or objects place d).oid ≡ oid → filter (other_than oid) objects ≡ take place objects ++ drop (place + 1) objects
dropped_at objects ascend oid place d lt is =
    ap (filter (other_than oid)) whole ∙ filter-append (other_than oid) front (x ∷ back)
    ∙ ap (λ (l : List ObjectRecord). l ++ filter (other_than oid) (x ∷ back)) front_stays
    ∙ ap (λ (b : Bool). front ++ cond b (x ∷ filter (other_than oid) back) (filter (other_than oid) back)) (same_number x.oid.0 oid.0 number)
    ∙ ap (λ (l : List ObjectRecord). front ++ l) back_stays
  where
    x : ObjectRecord
    x = get_or objects place d

    front : List ObjectRecord
    front = take place objects

    back : List ObjectRecord
    back = drop (place + 1) objects

    number : x.oid.0 ≡ oid.0
    number = ap (λ (o : Oid). o.0) is

    whole : objects ≡ front ++ x ∷ back
    whole = sym (take-append-drop place objects)
        ∙ ap (λ (l : List ObjectRecord). front ++ l) (drop_more_read objects place x lt (sym (get_or_default objects place x d lt)))

    here : (e : ObjectRecord) → (get_or objects place e).oid.0 ≡ oid.0
    here e = ap (λ (o : ObjectRecord). o.oid.0) (get_or_default objects place e d lt) ∙ number

    front_stays : filter (other_than oid) front ≡ front
    front_stays = filter_all (other_than oid) front (All-take_within (λ (o : ObjectRecord). other_than oid o ≡ true) objects place
        (λ k e from to. other_number _ oid.0 (λ same. omega (arith, ascend k place e to lt, here e, same))))

    back_stays : filter (other_than oid) back ≡ back
    back_stays = filter_all (other_than oid) back (All-drop_within (λ (o : ObjectRecord). other_than oid o ≡ true) objects (place + 1)
        (λ k e from to. other_number _ oid.0 (λ same. omega (arith, ascend place k e (omega (arith, from)) to, here e, same))))

-- the same of a vector that was searched
pub dropped-found : (objects searched new : List ObjectRecord) (oid : Oid) (place : ℕ) → searched ≡ objects → AreAscendingObjects objects → place < length searched
    → ((d : ObjectRecord) → (get_or searched place d).oid ≡ oid) → new ≡ take place objects ++ drop (place + 1) objects → AreDropped (oid ∷ []) objects new
dropped-found objects searched new oid place seen ascend lt found is =
    is ∙ sym (dropped_at objects ascend oid place any_object (subst (λ (l : List ObjectRecord). place < length l) seen lt)
    (subst (λ (l : List ObjectRecord). (get_or l place any_object).oid ≡ oid) seen (found any_object)))

pub dropped-absent : (objects searched : List ObjectRecord) (oid : Oid) → searched ≡ objects → (IsLive searched oid → ⊥) → AreDropped (oid ∷ []) objects objects
dropped-absent objects searched oid seen none =
    sym (filter_all (other_than oid) objects (λ k d lt. other_number (get_or objects k d).oid.0 oid.0 (λ same.
    none (subst (λ (l : List ObjectRecord). IsLive l oid) (sym seen) (live-at objects oid k d lt (ap (λ (n : ℕ). record { 0 = n }) same))))))

-- ---- one after another
filter-both : {X : Type 0} (p q r : X → Bool) → ((x : X) → r x ≡ (p x || q x)) → (xs : List X)
    → filter (λ x. not (q x)) (filter (λ x. not (p x)) xs) ≡ filter (λ x. not (r x)) xs
filter-both p q r both [] = refl
filter-both {X} p q r both (x ∷ xs) =
    let stay : (X → Bool) → List X → List X = λ t. filter (λ y. not (t y)) in
    let rest = filter-both p q r both xs in
    let step : stay q (cond (not (p x)) (x ∷ stay p xs) (stay p xs)) ≡ cond (not (p x || q x)) (x ∷ stay r xs) (stay r xs)
    = elim (p x) as (λ (b : Bool). stay q (cond (not b) (x ∷ stay p xs) (stay p xs)) ≡ cond (not (b || q x)) (x ∷ stay r xs) (stay r xs)) [
      | true ↦ rest
      | false ↦ ap (λ (l : List X). cond (not (q x)) (x ∷ l) l) rest
    ] in
    step ∙ ap (λ (b : Bool). cond (not b) (x ∷ stay r xs) (stay r xs)) (sym (both x))

pub dropped-more : (dead : List Oid) (i : ℕ) (d : Oid) → i < length dead → (old now new : List ObjectRecord)
    → AreDropped (take i dead) old now → AreDropped (get_or dead i d ∷ []) now new → AreDropped (take (i + 1) dead) old new
dropped-more dead i d lt old now new before one =
    let oid = get_or dead i d in
    one ∙ ap (filter (other_than oid)) before
    ∙ filter-both (λ (o : ObjectRecord). is_among (take i dead) o.oid) (λ (o : ObjectRecord). is_among (oid ∷ []) o.oid) (λ (o : ObjectRecord). is_among (take i dead ++ oid ∷ []) o.oid)
    (λ o. list_any-append (λ (other : Oid). nat_eq o.oid.0 other.0) (take i dead) (oid ∷ [])) old
    ∙ ap (λ (l : List Oid). filter (λ (o : ObjectRecord). not (is_among l o.oid)) old) (sym (take_more dead i d lt))

pub ascend-dropped : (dead : List Oid) (old new : List ObjectRecord) → AreAscendingObjects old → AreDropped dead old new → AreAscendingObjects new
ascend-dropped dead old new ascend dropped =
    subst AreAscendingObjects (sym dropped) (AllPairs-filter (λ (a b : ObjectRecord). a.oid.0 < b.oid.0) (λ (o : ObjectRecord). not (is_among dead o.oid)) old ascend)
