-- Objects that are made of values in turn: their numbers go up from the first one by one, and each has its value.
use Rattle.std.proofs.Common.{◌≡◌, ℕ, zero, suc, ◌+◌, ◌<◌, List, [], ◌∷◌, ◌++◌, length, map, get_or, Some, slice_get}
use Rattle.std.proofs.Common.{All, Contains, refl, ap, subst, ◌∙◌, arith}
use Rattle.std.proofs.lemmas.List.{length-map}
use Rattle.std.proofs.lemmas.List.Elements.{All-nil, All-cons, All-head, All-tail}
use Rattle.std.proofs.lemmas.Option.{none-some, same_Some, slice_get-get_or}
use Rattle.lore_base.proofs.MemberLaws.{Contains-head, Contains-tail}
use Rattle.lore_base.specs.Walks.{oid_of}
use Rattle.lore_base.specs.Databases.{IsLive, IsSized}
use Rattle.lore_base.specs.ChangeSets.{AreNumberedFrom}
use Rattle.lorel_trees.specs.Trees.{LiteralTree}
use Rattle.oem_text.specs.Types.{Oid, Value, Complex}
use Rattle.oem_text.specs.Literals.{Body, bodies, numbered, objects_of}

pub length-numbered : (next : ℕ) (values : List Value) → length (numbered next values) ≡ length values
length-numbered next [] = refl
length-numbered next (value ∷ others) = ap (λ (n : ℕ). suc n) (length-numbered (next + 1) others)

pub length-objects_of : (next : ℕ) (literal : LiteralTree) → length (objects_of next literal) ≡ length (bodies literal)
length-objects_of next literal =
    length-numbered next (map (λ (body : Body). body.value) (bodies literal))
    ∙ length-map (bodies literal) (λ (body : Body). body.value)

pub numbered-append : (next : ℕ) (xs ys : List Value)
    → numbered next (xs ++ ys) ≡ numbered next xs ++ numbered (next + length xs) ys
numbered-append next [] ys =
    let same : next ≡ next + 0 = omega arith in
    ap (λ (n : ℕ). numbered n ys) same
numbered-append next (x ∷ xs) ys =
    let same : next + 1 + length xs ≡ next + suc (length xs) = omega arith in
    ap (λ (l : List (Oid × Value)). (oid_of next, x) ∷ l)
    (numbered-append (next + 1) xs ys ∙ ap (λ (n : ℕ). numbered (next + 1) xs ++ numbered n ys) same)

-- the numbers go up one by one
pub numbered_from : (next : ℕ) (values : List Value) → AreNumberedFrom next (numbered next values)
numbered_from next [] = tt
numbered_from next (value ∷ others) = (refl, numbered_from (next + 1) others)

pub AreNumberedFrom-append : (next : ℕ) (front back : List (Oid × Value)) → AreNumberedFrom next front
    → AreNumberedFrom (next + length front) back → AreNumberedFrom next (front ++ back)
AreNumberedFrom-append next [] back h k =
    let same : next + 0 ≡ next = omega arith in subst (λ n. AreNumberedFrom n back) same k
AreNumberedFrom-append next (object ∷ front) back h k =
    let same : next + length (object ∷ front) ≡ (next + 1) + length front = omega arith in
    (h.0, AreNumberedFrom-append (next + 1) front back h.1 (subst (λ n. AreNumberedFrom n back) same k))

-- the object of the value at a place
pub numbered_at : (next : ℕ) (values : List Value) (place : ℕ) (value : Value) → slice_get values place ≡ Some value
    → Contains (numbered next values) (oid_of (next + place), value)
numbered_at next [] place value at = absurd (none-some value at)
numbered_at next (first ∷ values) zero value at =
    let objects = numbered next (first ∷ values) in
    let same : next ≡ next + 0 = omega arith in
    subst (λ n. Contains objects (oid_of n, value)) same
    (subst (λ (v : Value). Contains objects (oid_of next, v)) (same_Some first value at)
    (Contains-head (oid_of next, first) (numbered (next + 1) values)))
numbered_at next (first ∷ values) (suc place) value at =
    let same : (next + 1) + place ≡ next + suc place = omega arith in
    subst (λ n. Contains (numbered next (first ∷ values)) (oid_of n, value)) same
    (Contains-tail (oid_of next, first) (numbered (next + 1) values) (oid_of ((next + 1) + place), value)
    (numbered_at (next + 1) values place value at))

pub numbered_live : (next : ℕ) (values : List Value) (place : ℕ) → place < length values
    → IsLive (numbered next values) (oid_of (next + place))
numbered_live next values place low =
    let value = get_or values place Complex in
    (value, numbered_at next values place value (slice_get-get_or values place Complex low))

pub numbered_sized : (next : ℕ) (values : List Value) → All IsSized values
    → All (λ object. IsSized object.1) (numbered next values)
numbered_sized next [] sized = All-nil (λ (object : Oid × Value). IsSized object.1)
numbered_sized next (value ∷ values) sized =
    All-cons (λ (object : Oid × Value). IsSized object.1) (oid_of next, value) (numbered (next + 1) values)
    (All-head IsSized value values sized) (numbered_sized (next + 1) values (All-tail IsSized value values sized))
