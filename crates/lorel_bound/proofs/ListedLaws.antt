-- Finite lists of exactly what passes: of one item, of either kind, of what others lead to; claims over them can be told.
use Rattle.std.proofs.Common.{◌≡◌, ◌⊎◌, inl, inr, ◌↔◌, List, [], ◌∷◌, ◌++◌, Option, Some, None, subst, refl, sym}
use Rattle.std.specs.List.{Contains, AllZip}
use Rattle.std.proofs.lemmas.List.Elements.{Contains-append_left, Contains-append_right, Contains-append_cases}
use Rattle.lore_base.proofs.MemberLaws.{Contains-none, Contains-tail, Contains-head, Contains-cases, Contains-same}
use Rattle.lore_base.proofs.ToldLaws.{told_some as some_member, IsTold, told_not, told_same, told_member}

-- the list has what passes, and nothing else
abbrev pub Lists : {X : Type 0} → (X → Type 0) → List X → Type 0
Lists {X} P xs = (x : X) → Contains xs x ↔ P x

abbrev pub IsListed : {X : Type 0} → (X → Type 0) → Type 0
IsListed {X} P = (xs : List X) × Lists P xs

pub listed_members : {X : Type 0} (xs : List X) → IsListed (Contains xs)
listed_members xs = (xs, λ x. (λ h. h, λ h. h))

pub listed_same : {X : Type 0} (P Q : X → Type 0) → ((x : X) → P x ↔ Q x) → IsListed P → IsListed Q
listed_same P Q same (xs, lists) =
    (xs, λ x. (λ h. (same x).0 ((lists x).0 h), λ h. (lists x).1 ((same x).1 h)))

pub listed_none : {X : Type 0} (P : X → Type 0) → ((x : X) → P x → ⊥) → IsListed P
listed_none P none = ([], λ x. (λ h. absurd (Contains-none x h), λ h. absurd (none x h)))

pub listed_one : {X : Type 0} (x : X) → IsListed (λ y. x ≡ y)
listed_one x = (
  x ∷ [],
  λ y. (
    λ h. elim (Contains-cases x [] y h) [ inl same ↦ same | inr none ↦ absurd (Contains-none y none) ],
    λ same. Contains-same (x ∷ []) x y same (Contains-head x []),
  ),
)

pub listed_either : {X : Type 0} (P Q : X → Type 0) → IsListed P → IsListed Q → IsListed (λ x. P x ⊎ Q x)
listed_either P Q first second = (
  first.0 ++ second.0,
  λ x. (
    λ h. elim (Contains-append_cases first.0 second.0 x h) [
      | inl left ↦ inl ((first.1 x).0 left)
      | inr right ↦ inr ((second.1 x).0 right)
    ],
    λ h. elim h [
      | inl left ↦ Contains-append_left first.0 second.0 x ((first.1 x).1 left)
      | inr right ↦ Contains-append_right first.0 second.0 x ((second.1 x).1 right)
    ],
  ),
)

-- one item, where something holds
pub listed_when : {X : Type 0} (P : Type 0) → IsTold P → (x : X) → IsListed (λ y. P × (x ≡ y))
listed_when P (inr none) x = listed_none (λ y. P × (x ≡ y)) (λ y h. none h.0)
listed_when P (inl p) x = listed_same (λ y. x ≡ y) (λ y. P × (x ≡ y)) (λ y. (λ same. (p, same), λ h. h.1)) (listed_one x)

-- what passes, where something holds
pub listed_given : {X : Type 0} (P : Type 0) (Q : X → Type 0) → IsTold P → IsListed Q → IsListed (λ x. P × Q x)
listed_given P Q (inl p) listed = listed_same Q (λ x. P × Q x) (λ x. (λ q. (p, q), λ h. h.1)) listed
listed_given P Q (inr none) listed = listed_none (λ x. P × Q x) (λ x h. none h.0)

pub listed_option : {X : Type 0} (found : Option X) → IsListed (λ x. found ≡ Some x)
listed_option None = listed_none (λ x. None ≡ Some x) (λ x h. cc)
listed_option (Some y) = listed_same (λ x. y ≡ x) (λ x. Some y ≡ Some x) (λ x. (λ h. cc, λ h. cc)) (listed_one y)

-- what the members of a list lead to
over_members : {X Y : Type 0} (R : X → Y → Type 0) → ((x : X) → IsListed (R x)) → (xs : List X)
    → IsListed (λ y. (x : X) × Contains xs x × R x y)
over_members R each [] = ([], λ y. (λ h. absurd (Contains-none y h), λ h. absurd (Contains-none h.0 h.1)))
over_members R each (x ∷ xs) =
    let here = each x in
    let rest = over_members R each xs in (
      here.0 ++ rest.0,
      λ y. (
        λ h. elim (Contains-append_cases here.0 rest.0 y h) [
          | inl first ↦ (x, Contains-head x xs, (here.1 y).0 first)
          | inr later ↦ (let from = (rest.1 y).0 later in (from.0, Contains-tail x xs from.0 from.1, from.2))
        ],
        λ h. elim (Contains-cases x xs h.0 h.1) [
          | inl same ↦ Contains-append_left here.0 rest.0 y ((here.1 y).1 (subst (λ z. R z y) (sym same) h.2))
          | inr later ↦ Contains-append_right here.0 rest.0 y ((rest.1 y).1 (h.0, later, h.2))
        ],
      ),
    )

-- what each that passes leads to
pub listed_over : {X Y : Type 0} (P : X → Type 0) (R : X → Y → Type 0) → IsListed P → ((x : X) → IsListed (R x))
    → IsListed (λ y. (x : X) × P x × R x y)
listed_over {X} {Y} P R (xs, lists) each =
    listed_same (λ y. (x : X) × Contains xs x × R x y) (λ y. (x : X) × P x × R x y)
    (λ y. (λ h. (h.0, (lists h.0).0 h.1, h.2), λ h. (h.0, (lists h.0).1 h.1, h.2))) (over_members R each xs)

-- those that pass a second time
pub listed_where : {X : Type 0} (P Q : X → Type 0) → IsListed P → ((x : X) → IsTold (Q x)) → IsListed (λ x. P x × Q x)
listed_where {X} P Q listed told =
    listed_same (λ y. (x : X) × P x × (Q x × (x ≡ y))) (λ y. P y × Q y)
    (λ y. (
      λ h. (subst P h.2.1 h.1, subst Q h.2.1 h.2.0),
      λ h. (y, h.0, (h.1, refl)),
    ))
    (listed_over P (λ x y. Q x × (x ≡ y)) listed (λ x. listed_when (Q x) (told x) x))

-- lists that go in pairs with a list
module _ {X Y : Type 0} (R : X → Y → Type 0) where
  -- of no item there are none, and of one more a first one and the others
  no_pairs : (ys : List Y) → ([] ≡ ys) ↔ AllZip R [] ys
  no_pairs [] = (λ same. tt, λ pairs. refl)
  no_pairs (y ∷ ys) = (λ same. cc, λ pairs. absurd pairs)

  first_pair : (x : X) (xs : List X) (ys : List Y)
      → ((first : Y) × R x first × ((rest : List Y) × AllZip R xs rest × (first ∷ rest ≡ ys))) ↔ AllZip R (x ∷ xs) ys
  first_pair x xs [] = (λ h. let is : h.0 ∷ h.2.0 ≡ [] = h.2.2 in cc, λ pairs. absurd pairs)
  first_pair x xs (y ∷ ys) = (
    λ h. subst (AllZip R (x ∷ xs)) h.2.2 (h.1, h.2.1),
    λ pairs. (y, pairs.0, (ys, pairs.1, refl)),
  )

  pub listed_pairs : ((x : X) → IsListed (R x)) → (xs : List X) → IsListed (AllZip R xs)
  listed_pairs each [] = listed_same (λ ys. [] ≡ ys) (AllZip R []) no_pairs (listed_one [])
  listed_pairs each (x ∷ xs) =
      listed_same (λ ys. (first : Y) × R x first × ((rest : List Y) × AllZip R xs rest × (first ∷ rest ≡ ys))) (AllZip R (x ∷ xs)) (first_pair x xs)
      (listed_over (R x) (λ first ys. (rest : List Y) × AllZip R xs rest × (first ∷ rest ≡ ys)) (each x)
      (λ first. listed_over (AllZip R xs) (λ rest ys. first ∷ rest ≡ ys) (listed_pairs each xs) (λ rest. listed_one (first ∷ rest))))

-- ---- what is told over what is listed
pub told_some : {X : Type 0} (P Q : X → Type 0) → IsListed P → ((x : X) → IsTold (Q x)) → IsTold ((x : X) × P x × Q x)
told_some P Q (xs, lists) told =
    told_same (λ h. (h.0, (lists h.0).0 h.1, h.2)) (λ h. (h.0, (lists h.0).1 h.1, h.2)) (some_member Q told xs)

pub told_all : {X : Type 0} (P Q : X → Type 0) → IsListed P → ((x : X) → IsTold (Q x)) → IsTold ((x : X) → P x → Q x)
told_all P Q listed told = elim (told_some P (λ x. Q x → ⊥) listed (λ x. told_not (told x))) [
  | inl h ↦ inr (λ all. h.2 (all h.0 h.1))
  | inr none ↦ inl (λ x p. elim (told x) [ inl passes ↦ passes | inr fails ↦ absurd (none (x, p, fails)) ])
]

-- of what is listed it is told whether something passes, where items can be told apart
pub told_listed : {X : Type 0} → ((a b : X) → IsTold (a ≡ b)) → (P : X → Type 0) → IsListed P → (x : X) → IsTold (P x)
told_listed apart P (xs, lists) x = told_same (lists x).0 (lists x).1 (told_member apart xs x)
