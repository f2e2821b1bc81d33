-- What can be told: that a claim holds, or that it doesn't, of claims made of others, of members of lists, of texts and
-- of edges; and the members of a list of which a claim holds.
use Rattle.std.proofs.Common.{◌≡◌, ◌≢◌, ℕ, ◌⊎◌, inl, inr, ◌↔◌, Bool, true, false, ltb, ◌<◌, ◌==◌, Decides, true≢false}
use Rattle.std.proofs.Common.{List, [], ◌∷◌, subst, refl, sym, ap}
use Rattle.std.specs.List.{Contains, AllPairs, filter}
use Rattle.std.specs.Str.{bytes_eq}
use Rattle.std.proofs.lemmas.Bool.Decides.{Decides-eqb, Decides-ltb}
use Rattle.std.proofs.lemmas.Slice.Eq.{bytes_eq-Decides}
use Rattle.std.proofs.lemmas.List.Kept.{AllPairs-filter}
use Rattle.std.specs.Prelude.{ℤ}
use Rattle.std.specs.Ordering.{int_eq}
use Rattle.std.proofs.lemmas.Bool.Decides.{Decides-int_eq}
use Rattle.lore_base.specs.Types.{Oid, Edge, Value, Whole, Chars, Flag, Complex}
use Rattle.lore_base.specs.Databases.{is_complex}
use Rattle.lore_lists.proofs.MemberLaws.{Contains-none, Contains-tail, Contains-head, Contains-cases, Contains-same}
use Rattle.lore_lists.proofs.MemberLaws.{Contains-filter, unfiltered}

-- something holds, or it doesn't
abbrev pub IsTold : Type 0 → Type 0
IsTold P = P ⊎ (P → ⊥)

-- what a test decides is told
pub told_by : {P : Type 0} (test : Bool) → Decides test P → IsTold P
told_by true decides = inl (decides.0 refl)
told_by false decides = inr (λ h. true≢false (sym (decides.1 h)))

-- what holds exactly where something told holds
pub told_same : {P Q : Type 0} → (P → Q) → (Q → P) → IsTold P → IsTold Q
told_same to from (inl p) = inl (to p)
told_same to from (inr none) = inr (λ q. none (from q))

pub told_not : {P : Type 0} → IsTold P → IsTold (P → ⊥)
told_not (inl p) = inr (λ none. none p)
told_not (inr none) = inl none

pub told_both : {P Q : Type 0} → IsTold P → IsTold Q → IsTold (P × Q)
told_both (inl p) (inl q) = inl (p, q)
told_both (inl p) (inr none) = inr (λ h. none h.1)
told_both (inr none) told = inr (λ h. none h.0)

pub told_either : {P Q : Type 0} → IsTold P → IsTold Q → IsTold (P ⊎ Q)
told_either (inl p) told = inl (inl p)
told_either (inr none) (inl q) = inl (inr q)
told_either (inr none) (inr neither) = inr (λ h. elim h [ inl p ↦ none p | inr q ↦ neither q ])

-- where items can be told apart, so can members of a list
pub told_member : {X : Type 0} → ((a b : X) → IsTold (a ≡ b)) → (xs : List X) (x : X) → IsTold (Contains xs x)
told_member told [] x = inr (λ h. Contains-none x h)
told_member told (first ∷ others) x =
    elim (told first x) [
      | inl same ↦ inl (Contains-same (first ∷ others) first x same (Contains-head first others))
      | inr apart ↦ elim (told_member told others x) [
        | inl later ↦ inl (Contains-tail first others x later)
        | inr nowhere ↦ inr (λ h. elim
            (Contains-cases first others x h) [ inl same ↦ apart same | inr later ↦ nowhere later ])
      ]
    ]

-- and so it is told whether a list pairs an item with another
pub told_paired : {X Y : Type 0} → ((a b : X) → IsTold (a ≡ b)) → (pairs : List (X × Y)) (x : X)
    → IsTold ((y : Y) × Contains pairs (x, y))
told_paired told [] x = inr (λ h. Contains-none (x, h.0) h.1)
told_paired {X} {Y} told (pair ∷ pairs) x = elim (told pair.0 x) [
  | inl same ↦ inl (pair.1, subst (λ (a : X). Contains (pair ∷ pairs) (a, pair.1)) same (Contains-head pair pairs))
  | inr apart ↦ elim (told_paired told pairs x) [
    | inl later ↦ inl (later.0, Contains-tail pair pairs (x, later.0) later.1)
    | inr none ↦ inr (λ h. elim (Contains-cases pair pairs (x, h.0) h.1) [
      | inl is ↦ apart (ap (λ (p : X × Y). p.0) is)
      | inr later ↦ none (h.0, later)
    ])
  ]
]

pub told_oid : (a b : Oid) → IsTold (a ≡ b)
told_oid a b =
    told_same (λ (same : a.0 ≡ b.0). λ i. record { 0 = same i }) (ap (λ (oid : Oid). oid.0))
    (told_by (a.0 == b.0) (Decides-eqb a.0 b.0))

pub told_bytes : (a b : List ℕ) → IsTold (a ≡ b)
told_bytes a b = told_by (bytes_eq a b) (bytes_eq-Decides a b)

pub told_below : (a b : ℕ) → IsTold (a < b)
told_below a b = told_by (ltb a b) (Decides-ltb a b)

pub told_edge : (a b : Edge) → IsTold (a ≡ b)
told_edge a b =
    told_same
    (λ same. λ i. record { parent = same.0 i; label = record { 0 = same.1.0 i }; child = same.1.1 i })
    (λ same. (
      ap (λ (edge : Edge). edge.parent) same,
      (ap (λ (edge : Edge). edge.label.0) same, ap (λ (edge : Edge). edge.child) same),
    ))
    (told_both (told_oid a.parent b.parent)
    (told_both (told_by (a.label.0 == b.label.0) (Decides-eqb a.label.0 b.label.0)) (told_oid a.child b.child)))

told_flag : (a b : Bool) → IsTold (a ≡ b)
told_flag true true = inl refl
told_flag false false = inl refl
told_flag true false = inr true≢false
told_flag false true = inr (λ same. true≢false (sym same))

-- whether a value is complex, and whether two values are one
pub told_complex : (value : Value) → IsTold (value ≡ Complex)
told_complex (Whole number) = inr (λ same. cc)
told_complex (Chars text) = inr (λ same. cc)
told_complex (Flag flag) = inr (λ same. cc)
told_complex Complex = inl refl

-- the test tells complex values from atoms
pub complex_decides : (value : Value) → Decides (is_complex value) (value ≡ Complex)
complex_decides (Whole number) = (λ h. absurd (true≢false (sym h)), λ same. cc)
complex_decides (Chars text) = (λ h. absurd (true≢false (sym h)), λ same. cc)
complex_decides (Flag flag) = (λ h. absurd (true≢false (sym h)), λ same. cc)
complex_decides Complex = (λ h. refl, λ same. refl)

pub complex_only : (value : Value) → is_complex value ≡ true → value ≡ Complex
complex_only value h = (complex_decides value).0 h

pub atom_only : (value : Value) → value ≢ Complex → is_complex value ≡ false
atom_only (Whole number) atom = refl
atom_only (Chars text) atom = refl
atom_only (Flag flag) atom = refl
atom_only Complex atom = absurd (atom refl)

same_number : (a b : ℤ) → Whole a ≡ Whole b → a ≡ b
same_number a b same = cc

same_text : (a b : List ℕ) → Chars a ≡ Chars b → a ≡ b
same_text a b same = cc

same_flag : (a b : Bool) → Flag a ≡ Flag b → a ≡ b
same_flag a b same = cc

pub told_value : (a b : Value) → IsTold (a ≡ b)
told_value (Whole a) (Whole b) = told_same (ap Whole) (same_number a b) (told_by (int_eq a b) (Decides-int_eq a b))
told_value (Chars a) (Chars b) = told_same (ap Chars) (same_text a b) (told_bytes a b)
told_value (Flag a) (Flag b) = told_same (ap Flag) (same_flag a b) (told_flag a b)
told_value Complex value = told_same sym sym (told_complex value)
told_value (Whole a) (Chars b) = inr (λ same. cc)
told_value (Whole a) (Flag b) = inr (λ same. cc)
told_value (Chars a) (Whole b) = inr (λ same. cc)
told_value (Chars a) (Flag b) = inr (λ same. cc)
told_value (Flag a) (Whole b) = inr (λ same. cc)
told_value (Flag a) (Chars b) = inr (λ same. cc)
told_value (Whole a) Complex = inr (λ same. cc)
told_value (Chars a) Complex = inr (λ same. cc)
told_value (Flag a) Complex = inr (λ same. cc)

-- ---- the members of a list that pass
abbrev pub passes_told : {P : Type 0} → IsTold P → Bool
passes_told (inl p) = true
passes_told (inr none) = false

-- those members
abbrev pub passing : {X : Type 0} (P : X → Type 0) → ((x : X) → IsTold (P x)) → List X → List X
passing P told xs = filter (λ x. passes_told (told x)) xs

passed : {P : Type 0} (told : IsTold P) → passes_told told ≡ true → P
passed (inl p) is = p
passed (inr none) is = absurd (true≢false (sym is))

passes : {P : Type 0} (told : IsTold P) → P → passes_told told ≡ true
passes (inl p) h = refl
passes (inr none) h = absurd (none h)

pub members_passing : {X : Type 0} (P : X → Type 0) (told : (x : X) → IsTold (P x)) (xs : List X) (x : X)
    → Contains (passing P told xs) x ↔ (Contains xs x × P x)
members_passing P told xs x = (
  λ h. let front = unfiltered (λ y. passes_told (told y)) xs x h in (front.0, passed (told x) front.1),
  λ h. Contains-filter (λ y. passes_told (told y)) xs x h.0 (passes (told x) h.1),
)

-- which keep their order
pub AllPairs-passing : {X : Type 0} (P : X → Type 0) (told : (x : X) → IsTold (P x)) (R : X → X → Type 0) (xs : List X)
    → AllPairs R xs → AllPairs R (passing P told xs)
AllPairs-passing P told R xs pairs = AllPairs-filter R (λ x. passes_told (told x)) xs pairs

-- ---- whether some member passes
pub told_some : {X : Type 0} (Q : X → Type 0) → ((x : X) → IsTold (Q x)) → (xs : List X)
    → IsTold ((x : X) × Contains xs x × Q x)
told_some Q told [] = inr (λ h. Contains-none h.0 h.1)
told_some Q told (first ∷ others) = elim (told first) [
  | inl passes ↦ inl (first, Contains-head first others, passes)
  | inr fails ↦ elim (told_some Q told others) [
    | inl later ↦ inl (later.0, Contains-tail first others later.0 later.1, later.2)
    | inr none ↦ inr (λ h. elim (Contains-cases first others h.0 h.1) [
      | inl same ↦ fails (subst Q (sym same) h.2)
      | inr later ↦ none (h.0, later, h.2)
    ])
  ]
]
