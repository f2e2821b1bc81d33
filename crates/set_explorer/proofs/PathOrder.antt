-- The order of label paths: strict, and kept where both get one label more.
use Rattle.std.proofs.Common.{◌≡◌, ℕ, ◌<◌, ◌⊎◌, inl, inr, Less, Equal, Greater, List, [], ◌∷◌, ◌++◌, length, refl, sym}
use Rattle.std.proofs.Common.{ap, ◌∙◌, subst, arith, length-append}
use Rattle.std.specs.Ordering.{nat_cmp, ordering_then}
use Rattle.std.specs.Cmp.{IsTotalOrder}
use Rattle.std.proofs.lemmas.Bool.Decides.{nat_tests}
use Rattle.std.proofs.lemmas.Cmp.{nat_cmp_total, on_total, lists_total, nat_list_cmp_total, tied_itself}
use Rattle.lore_base.specs.Bytes.{bytes_cmp}
use Rattle.set_explorer.specs.Types.{Label}
use Rattle.lore_base.specs.TargetSets.{LabelPath}
use Rattle.lore_base.specs.PathOrder.{word_cmp, ComesBefore}
use Rattle.set_explorer.specs.inside.Trails.{longer, ComesUpTo}

pub word_total : IsTotalOrder word_cmp
word_total = lists_total (on_total (λ (label : Label). label.0) nat_cmp_total)

cmp_less : (a b : ℕ) → a < b → nat_cmp a b ≡ Less
cmp_less a b less = grind (arith, nat_tests)

-- words in order stay so with one label more
word_push : (v w : List Label) (a b : Label) → length v ≡ length w → word_cmp v w ≡ Less
    → word_cmp (v ++ a ∷ []) (w ++ b ∷ []) ≡ Less
word_push [] [] a b len less = cc
word_push [] (y ∷ w) a b len less = absurd (omega arith)
word_push (x ∷ v) [] a b len less = absurd (omega arith)
word_push (x ∷ v) (y ∷ w) a b len less =
    elim (nat_cmp x.0 y.0) as (λ o. ordering_then o (word_cmp v w) ≡ Less → ordering_then o
    (word_cmp (v ++ a ∷ []) (w ++ b ∷ [])) ≡ Less) [
      | Less ↦ λ h. refl
      | Equal ↦ λ h. word_push v w a b (omega arith) h
      | Greater ↦ λ h. h
    ] less

-- a word with a lower label at its end comes first
word_push_same : (w : List Label) (a b : Label) → a.0 < b.0 → word_cmp (w ++ a ∷ []) (w ++ b ∷ []) ≡ Less
word_push_same [] a b less = rw (cmp_less a.0 b.0 less) refl
word_push_same (x ∷ w) a b less = rw (tied_itself nat_cmp_total x.0) (word_push_same w a b less)

pub before-longer : (path other : LabelPath) (a b : Label) → ComesBefore path other
    → ComesBefore (longer path a) (longer other b)
before-longer path other a b h = elim h [
  | inl shorter ↦ inl (omega (arith, length-append path.word (a ∷ []), length-append other.word (b ∷ [])))
  | inr same ↦ inr (
    omega (arith, length-append path.word (a ∷ []), length-append other.word (b ∷ [])),
    elim same.1 [
      | inl name ↦ inl name
      | inr word ↦ inr (word.0, word_push path.word other.word a b same.0 word.1)
    ],
  )
]

pub before-label : (path : LabelPath) (a b : Label) → a.0 < b.0 → ComesBefore (longer path a) (longer path b)
before-label path a b less =
    inr (
      omega (arith, length-append path.word (a ∷ []), length-append path.word (b ∷ [])),
      inr (refl, word_push_same path.word a b less),
    )

-- a path comes before each that is longer than one that it comes up to
pub before-end : (path other : LabelPath) (label : Label) → ComesUpTo path other → ComesBefore path (longer other label)
before-end path other label h = elim h [
  | inl same ↦ inl (omega (arith, ap (λ (p : LabelPath). length p.word) same, length-append other.word (label ∷ [])))
  | inr before ↦ elim before [
    | inl shorter ↦ inl (omega (arith, length-append other.word (label ∷ [])))
    | inr equal ↦ inl (omega (arith, equal.0, length-append other.word (label ∷ [])))
  ]
]

names-trans : (a b c : LabelPath)
    → (bytes_cmp a.name b.name ≡ Less) ⊎ ((a.name ≡ b.name) × (word_cmp a.word b.word ≡ Less))
    → (bytes_cmp b.name c.name ≡ Less) ⊎ ((b.name ≡ c.name) × (word_cmp b.word c.word ≡ Less))
    → (bytes_cmp a.name c.name ≡ Less) ⊎ ((a.name ≡ c.name) × (word_cmp a.word c.word ≡ Less))
names-trans a b c first second = elim first [
  | inl name ↦ elim second [
    | inl later ↦ inl (nat_list_cmp_total.trans a.name b.name c.name name later)
    | inr same ↦ inl (subst (λ (n : List ℕ). bytes_cmp a.name n ≡ Less) same.0 name)
  ]
  | inr same ↦ elim second [
    | inl name ↦ inl (subst (λ (n : List ℕ). bytes_cmp n c.name ≡ Less) (sym same.0) name)
    | inr later ↦ inr (same.0 ∙ later.0, word_total.trans a.word b.word c.word same.1 later.1)
  ]
]

pub before-trans : (a b c : LabelPath) → ComesBefore a b → ComesBefore b c → ComesBefore a c
before-trans a b c first second = elim first [
  | inl shorter ↦ elim second [
    | inl later ↦ inl (omega arith)
    | inr equal ↦ inl (omega (arith, equal.0))
  ]
  | inr equal ↦ elim second [
    | inl shorter ↦ inl (omega (arith, equal.0))
    | inr later ↦ inr (equal.0 ∙ later.0, names-trans a b c equal.1 later.1)
  ]
]

pub before-itself : (a : LabelPath) → ComesBefore a a → ⊥
before-itself a h = elim h [
  | inl shorter ↦ omega arith
  | inr equal ↦ elim equal.1 [
    | inl name ↦ (let tied : Equal ≡ Less = sym (tied_itself nat_list_cmp_total a.name) ∙ name in cc)
    | inr same ↦ (let tied : Equal ≡ Less = sym (tied_itself word_total a.word) ∙ same.1 in cc)
  ]
]

pub before-not_back : (a b : LabelPath) → ComesBefore a b → ComesBefore b a → ⊥
before-not_back a b first second = before-itself a (before-trans a b a first second)

pub upto-longer : (path other : LabelPath) (label : Label) → ComesUpTo path other
    → ComesUpTo (longer path label) (longer other label)
upto-longer path other label h = elim h [
  | inl same ↦ inl (ap (λ (p : LabelPath). longer p label) same)
  | inr before ↦ inr (before-longer path other label label before)
]

pub upto-trans : (a b c : LabelPath) → ComesUpTo a b → ComesUpTo b c → ComesUpTo a c
upto-trans a b c first second = elim first [
  | inl same ↦ subst (λ (p : LabelPath). ComesUpTo p c) (sym same) second
  | inr before ↦ elim second [
    | inl same ↦ inr (subst (λ (p : LabelPath). ComesBefore a p) same before)
    | inr later ↦ inr (before-trans a b c before later)
  ]
]
