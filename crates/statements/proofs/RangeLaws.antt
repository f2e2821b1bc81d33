-- The numbers of a statement: whether they are in their ranges, and so whether it makes changes.
use Rattle.std.proofs.Common.{◌≡◌, ℕ, ◌≤◌, inl, inr, refl, subst, arith}
use Rattle.std.specs.Prelude.{ℤ, pos, negsuc}
use Rattle.lore_base.specs.Databases.{Database}
use Rattle.lore_base.proofs.ToldLaws.{IsTold, told_both, told_below}
use Rattle.lorel_trees.specs.Trees as t
use Rattle.lorel_trees.specs.Trees.{StatementTree}
use Rattle.statements.specs.Types.{SEED, FEWEST_PERSONS, MOST_PERSONS}
use Rattle.statements.specs.Forms.{IsBetween, AreGenerable, MakesChanges}
use Rattle.statements.specs.Statements.{IsOutOfRange}

-- a negative number is none
abbrev IsNegative : ℤ → Type 0
IsNegative (pos limit) = ⊥
IsNegative (negsuc number) = Unit {0}

pub no_count : (number limit : ℕ) → negsuc number ≡ pos limit → ⊥
no_count number limit is = subst IsNegative is tt

pub told_between : (least most : ℕ) (value : ℤ) → IsTold (IsBetween least most value)
told_between least most (pos number) = elim (told_below number least) [
  | inl low ↦ inr (λ h. let same : number ≡ h.0 = one_count number h.0 h.1 in omega (arith, low, same, h.2))
  | inr low ↦ elim (told_below most number) [
    | inl high ↦ inr (λ h. let same : number ≡ h.0 = one_count number h.0 h.1 in omega (arith, high, same, h.3))
    | inr high ↦ inl (number, refl, omega (arith, low), omega (arith, high))
  ]
]
  where
    one_count : (one other : ℕ) → pos one ≡ pos other → one ≡ other
    one_count one other is = cc
told_between least most (negsuc number) = inr (λ h. no_count number h.0 h.1)

-- what is not out of the range is in it
pub between_not : (least most : ℕ) (value : ℤ) → ((IsBetween least most value → ⊥) → ⊥) → IsBetween least most value
between_not least most value within = elim (told_between least most value) [ inl is ↦ is | inr none ↦ absurd (within none) ]

-- and so a number that is given as a count
pub pos_within : (least most number : ℕ) → IsBetween least most (pos number) → (least ≤ number) × (number ≤ most)
pos_within least most number h =
    let same : pos number ≡ pos h.0 = h.1 in
    let count : number ≡ h.0 = cc in
    (omega (arith, count, h.2), omega (arith, count, h.3))

pub told_generable : (seed count : ℤ) → IsTold (AreGenerable seed count)
told_generable seed count = told_both (told_between 0 SEED seed) (told_between FEWEST_PERSONS MOST_PERSONS count)

pub in_range : (db : Database) (seed count : ℤ) → (IsOutOfRange db (t.generate seed count) → ⊥) → AreGenerable seed count
in_range db seed count within = elim (told_generable seed count) [ inl are ↦ are | inr none ↦ absurd (within none) ]

-- a statement makes changes, or none
pub told_changing : (statement : StatementTree) → IsTold (MakesChanges statement)
told_changing (t.load name literal) = inl tt
told_changing (t.bind name path) = inl tt
told_changing (t.unname name) = inl tt
told_changing (t.assign target value tail) = inl tt
told_changing (t.add_new target label literal tail) = inl tt
told_changing (t.add_link target label right tail) = inl tt
told_changing (t.remove target label right tail) = inl tt
told_changing (t.generate seed count) = told_generable seed count
told_changing _ = inr (λ h. h)

-- numbers that are tested are in range
pub generable : (seed count : ℕ) → seed ≤ SEED → FEWEST_PERSONS ≤ count → count ≤ MOST_PERSONS → AreGenerable (pos seed) (pos count)
generable seed count low few many = ((seed, refl, omega arith, low), (count, refl, few, many))
