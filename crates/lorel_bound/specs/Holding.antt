-- When the condition of a select holds, whatever its paths are and reach.
use Rattle.std.specs.Prelude.{◌≡◌, ◌⊎◌, List, [], ◌∷◌, ◌++◌}
use Rattle.lorel_bound.specs.Types.{Oid, Value, Op}
use Rattle.lorel_bound.specs.Conditions.{OperandOf, constant, at, CondOf, or, and, not, exists, for_all, compare, same, CondsOf, no_cond, cond}

-- `objects` are those of the quantifiers that enclose it, from the outermost on
module _ {Path : Type 0} (Reached : List Oid → Path → Oid → Type 0) (Has : Oid → Value → Type 0)
    (Compares : Value → Op → Value → Type 0) where
  -- an operand gives a value: its own, or that of an object which its path reaches
  abbrev pub Gives : List Oid → OperandOf Path → Value → Type 0
  Gives objects (constant own) value = value ≡ own
  Gives objects (at path) value = (oid : Oid) × Reached objects path oid × Has oid value

  abbrev mutual
    pub Holds : List Oid → CondOf Path → Type 0
    Holds objects (or members) = SomeHolds objects members
    Holds objects (and members) = AllHold objects members
    Holds objects (not body) = Holds objects body → ⊥
    Holds objects (exists path body) = (oid : Oid) × Reached objects path oid × Holds (objects ++ oid ∷ []) body
    Holds objects (for_all path body) = (oid : Oid) → Reached objects path oid → Holds (objects ++ oid ∷ []) body
    Holds objects (compare left op right) =
        (a : Value) × (b : Value) × Gives objects left a × Gives objects right b × Compares a op b
    Holds objects (same left right) = (oid : Oid) × Reached objects left oid × Reached objects right oid

    pub SomeHolds : List Oid → CondsOf Path → Type 0
    SomeHolds objects no_cond = ⊥
    SomeHolds objects (cond first others) = Holds objects first ⊎ SomeHolds objects others

    pub AllHold : List Oid → CondsOf Path → Type 0
    AllHold objects no_cond = Unit {0}
    AllHold objects (cond first others) = Holds objects first × AllHold objects others
