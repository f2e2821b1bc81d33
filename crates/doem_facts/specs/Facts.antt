-- The facts of a history: a name with its object, an object with its value, and an edge. In which order they
-- stand, and what they weigh.
use Rattle.std.specs.Prelude.{◌≡◌, ℕ, ◌+◌, List, length, AllPairs}
use Rattle.std.specs.Ordering.{nat_cmp}
use Rattle.std.specs.declared.cmp.Ordering.{Ordering}
use Rattle.std.specs.declared.cmp.Ordering.TheVariants.{Less}
use Rattle.lore_base.specs.Bytes.{bytes_cmp}
use Rattle.doem_facts.specs.Types.{Oid, Value, Chars}

-- names in the order of their bytes, objects in that of their numbers; edges have an order of their own
abbrev pub name_order : List ℕ × Oid → List ℕ × Oid → Ordering
name_order a b = bytes_cmp a.0 b.0

abbrev pub object_order : Oid × Value → Oid × Value → Ordering
object_order a b = nat_cmp a.0.0 b.0.0

abbrev pub Ascends : {F : Type 0} → (F → F → Ordering) → List F → Type 0
Ascends cmp facts = AllPairs (λ a b. cmp a b ≡ Less) facts

-- the bytes of a text; other values have none
abbrev pub bytes_in : Value → ℕ
bytes_in (Chars text) = length text
bytes_in value = 0

-- each fact weighs 64, and an object with a text its bytes beside
abbrev pub object_weight : Oid × Value → ℕ
object_weight object = 64 + bytes_in object.1
