-- What differs with a change: names, and objects with their values.
use Rattle.std.specs.Prelude.{◌⊎◌, ◌↔◌, ℕ, List, Contains}
use Rattle.graph_changes.specs.Types.{Oid, Value}
use Rattle.lore_base.specs.Names.{IsNameTable}
use Rattle.lore_base.specs.Databases.{AreAscendingObjects, IsLive}
use Rattle.lore_base.specs.Deltas.{ListsOnlyIn}

-- the names that the first table has and the second lacks, or has for another object
pub record AreOnlyIn (names others only : List (List ℕ × Oid)) : Type 0 where
  pub table : IsNameTable only
  pub exact : ListsOnlyIn only names others

-- those of the given values that objects don't have yet
pub record AreDiffering (old given come : List (Oid × Value)) : Type 0 where
  pub ascend : AreAscendingObjects given → AreAscendingObjects come
  pub exact : (object : Oid × Value) → Contains come object → Contains given object × (¬ Contains old object)
  pub either : (object : Oid × Value) → Contains given object → Contains come object ⊎ Contains old object

-- the objects that go, with their values: the dead, and those that come with others
pub record AreGoneObjects (old : List (Oid × Value)) (dead : List Oid) (come gone : List (Oid × Value)) : Type 0 where
  pub ascend : AreAscendingObjects gone
  pub exact : (object : Oid × Value) → Contains gone object
      ↔ (Contains old object × (Contains dead object.0 ⊎ IsLive come object.0))
