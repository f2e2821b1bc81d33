-- The sides of a comparison: a value, or objects that stand for their values.
use Rattle.std.specs.Prelude.{◌≡◌, List, Contains}
use Rattle.lore_base.specs.Comparisons.{Compares}
use Rattle.lorel_eval.specs.Types.{Oid, Value, Op}
use Rattle.lorel_eval.specs.inside.FoundObjects.{oids_of}
use Rattle.lorel_eval.specs.declared.comparisons.Side.{Side}
use Rattle.lorel_eval.specs.declared.comparisons.Side.TheVariants.{Own, Objects}

-- the object has a value that passes
abbrev pub HasSuch : List (Oid × Value) → (Value → Type 0) → Oid → Type 0
HasSuch objects Passes oid = (value : Value) × Contains objects (oid, value) × Passes value

-- and so has some object of the list
abbrev pub SomeHasSuch : List (Oid × Value) → (Value → Type 0) → List Oid → Type 0
SomeHasSuch objects Passes oids = (oid : Oid) × Contains oids oid × HasSuch objects Passes oid

-- a side gives a value: its own, or that of one of its objects
abbrev pub SideGives : List (Oid × Value) → Side → Value → Type 0
SideGives objects (Own own) value = value ≡ own.now
SideGives objects (Objects found) value = (oid : Oid) × Contains (oids_of found) oid × Contains objects (oid, value)

-- the value and some value of the right side compare so
abbrev pub ComparesWith : List (Oid × Value) → Op → Side → Value → Type 0
ComparesWith objects op right value = (other : Value) × SideGives objects right other × Compares value op other

-- some value of the left side and some of the right compare so
abbrev pub SidesCompare : List (Oid × Value) → Side → Op → Side → Type 0
SidesCompare objects left op right = (value : Value) × SideGives objects left value × ComparesWith objects op right value
