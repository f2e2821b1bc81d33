-- How a path lies in a machine: its leaves in a row, the last one first, and which states come after each.
use Rattle.std.specs.Prelude.{◌≡◌, ◌↔◌, ℕ, ◌+◌, ◌⊎◌, length, Some, slice_get}
use Rattle.lore_base.specs.Paths.{PathTree, PathTrees, step, any, seq, alt, opt, star, plus, none, more}
use Rattle.lore_base.specs.Paths.{leaves, leaves_of}
use Rattle.path_expr.specs.Types.{States, Leaf, One, AnyLabel}
use Rattle.path_expr.specs.Machines.{Machine, IsIn, UpToEnd}

-- whoever reads a path whose leaves begin at a place, and then what begins in a state of `After`, may begin in the
-- state
abbrev mutual
  pub Begins : PathTree → ℕ → (ℕ → Type 0) → ℕ → Type 0
  Begins (step pattern) base After state = state ≡ base
  Begins any base After state = (state ≡ base) ⊎ After state
  Begins (seq parts) base After state = BeginsInTurn parts base After state
  Begins (alt parts) base After state = BeginsSome parts base After state
  Begins (opt part) base After state = Begins part base After state ⊎ After state
  Begins (star part) base After state = Begins part base After state ⊎ After state
  Begins (plus part) base After state = Begins part base After state

  -- the same of parts that are read one after another
  pub BeginsInTurn : PathTrees → ℕ → (ℕ → Type 0) → ℕ → Type 0
  BeginsInTurn none base After state = After state
  BeginsInTurn (more part parts) base After state =
      Begins part (base + leaves_of parts) (BeginsInTurn parts base After) state

  -- the same of parts of which one is read
  pub BeginsSome : PathTrees → ℕ → (ℕ → Type 0) → ℕ → Type 0
  BeginsSome none base After state = ⊥
  BeginsSome (more part parts) base After state =
      Begins part (base + leaves_of parts) After state ⊎ BeginsSome parts base After state

-- the machine has this leaf at the place, and after it the states of `After`
abbrev pub IsLeaf : Machine → ℕ → Leaf → (ℕ → Type 0) → Type 0
IsLeaf machine place leaf After =
    (states : States) × (slice_get machine.leaves place ≡ Some leaf)
    × (slice_get machine.follow place ≡ Some states) × ((state : ℕ) → IsIn states state ↔ After state)

-- the leaves of the path lie in the machine from a place on, and after its words come the states of `After`
abbrev mutual
  pub Compiled : Machine → PathTree → ℕ → (ℕ → Type 0) → Type 0
  Compiled machine (step pattern) base After = IsLeaf machine base (One pattern) After
  Compiled machine any base After = IsLeaf machine base AnyLabel (λ state. (state ≡ base) ⊎ After state)
  Compiled machine (seq parts) base After = CompiledInTurn machine parts base After
  Compiled machine (alt parts) base After = CompiledEach machine parts base After
  Compiled machine (opt part) base After = Compiled machine part base After
  Compiled machine (star part) base After =
      Compiled machine part base (λ state. Begins part base After state ⊎ After state)
  Compiled machine (plus part) base After =
      Compiled machine part base (λ state. Begins part base After state ⊎ After state)

  -- the same of parts that are read one after another
  pub CompiledInTurn : Machine → PathTrees → ℕ → (ℕ → Type 0) → Type 0
  CompiledInTurn machine none base After = Unit {0}
  CompiledInTurn machine (more part parts) base After =
      Compiled machine part (base + leaves_of parts) (BeginsInTurn parts base After)
      × CompiledInTurn machine parts base After

  -- the same of parts of which one is read
  pub CompiledEach : Machine → PathTrees → ℕ → (ℕ → Type 0) → Type 0
  CompiledEach machine none base After = Unit {0}
  CompiledEach machine (more part parts) base After =
      Compiled machine part (base + leaves_of parts) After × CompiledEach machine parts base After

-- a set of states has exactly those of a predicate
abbrev pub IsSet : States → (ℕ → Type 0) → Type 0
IsSet states Holds = (state : ℕ) → IsIn states state ↔ Holds state

-- the leaves of a machine stand in another one at the same places, with the same states after them
pub record Grows (old new : Machine) : Type 0 where
  pub leaves : (place : ℕ) (leaf : Leaf) → slice_get old.leaves place ≡ Some leaf
      → slice_get new.leaves place ≡ Some leaf
  pub follow : (place : ℕ) (states : States) → slice_get old.follow place ≡ Some states
      → slice_get new.follow place ≡ Some states

-- a leaf was put behind those of a machine, with what may come after it
pub record Pushes (leaf : Leaf) (next : States) (old new : Machine) : Type 0 where
  pub grows : Grows old new
  pub here : IsLeaf new (length old.leaves) leaf (IsIn next)
  pub counted : length new.leaves ≡ length old.leaves + 1

-- leaves were put behind those of a machine: so many, `Made` of the place where they begin, and where `Begin` of
-- that place begins there are these states
pub record Lays (count : ℕ) (Made : Machine → ℕ → Type 0) (Begin : ℕ → ℕ → Type 0) (states : States) (old new : Machine) : Type 0 where
  pub grows : Grows old new
  pub counted : length new.leaves ≡ length old.leaves + count
  pub made : Made new (length old.leaves)
  pub begins : IsSet states (Begin (length old.leaves))
  pub within : UpToEnd states

-- a path was compiled, with what begins in some states after it
abbrev pub LaysPath : PathTree → States → States → Machine → Machine → Type 0
LaysPath path after = Lays (leaves path)
    (λ machine base. Compiled machine path base (IsIn after)) (λ base. Begins path base (IsIn after))

-- the same of parts that are read one after another
abbrev pub LaysInTurn : PathTrees → States → States → Machine → Machine → Type 0
LaysInTurn parts after = Lays (leaves_of parts)
    (λ machine base. CompiledInTurn machine parts base (IsIn after)) (λ base. BeginsInTurn parts base (IsIn after))

-- the same of parts of which one is read
abbrev pub LaysEach : PathTrees → States → States → Machine → Machine → Type 0
LaysEach parts after = Lays (leaves_of parts)
    (λ machine base. CompiledEach machine parts base (IsIn after)) (λ base. BeginsSome parts base (IsIn after))
