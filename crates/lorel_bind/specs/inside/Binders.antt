-- What the program binds a condition by, and how it binds one.
use Rattle.std.specs.Prelude.{◌≡◌, ℕ, List, length}
use denote.Ref.{Bor}
use Rattle.lorel_trees.specs.Trees.{RootedTree, OperandTree, CondTree, CondTrees}
use Rattle.lorel_ranges.specs.Places.{Place, Scope, place_of}
use Rattle.lorel_bound.specs.Conditions.{OperandOf, CondOf, CondsOf}
use Rattle.lorel_ranges.specs.Conditions.{operand_in, cond_in, conds_in}
use Rattle.lorel_ranges.specs.Ranges.{PlacedRange, places}
use Rattle.lorel_bound.specs.Bound.{BoundPathTree}
use Rattle.lorel_bind.specs.Bindings.{CorrespondOperands, Correspond, CorrespondEach}
use Rattle.lorel_ranges.specs.Scopes.{enclosed, IsScope, names_of}
use Rattle.lorel_ranges.specs.Views.{place_trees, ranges_of, texts}
use Rattle.lorel_bind.specs.inside.Slots.{BindsPath}
use Rattle.lorel_bind.specs.declared.conditions.Binder.{Binder}

-- a binder has the variables of the scope and the places of the plain ranges
pub record Serves (binder : Binder) (plain : List PlacedRange) (scope : Scope) : Type 0 where
  pub known : IsScope (names_of binder.variables.now) scope
  pub places : places plain ≡ place_trees binder.plain.now

-- it binds a path by its slots
abbrev pub Binds : Binder → List PlacedRange → Place → BoundPathTree → Type 0
Binds binder plain = BindsPath binder.slots.now.names.now (ranges_of binder.slots.now.fused.items) plain

-- within the quantifiers of these variables, the outermost first
module _ (binder : Binder) (quantified : List (Bor (List ℕ))) where
  abbrev pub BindsRooted : RootedTree → BoundPathTree → Type 0
  BindsRooted path bound = (plain : List PlacedRange) (scope : Scope) → Serves binder plain scope
      → Binds binder plain (place_of (enclosed 0 (texts quantified) scope) path) bound

  abbrev pub BindsOperand : OperandTree → OperandOf BoundPathTree → Type 0
  BindsOperand operand bound = (plain : List PlacedRange) (scope : Scope) → Serves binder plain scope
      → CorrespondOperands (Binds binder plain) (operand_in (enclosed 0 (texts quantified) scope) operand) bound

  abbrev pub BindsCond : CondTree → CondOf BoundPathTree → Type 0
  BindsCond cond bound = (plain : List PlacedRange) (scope : Scope) → Serves binder plain scope
      → Correspond (Binds binder plain) (cond_in (enclosed 0 (texts quantified) scope) (length quantified) cond) bound

  abbrev pub BindsEach : CondTrees → CondsOf BoundPathTree → Type 0
  BindsEach conds bound = (plain : List PlacedRange) (scope : Scope) → Serves binder plain scope
      → CorrespondEach (Binds binder plain) (conds_in (enclosed 0 (texts quantified) scope) (length quantified) conds) bound
