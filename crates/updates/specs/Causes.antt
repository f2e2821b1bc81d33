-- Why an update is refused once its rows are known.
use Rattle.std.specs.Prelude.{◌≢◌, ℕ, List, [], ◌∷◌, Option, Some, None, All, MatchOption}
use Rattle.updates.specs.Types.{Oid, Refusal}
use Rattle.updates.specs.Types.refusals
use Rattle.lore_base.specs.Databases.{OemGraph, IsRooted, IsLive}
use Rattle.lore_base.specs.ChangeCauses.{ChangeCause}
use Rattle.lorel_trees.specs.Trees.{LiteralTree, StatementTree, add_new}
use Rattle.lorel_trees.specs.UpdateRows.{rows_of}
use Rattle.oem_text.specs.Literals.{HasDouble, HasUndefined}
use Rattle.updates.specs.Effects.{Pair, changes_by}

-- the statement is one of the four forms of update
abbrev pub IsUpdate : StatementTree → Type 0
IsUpdate statement = rows_of statement ≢ None

-- the targets of the rows are objects of the graph
abbrev pub HasTargets : OemGraph → List Pair → Type 0
HasTargets graph rows = All (λ row. IsLive graph.objects row.0) rows

-- the literal that each target gets a copy of has this
abbrev pub OfLiteral : StatementTree → (LiteralTree → Type 0) → Type 0
OfLiteral (add_new target label literal tail) Has = Has literal
OfLiteral statement Has = ⊥

-- the cause of each refusal of an update over these rows
abbrev pub UpdateCause : List (List ℕ) → OemGraph → StatementTree → List Pair → Refusal → Type 0
UpdateCause table graph statement rows refusals.DuplicateLocal = OfLiteral statement HasDouble
UpdateCause table graph statement rows refusals.UndefinedLocal = OfLiteral statement HasUndefined
UpdateCause table graph statement rows refusal = ChangeCause table graph (changes_by table graph statement rows) refusal

-- the order in which causes are tried. How large the graph gets is told of copies alone, before they are made
abbrev pub update_order : StatementTree → List Refusal
update_order (add_new target label literal tail) =
    refusals.DuplicateLocal ∷ refusals.UndefinedLocal ∷ refusals.AtomicParent ∷ refusals.HasChildren
    ∷ refusals.OidsSpent ∷ refusals.TooManyLabels ∷ refusals.TooManyObjects ∷ refusals.TooManyEdges ∷ []
update_order statement =
    refusals.DuplicateLocal ∷ refusals.UndefinedLocal ∷ refusals.AtomicParent ∷ refusals.HasChildren
    ∷ refusals.OidsSpent ∷ refusals.TooManyLabels ∷ []
