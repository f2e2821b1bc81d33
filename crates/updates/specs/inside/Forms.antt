-- Why the changes of one form of update are refused.
use Rattle.std.specs.Prelude.{ℕ, List, [], ◌∷◌}
use Rattle.updates.specs.Types.{Changes, Refusal}
use Rattle.updates.specs.Types.refusals
use Rattle.lore_base.specs.Databases.{OemGraph}
use Rattle.lore_base.specs.ChangeCauses.{ChangeCause}
use Rattle.lorel_trees.specs.Trees.{LiteralTree}
use Rattle.oem_text.specs.Literals.{HasDouble, HasUndefined}
use Rattle.updates.specs.Effects.{Pair, targets, no_changes, copying}

-- the order in which causes are tried where no literal is copied
abbrev pub form_order : List Refusal
form_order = refusals.AtomicParent ∷ refusals.HasChildren ∷ refusals.OidsSpent ∷ refusals.TooManyLabels ∷ []

-- and where one is, behind the causes of its locals
abbrev pub grown_order : List Refusal
grown_order =
    refusals.AtomicParent ∷ refusals.HasChildren ∷ refusals.OidsSpent ∷ refusals.TooManyLabels
    ∷ refusals.TooManyObjects ∷ refusals.TooManyEdges ∷ []

-- what changes where the target of each row gets a copy of the literal
abbrev pub copies_by : List (List ℕ) → OemGraph → List ℕ → LiteralTree → List Pair → Changes
copies_by table graph label literal [] = no_changes
copies_by table graph label literal (row ∷ rows) = copying table graph.next label literal (targets (row ∷ rows))

-- the cause of each refusal of it, and the order in which they are tried
abbrev pub CopyCause : List (List ℕ) → OemGraph → List ℕ → LiteralTree → List Pair → Refusal → Type 0
CopyCause table graph label literal rows refusals.DuplicateLocal = HasDouble literal
CopyCause table graph label literal rows refusals.UndefinedLocal = HasUndefined literal
CopyCause table graph label literal rows refusal = ChangeCause table graph (copies_by table graph label literal rows) refusal

abbrev pub copy_order : List Refusal
copy_order = refusals.DuplicateLocal ∷ refusals.UndefinedLocal ∷ grown_order
