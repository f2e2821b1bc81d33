-- What a literal brings to a database, and why it is refused.
use Rattle.std.specs.Prelude.{◌≡◌, ℕ, ◌+◌, ◌<◌, List, [], ◌∷◌, ◌++◌, length}
use Rattle.oem_text.specs.Types.{Refusal, LABELS, NEXT_NUMBER}
use Rattle.oem_text.specs.Types.refusals
use Rattle.lore_base.specs.Walks.{oid_of}
use Rattle.lorel_trees.specs.Trees.{LiteralTree}
use Rattle.oem_labels.specs.Labels.{first_uses}
use Rattle.oem_text.specs.Literals.{bodies, labels_of, objects_of, edges_of, HasDouble, HasUndefined}
use Rattle.oem_text.specs.declared.parts.Part.{Part}

-- the part is what the literal makes, numbered from `next` on, with the labels that this table lacks
pub record IsPart (table : List (List ℕ)) (next : ℕ) (literal : LiteralTree) (part : Part) : Type 0 where
  pub made : part.made ≡ objects_of next literal
  pub added : part.added ≡ edges_of next (table ++ part.labels) literal
  pub labels : part.labels ≡ first_uses table (labels_of literal)
  pub root : part.root ≡ oid_of next

-- the cause of each refusal of a literal's locals
abbrev pub LocalCause : LiteralTree → Refusal → Type 0
LocalCause literal refusals.DuplicateLocal = HasDouble literal
LocalCause literal refusals.UndefinedLocal = HasUndefined literal
LocalCause literal _ = ⊥

-- the cause of each refusal of a literal that is numbered from `next` on, where the table has these texts
abbrev pub PartCause : List (List ℕ) → ℕ → LiteralTree → Refusal → Type 0
PartCause table next literal refusals.OidsSpent = NEXT_NUMBER < next + length (bodies literal)
PartCause table next literal refusals.TooManyLabels = LABELS < length table + length (first_uses table (labels_of literal))
PartCause table next literal refusal = LocalCause literal refusal

-- the order in which causes are tried: those of its locals alone, and all of them
abbrev pub local_order : List Refusal
local_order = refusals.DuplicateLocal ∷ refusals.UndefinedLocal ∷ []

abbrev pub part_order : List Refusal
part_order =
    refusals.DuplicateLocal ∷ refusals.UndefinedLocal ∷ refusals.OidsSpent ∷ refusals.TooManyLabels ∷ []
