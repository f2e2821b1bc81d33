-- The locals of the literal that a statement makes objects of, and what ends the work on the rows of an update.
use Rattle.std.specs.Prelude.{◌≡◌, ◌⊎◌, Option, IfSome, MatchOption}
use Rattle.statements.specs.Types.{Refusal}
use Rattle.statements.specs.Types.refusals
use Rattle.lore_base.specs.Databases.{Database}
use Rattle.lore_base.specs.Verdicts.{IsClear, IsToldBy}
use Rattle.lorel_trees.specs.Trees.{StatementTree}
use Rattle.lorel_bound.specs.Bound.{BoundTree}
use Rattle.lorel_bound.specs.SlotRows.{IsSlotRow}
use Rattle.answers.specs.Asked.{AreTooMany}
use Rattle.oem_text.specs.Parts.{LocalCause, local_order}
use Rattle.statements.specs.Forms.{makes}

-- no local of the literal is wrong
abbrev pub HasSoundLocals : StatementTree → Type 0
HasSoundLocals statement =
    MatchOption (makes statement) (Unit {0}) (λ literal. IsClear (LocalCause literal) local_order)

-- the cause of each refusal of its locals
abbrev pub MadeLocals : StatementTree → Refusal → Type 0
MadeLocals statement refusal = MatchOption (makes statement) ⊥ (λ literal. LocalCause literal refusal)

-- a local is wrong; or none is, and there are too many rows
abbrev pub StopsRows : Database → StatementTree → BoundTree → Option Refusal → Type 0
StopsRows db statement bound told =
    IsToldBy (MadeLocals statement) local_order told
    ⊎ (HasSoundLocals statement
    × IfSome told (λ refusal. (refusal ≡ refusals.TooManyRows) × AreTooMany (IsSlotRow db bound)))
