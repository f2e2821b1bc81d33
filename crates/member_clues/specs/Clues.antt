-- What a clue of a condition is: its path leads from the object in a slot to a value that compares so with a given one, or to an
-- object that another path reaches, and that can be sought.
use Rattle.std.specs.Prelude.{◌≡◌, ℕ, Bool, true, List, Some, slice_get}
use Rattle.lore_base.specs.Paths.{PathTree, path_tree}
use Rattle.index_traits.specs.Entries.{IsProbed}
use Rattle.lorel_bound.specs.Bound.{BoundPathTree}
use Rattle.lorel_bound.specs.Conditions.{CondOf}
use Rattle.lorel_bound.specs.Plans.{IsLabelOf}
use Rattle.planner.specs.Ends.{EndsIn}
use Rattle.member_clues.specs.Types.{BoundStart}
use Rattle.member_clues.specs.Types.bound_starts
use Rattle.member_clues.specs.Asked.{given_operand, asked_of, IsOutside, IsOperandOutside, Follows}
use Rattle.member_clues.specs.declared.clues.Clue.{Clue}
use Rattle.member_clues.specs.declared.clues.End.{End}
use Rattle.member_clues.specs.declared.clues.End.TheVariants as e
use Rattle.member_clues.specs.declared.clues.Comparison.{Comparison}
use Rattle.member_clues.specs.declared.clues.Given.{Given}
use Rattle.member_clues.specs.declared.clues.Given.TheVariants as given

-- what compares so can be sought: the path ends in the label, and no quantifier tells what is given
pub record CanBeSought (labels : List (List ℕ)) (rest : PathTree) (own : Comparison) : Type 0 where
  pub probed : IsProbed own.op
  pub text : List ℕ
  pub ends : EndsIn rest text
  pub labelled : IsLabelOf labels text own.label
  pub outside : IsOperandOutside (given_operand own.given)

-- and so for the end of a path; what is met starts at no quantifier
abbrev pub IsEnd : List (List ℕ) → PathTree → End → Type 0
IsEnd labels rest (e.Compared own) = CanBeSought labels rest own
IsEnd labels rest (e.Met own) = IsOutside own.start

-- the condition asks for what the clue tells
pub record IsClueOf (labels : List (List ℕ)) (condition : CondOf BoundPathTree) (clue : Clue) : Type 0 where
  pub follows : Follows labels condition (asked_of clue.slot clue.through clue.way clue.end)
  pub end_is : IsEnd labels (path_tree clue.way) clue.end

-- a start is a name, or a known slot
abbrev pub IsStartGiven : List Bool → BoundStart → Type 0
IsStartGiven known (bound_starts.Slot slot) = slice_get known slot ≡ Some true
IsStartGiven known (bound_starts.Named named) = Unit {0}
IsStartGiven known (bound_starts.Quantified depth) = ⊥

-- what is given depends on known slots alone
abbrev pub IsGivenBy : List Bool → Given → Type 0
IsGivenBy known (given.Atom value) = Unit {0}
IsGivenBy known (given.At start route) = IsStartGiven known start

-- and so for the end of a clue
abbrev pub IsEndGiven : List Bool → End → Type 0
IsEndGiven known (e.Compared own) = IsGivenBy known own.given
IsEndGiven known (e.Met own) = IsStartGiven known own.start
