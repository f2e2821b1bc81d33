-- The law of live views: a change that doesn't concern a select whose paths all start somewhere leaves its
-- answer.
use Rattle.std.specs.Prelude.{◌≡◌, ◌≢◌, ◌↔◌, ℕ, ◌<◌, List, [], ◌++◌}
use Rattle.view_laws.specs.Types.{Delta}
use Rattle.lore_base.specs.Databases.{Database, IsValid}
use Rattle.lore_base.specs.Deltas.{IsDelta}
use Rattle.lorel_trees.specs.Trees.{SelectTree}
use Rattle.lorel_bind.specs.Types.{Cell}
use Rattle.lorel_bound.specs.Answers.{IsTooMuch}
use Rattle.lorel_bind.specs.Answers.{IsRow, IsAnswer}
use Rattle.lorel_bind.specs.Refusals.{StartsNowhere, IsAccepted}
use Rattle.live_views.specs.Concerns.{Concerns}

-- what goes and comes leads from one valid database to another one, which may have further labels
pub record IsChange (before after : Database) (delta : Delta) : Type 0 where
  pub before_valid : IsValid before
  pub after_valid : IsValid after
  pub new_labels : List (List ℕ)
  pub labels : after.labels ≡ before.labels ++ new_labels
  pub differs : IsDelta before.graph after.graph delta

-- a path of the select starts at an identifier that is neither a variable in scope nor a name
abbrev pub HasLostStart : Database → SelectTree → Type 0
HasLostStart db query = (start : List ℕ) × StartsNowhere db.graph.names query start

-- where a change doesn't concern a select whose paths all start somewhere, the rows before are those after.
-- Of another select, which is refused, a row may have any object at a place whose start is lost
abbrev pub UnconcernedKeepsRows : Type 0
UnconcernedKeepsRows = (before after : Database) (delta : Delta) (query : SelectTree)
    → IsChange before after delta
    → (¬ HasLostStart before query) → (¬ Concerns after.labels query delta)
    → (row : List Cell) → IsRow before query row ↔ IsRow after query row

-- and so the answer before is the answer after
abbrev pub UnconcernedKeepsAnswer : Type 0
UnconcernedKeepsAnswer = (before after : Database) (delta : Delta) (query : SelectTree)
    → IsChange before after delta
    → (¬ HasLostStart before query) → (¬ Concerns after.labels query delta)
    → (rows : List (List Cell)) → IsAnswer before query rows ↔ IsAnswer after query rows

-- the select is accepted, and these rows are its answer
pub record IsFresh (db : Database) (query : SelectTree) (rows : List (List Cell)) : Type 0 where
  pub accepted : IsAccepted db.graph.names query
  pub answer : IsAnswer db query rows
  pub few : ¬ IsTooMuch rows

-- where a change doesn't concern a select, rows that are fresh before it are fresh after it
abbrev pub FreshStays : Type 0
FreshStays = (before after : Database) (delta : Delta) (query : SelectTree) (rows : List (List Cell))
    → IsChange before after delta → (¬ Concerns after.labels query delta)
    → IsFresh before query rows → IsFresh after query rows

-- a select that has an item is accepted only where some object is there; so the next number is above 1 then
abbrev pub AcceptedNeedsObject : Type 0
AcceptedNeedsObject = (db : Database) (query : SelectTree) → IsValid db → query.items ≢ []
    → IsAccepted db.graph.names query → 1 < db.graph.next
