-- The plan that a database has for a select, and what is shown of it.
use Rattle.std.specs.Prelude.{◌≡◌, ◌≢◌, ℕ, List, length, Option, AllPairs}
use Rattle.lore_base.specs.Databases.{Database}
use Rattle.lore_base.specs.Paths.{Reaches}
use Rattle.lore_base.specs.TargetSets.{AreTargetSets}
use Rattle.lorel_trees.specs.Trees.{SelectTree}
use Rattle.index_traits.specs.Entries.{AreValueEntries}
use Rattle.lorel_bound.specs.Bound.{BoundTree}
use Rattle.lorel_bind.specs.Bindings.{IsBinding}
use Rattle.planner.specs.Choices.{AreCounts, kind_by}
use Rattle.statements.specs.Types.{Oid, ValueEntry, PlanKind, Reply, PlanShown}

-- what is counted for a plan of a bound select, over the value entries of the database and along its edges, whose
-- labels have a text each of their own
pub record AreCountsOver (db : Database) (bound : BoundTree) (candidates found : Option ℕ) : Type 0 where
  pub apart : AllPairs (λ a b. a ≢ b) db.labels
  pub entries : List ValueEntry
  pub are_entries : AreValueEntries db.graph.objects db.graph.edges entries
  pub counted : AreCounts db.labels entries (Reaches db.labels db.graph.edges) bound candidates found

-- the plan is of this kind in the mode of the database, by these counts and the numbers of objects and of sets that
-- label paths lead to
pub record IsKindOver (db : Database) (candidates found : Option ℕ) (kind : PlanKind) : Type 0 where
  pub sets : List (List Oid)
  pub are_sets : AreTargetSets db.graph.names db.graph.edges sets
  pub is : kind ≡ kind_by db.mode candidates found (length sets) (length db.graph.objects)

-- the plan that the database has for a select: its binding, the kind of plan, and what was counted for it
pub record IsPlanFor (db : Database) (query : SelectTree) (bound : BoundTree) (kind : PlanKind)
    (candidates found : Option ℕ) : Type 0 where
  pub binding : IsBinding db.graph.names query bound
  pub counts : AreCountsOver db bound candidates found
  pub kind_is : IsKindOver db candidates found kind

-- the reply shows that plan
pub record ShowsPlan (db : Database) (query : SelectTree) (reply : Reply) : Type 0 where
  pub bound : BoundTree
  pub kind : PlanKind
  pub candidates : Option ℕ
  pub found : Option ℕ
  pub plan : IsPlanFor db query bound kind candidates found
  pub is : reply ≡ PlanShown kind candidates found
