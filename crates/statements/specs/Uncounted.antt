-- Statements that read no edge, so that no step is counted for them.
use Rattle.std.specs.Prelude.{◌≡◌, ℕ, ◌≤◌, length, Option, Some, None}
use Rattle.lore_base.specs.Databases.{Database}
use Rattle.lorel_trees.specs.Trees.{SelectTree, StatementTree, select, explain, guide, browse, sample}
use Rattle.lorel_trees.specs.Trees.{set_nodes, set_plan, generate}
use Rattle.lorel_bound.specs.Bound.{BoundTree}
use Rattle.lorel_bind.specs.Bindings.{IsBinding}
use Rattle.lorel_bound.specs.SlotRows.{ShowsObjects}
use Rattle.statements.specs.Types.{PlanKind}
use Rattle.statements.specs.Types.plan_kinds
use Rattle.statements.specs.Forms.{AreGenerable}
use Rattle.statements.specs.Plans.{AreCountsOver, IsKindOver}

-- there is at most one range, no condition, and no cell that shows a word
abbrev pub IsPlain : BoundTree → Type 0
IsPlain bound = (length bound.ranges ≤ 1) × (bound.cond ≡ None) × ShowsObjects bound

-- a select of which this holds once it is bound
abbrev pub IsPlainSelect : Database → SelectTree → Type 0
IsPlainSelect db query = (bound : BoundTree) × IsBinding db.graph.names query bound × IsPlain bound

-- a plan by which no edge is read: the guide tells all of a plain select; or the values that are begun from are none
abbrev pub IsQuietPlan : BoundTree → PlanKind → Option ℕ → Type 0
IsQuietPlan bound plan_kinds.Guided candidates = IsPlain bound
IsQuietPlan bound plan_kinds.Bottom candidates = candidates ≡ Some 0
IsQuietPlan bound plan_kinds.Top candidates = ⊥

-- the database has such a plan for a bound select
pub record IsQuietBound (db : Database) (bound : BoundTree) : Type 0 where
  pub kind : PlanKind
  pub candidates : Option ℕ
  pub found : Option ℕ
  pub counts : AreCountsOver db bound candidates found
  pub kind_is : IsKindOver db candidates found kind
  pub quiet : IsQuietPlan bound kind candidates

-- and for a select
abbrev pub IsQuietSelect : Database → SelectTree → Type 0
IsQuietSelect db query = (bound : BoundTree) × IsBinding db.graph.names query bound × IsQuietBound db bound

-- a select by such a plan, a plan that is shown, the guide, what is shown of it along a label path, what is
-- set, and objects that are refused since a number is out of range
abbrev pub ReadsNoEdge : Database → StatementTree → Type 0
ReadsNoEdge db (select query) = IsQuietSelect db query
ReadsNoEdge db (explain query) = Unit {0}
ReadsNoEdge db guide = Unit {0}
ReadsNoEdge db (browse start labels) = Unit {0}
ReadsNoEdge db (sample start labels count) = Unit {0}
ReadsNoEdge db (set_nodes nodes) = Unit {0}
ReadsNoEdge db (set_plan mode) = Unit {0}
ReadsNoEdge db (generate seed count) = ¬ AreGenerable seed count
ReadsNoEdge db statement = ⊥
