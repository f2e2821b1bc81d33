use Rattle.std.proofs.Common.{◌≡◌, List, [], length}
use Rattle.std.specs.Prelude.{◌⊎◌, ◌↔◌}
use Rattle.lorel_bound.specs.Bound.{bound_tree}
use Rattle.lorel_bound.specs.Plans.{steps_of}
use Rattle.lorel_bound.specs.SlotRows.{ShowsObjects}
use Rattle.plan_ops.specs.Rows.{work_left}
use Rattle.answers.specs.Types.{Oid, Cell}
use Rattle.answers.specs.Asked.{ShowsAsked}
use Rattle.answers.specs.inside.Showing.{IsNoted}
use Rattle.answers.proofs.RowLaws.{AreLeft, AreQuietLeft, IsShownOf}
use Rattle.answers.proofs.rows.all_rows.Given as goal

abbrev pub invariant-rows : goal.invariant-rows
invariant-rows g l =
    let left = AreLeft g.A.Adjacent.edges g.K.Links.edges g.V.Values.entries g.P.Paths.reaches g.T.RowTest.passes in
    let quiet_left = AreQuietLeft g.A.Adjacent.edges g.K.Links.edges g.V.Values.entries g.P.Paths.reaches g.T.RowTest.passes in
    record {
      select : IsShownOf l.labels (g.A.Adjacent.edges l.graph) l.bound l.shown;
      kept : (slots : List Oid) → left l.rows slots → left l.fn.rows slots;
      noted : (row : List Cell) → ShowsAsked l.labels (g.A.Adjacent.edges l.graph) (bound_tree l.bound) (left l.fn.rows) row
          ↔ (IsNoted l.shown row ⊎ ShowsAsked l.labels (g.A.Adjacent.edges l.graph) (bound_tree l.bound) (left l.rows) row);
      quiet : quiet_left l.fn.rows → ShowsObjects (bound_tree l.bound) ⊎ ((slots : List Oid) → left l.fn.rows slots → ⊥)
          → (l.steps ≡ l.fn.steps) × quiet_left l.rows × (l.shown.waiting ≡ []);
    }

abbrev pub decreases-rows : goal.decreases-rows
decreases-rows g l = work_left (length (steps_of l.rows.plan)) l.rows.partials
