use Rattle.std.proofs.Common.{◌≡◌, ◌≤◌, length, map}
use Rattle.plan_ops.specs.Rows.{IsToCome, AreSame, ReadNothing, work_left}
use Rattle.plan_ops.specs.inside.Machines.{IsMachine}
use Rattle.plan_ops.specs.inside.Ready.{ready_tree}
use Rattle.plan_ops.specs.inside.Keeping.{AreKeptBy}
use Rattle.row_hints.specs.Told.{AreTold}
use Rattle.plan_ops.proofs.machine.next_row.Given as goal

abbrev pub invariant-partials : goal.invariant-partials
invariant-partials g l =
    let over = g.S.Offers.over l.sources in
    let plan = map ready_tree l.ready in
    record {
      machine : IsMachine over plan l.partials.items;
      kept : AreKeptBy over l.ready l.kept.items;
      told : AreTold (g.S.Hints.hints l.sources) l.learned.told.items;
      same : AreSame (IsToCome over plan l.fn.partials.items) (IsToCome over plan l.partials.items);
      lighter : work_left (length plan) l.partials.items ≤ work_left (length plan) l.fn.partials.items;
      quiet : ReadNothing over plan l.fn.partials.items → (l.steps ≡ l.fn.steps) × ReadNothing over plan l.partials.items;
    }

abbrev pub decreases-partials : goal.decreases-partials
decreases-partials g l = work_left (length (map ready_tree l.ready)) l.partials.items
