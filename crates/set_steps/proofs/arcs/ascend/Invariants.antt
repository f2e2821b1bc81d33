use Rattle.std.proofs.Common.{◌≡◌, ℕ, ◌+◌, ◌<◌, Less, get_or}
use Rattle.set_steps.specs.Types.{Oid, Label}
use Rattle.set_steps.specs.inside.Arcs.{arc_cmp}
use Rattle.set_steps.proofs.arcs.ascend.Given as goal

abbrev pub invariant-arcs : goal.invariant-arcs
invariant-arcs l =
    (k : ℕ) (d : Label × Oid) → k + 1 < l.place → arc_cmp (get_or l.arcs k d) (get_or l.arcs (k + 1) d) ≡ Less
