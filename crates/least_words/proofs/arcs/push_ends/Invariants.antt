use Rattle.std.proofs.Common.{◌≡◌, take}
use Rattle.least_words.specs.inside.Arcs.{AddsArcs, IsNext}
use Rattle.least_words.proofs.arcs.push_ends.Given as goal

abbrev pub invariant-edges : goal.invariant-edges
invariant-edges g l = record {
  arcs : AddsArcs (IsNext l.fn.mover.labels l.fn.mover.machine l.states (take l.edge-index l.edges)) l.fn.arcs.items l.arcs.items;
  same : l.mover ≡ l.fn.mover;
}
