use Rattle.std.proofs.Common.{◌≡◌, ◌+◌, take}
use Rattle.std.specs.List.{sum_by}
use Rattle.least_words.specs.inside.Arcs.{LeadsBy, LeadsFromSome, AddsArcs, reads_at}
use Rattle.least_words.proofs.arcs.push_all.Given as goal

abbrev pub invariant-places : goal.invariant-places
invariant-places g l =
    let edges = g.A.Adjacent.edges l.graph in
    record {
      arcs : AddsArcs (LeadsFromSome (LeadsBy l.fn.mover.labels l.fn.mover.machine edges) (take l.place-index l.places)) l.fn.arcs.items l.arcs.items;
      steps : l.steps ≡ l.fn.steps + sum_by (reads_at edges) (take l.place-index l.places);
      same : l.mover ≡ l.fn.mover;
    }
