use Rattle.std.proofs.Common.{◌≡◌, ◌++◌, map, take}
use Rattle.dump_text.specs.Dumps.{ended_lines, edge_line, spelled_edge}
use Rattle.dump_text.proofs.writing.put_edges.Given as goal

abbrev pub invariant-edges : goal.invariant-edges
invariant-edges l = l.dump ≡ l.fn.dump ++ ended_lines (map (λ edge. edge_line (spelled_edge l.labels edge)) (take l.edge-index l.edges))
