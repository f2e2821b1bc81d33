use Rattle.std.proofs.Common.{◌≡◌, ℕ, ◌<◌, List, get_or, take, map, Contains}
use Rattle.dump_text.specs.Types.{Oid}
use Rattle.dump_text.specs.Rules.{numbered_edge}
use Rattle.dump_text.proofs.edges.numbered_edges.Given as goal

abbrev pub invariant-entries : goal.invariant-entries
invariant-entries l = record {
  edges : l.edges ≡ map (numbered_edge l.labels) (take l.entry-index l.fn.entries);
  labelled : (k : ℕ) (d : Oid × List ℕ × Oid) → k < l.entry-index → Contains l.labels (get_or l.fn.entries k d).1;
}
