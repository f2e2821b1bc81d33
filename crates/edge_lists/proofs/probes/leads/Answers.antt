use Rattle.std.proofs.Common.{sym, ap}
use Rattle.edge_lists.specs.Records.{edge_in}
use Rattle.edge_lists.proofs.probes.leads.Goals as goal

pub returns : goal.returns
returns c = λ _. record {
  later = c.in-Some.found.now.edge;
  lies = ap edge_in (sym c.in-Some.ensures);
  before = c.precedes.ensures.0 c.if-not-precedes.false;
  behind = c.lies_before.ensures c.if-not-lies_before.false;
  other = c.is_among.ensures c.if-is_among.false;
}
