use Rattle.std.proofs.Common.{List, ◌++◌, sym, ap, ◌∙◌}
use Rattle.lore_base.specs.Walks.{out_of}
use Rattle.edge_layers.specs.Types.{Edge, Out}
use Rattle.edge_layers.proofs.TurnLaws.{fresh_only}
use Rattle.edge_layers.proofs.ViewLaws.{no-edges}
use Rattle.edge_layers.proofs.layers.push_leaving.Goals as goal

pub returns-then-not-has_list-clause-ok : goal.returns-then-not-has_list-clause-ok
returns-then-not-has_list-clause-ok c = (
  out_of c.args.oid c.args.fresh.now,
  c.in_ok-append_run.ensures.ok ∙ ap (λ (l : List Edge). c.args.buf.now ++ l) c.requires.own,
  fresh_only Out c.args.records.now c.args.lost.now c.args.fresh.now c.args.oid c.requires.fresh
      (no-edges Out c.args.objects.now c.args.records.now c.requires.chained c.args.oid (sym c.has_list.ensures ∙ c.if-not-has_list.true)),
)
