use Rattle.std.proofs.Common.{List, ◌++◌, sym, ap, ◌∙◌}
use Rattle.edge_layers.specs.Types.{Edge}
use Rattle.edge_layers.proofs.LayerLaws.{none_there}
use Rattle.edge_layers.proofs.TurnLaws.{kept_only}
use Rattle.edge_layers.proofs.layers.push_listed.Goals as goal

pub returns-then-is_empty-2-clause-ok : goal.returns-then-is_empty-2-clause-ok
returns-then-is_empty-2-clause-ok c =
    let no_fresh = sym c.requires.own ∙ none_there c.args.new.now c.is_empty.result c.is_empty.ensures c.if-is_empty.true in
    let no_lost = sym c.run_of-gone.ensures ∙ none_there c.run_of-gone.result.now c.is_empty-then-is_empty.result c.is_empty-then-is_empty.ensures c.if-is_empty-2.true in
    kept_only c.args.records.now c.args.lost.now c.args.fresh.now c.args.oid c.args.buf.now c.push_list.new.found c.in_ok-push_list.ensures.ok no_lost no_fresh

pub returns-clause-ok : goal.returns-clause-ok
returns-clause-ok c = (
  c.in_ok-list.list,
  c.in_ok-append.ensures.ok ∙ ap (λ (l : List Edge). c.args.buf.now ++ l) c.as_slice.ensures,
  c.in_ok-list.ensures,
)
