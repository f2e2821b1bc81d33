use Rattle.std.proofs.Common.{List, ◌++◌, map, refl, sym, ap, ◌∙◌}
use Rattle.std.specs.List.{filter}
use Rattle.lore_base.specs.Walks.{out_of}
use Rattle.edge_layers.specs.Types.{Edge, In}
use Rattle.edge_layers.specs.Turned.{turn, has_label}
use Rattle.edge_layers.proofs.LayerLaws.{none_there}
use Rattle.edge_layers.proofs.TurnLaws.{fresh_only}
use Rattle.edge_layers.proofs.ViewLaws.{no-edges}
use Rattle.edge_layers.proofs.EnterLaws.{entering_kept}
use Rattle.edge_layers.proofs.layers.push_entering.Goals as goal

pub returns-then-not-has_list-clause-ok : goal.returns-then-not-has_list-clause-ok
returns-then-not-has_list-clause-ok c = (
  map (turn In) (filter (has_label c.args.given) (out_of c.args.oid c.args.fresh.now)),
  c.in_ok-push_turned.ensures.ok ∙ ap (λ (l : List Edge). c.args.buf.now ++ map (turn In) (filter (has_label c.args.given) l)) c.run_of-new.ensures,
  (
    out_of c.args.oid c.args.fresh.now,
    fresh_only In c.args.records.now c.args.lost.now c.args.fresh.now c.args.oid c.requires.fresh
        (no-edges In c.args.objects.now c.args.records.now c.requires.chained c.args.oid (sym c.has_list.ensures ∙ c.if-not-has_list.true)),
    refl,
  ),
)

pub returns-then-is_empty-2-clause-ok : goal.returns-then-is_empty-2-clause-ok
returns-then-is_empty-2-clause-ok c =
    let no_fresh = sym c.run_of-new.ensures ∙ none_there c.run_of-new.result.now c.is_empty.result c.is_empty.ensures c.if-is_empty.true in
    let no_lost = sym c.run_of.ensures ∙ none_there c.run_of.result.now c.is_empty-then-is_empty.result c.is_empty-then-is_empty.ensures c.if-is_empty-2.true in
    entering_kept c.args.records.now c.args.lost.now c.args.fresh.now c.args.oid c.args.given c.is_none.result c.args.buf.now c.push_list.new.found
    c.is_none.ensures c.if-is_none.true c.in_ok-push_list.ensures.ok no_lost no_fresh

pub returns-clause-ok : goal.returns-clause-ok
returns-clause-ok c = (
  map (turn In) (filter (has_label c.args.given) c.in_ok-list.list),
  c.in_ok-push_turned-2.ensures.ok ∙ ap (λ (l : List Edge). c.args.buf.now ++ map (turn In) (filter (has_label c.args.given) l)) c.as_slice.ensures,
  (c.in_ok-list.list, c.in_ok-list.ensures, refl),
)
