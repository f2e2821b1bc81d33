use Rattle.std.proofs.Common.{[], ◌∷◌}
use Rattle.edge_lists.specs.Types.{Out, In}
use Rattle.edge_lists.proofs.ChangeLaws.{contains-from, apart_from, next_of_new, joined_chain, other_chain, out_in, once_at}
use Rattle.edge_lists.proofs.changes.put_in.Goals as goal

pub join-requires-clause-place : goal.join-requires-clause-place
join-requires-clause-place c =
    let w = c.requires.chained in
    contains-from c.args.records.now (c.args.key ∷ w.0) _ _ c.spot_near-spot.result.place (c.spot_near-spot.ensures.place (c.args.key ∷ w.0) w.1 w.2 w.3)

pub join-requires-clause-next : goal.join-requires-clause-next
join-requires-clause-next c =
    let w = c.requires.chained in
    contains-from c.args.records.now (c.args.key ∷ w.0) _ _ _
    (next_of_new In c.args.objects.now c.args.records.now c.args.key w.0 w.1 c.args.edge.now
    (once_at Out c.args.objects.now c.args.records.now c.requires.out c.args.edge.now c.args.key c.requires.lies)
    c.spot_near-spot.result.place c.spot_near-spot.result.next c.spot_near-spot.ensures.next (c.spot_near-spot.ensures.place (c.args.key ∷ w.0) w.1 w.2 w.3))

pub join-requires-clause-apart : goal.join-requires-clause-apart
join-requires-clause-apart c =
    let w = c.requires.chained in
    apart_from c.args.records.now c.args.key w.0 _ _ c.spot_near-spot.result.place (c.spot_near-spot.ensures.place (c.args.key ∷ w.0) w.1 w.2 w.3)

pub join-requires-clause-new : goal.join-requires-clause-new
join-requires-clause-new c =
    let w = c.requires.chained in
    apart_from c.args.records.now c.args.key w.0 _ _ _
    (next_of_new In c.args.objects.now c.args.records.now c.args.key w.0 w.1 c.args.edge.now
    (once_at Out c.args.objects.now c.args.records.now c.requires.out c.args.edge.now c.args.key c.requires.lies)
    c.spot_near-spot.result.place c.spot_near-spot.result.next c.spot_near-spot.ensures.next (c.spot_near-spot.ensures.place (c.args.key ∷ w.0) w.1 w.2 w.3))

pub returns : goal.returns
returns c = record {
  edges = c.join.ensures.edges;
  objects = c.join.ensures.objects;
  ascend = c.join.ensures.ascend;
  out = other_chain In Out out_in c.args.objects.now c.join.new.objects c.args.records.now c.join.new.records c.join.ensures.edges c.join.ensures.others [] c.requires.out;
  entering = λ waiting out chained among start.
      joined_chain In c.args.objects.now c.join.new.objects c.args.records.now c.join.new.records c.args.key waiting c.args.edge.now c.spot_near-spot.result.place
      chained c.requires.lies out
      (once_at Out c.args.objects.now c.args.records.now c.requires.out c.args.edge.now c.args.key c.requires.lies)
      (c.spot_near-spot.ensures.place (c.args.key ∷ waiting) chained among start) c.join.ensures;
}
