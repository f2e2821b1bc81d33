use Rattle.std.proofs.Common.{[], ◌∷◌}
use Rattle.edge_lists.specs.Types.{Out}
use Rattle.edge_lists.proofs.ProbeLaws.{own_among}
use Rattle.edge_lists.proofs.ChangeLaws.{contains-from, apart_from, next_of_new, ready, put_out_all}
use Rattle.edge_lists.proofs.changes.put_out.Goals as goal

pub spot_near-spot-requires-clause-chained : goal.spot_near-spot-requires-clause-chained
spot_near-spot-requires-clause-chained c =
    let made = ready Out c.args.objects.now c.args.records.now c.insert_reserved-key.new.self c.insert_reserved-key.result c.args.edge.now c.args.start c.alone.result
    c.alone.ensures c.insert_reserved-key.ensures.was_vacant c.insert_reserved-key.ensures.updates c.requires.new c.requires.chained c.requires.start in
    (c.insert_reserved-key.result ∷ [], made.chained, own_among Out c.insert_reserved-key.new.self c.insert_reserved-key.result c.args.edge.now [] made.lies, made.begins)

pub join-requires-clause-place : goal.join-requires-clause-place
join-requires-clause-place c =
    let made = ready Out c.args.objects.now c.args.records.now c.insert_reserved-key.new.self c.insert_reserved-key.result c.args.edge.now c.args.start c.alone.result
    c.alone.ensures c.insert_reserved-key.ensures.was_vacant c.insert_reserved-key.ensures.updates c.requires.new c.requires.chained c.requires.start in
    contains-from c.insert_reserved-key.new.self (c.insert_reserved-key.result ∷ []) _ _ c.spot_near-spot.result.place (c.spot_near-spot.ensures.place (c.insert_reserved-key.result ∷ []) made.chained (own_among Out c.insert_reserved-key.new.self c.insert_reserved-key.result c.args.edge.now [] made.lies) made.begins)

pub join-requires-clause-next : goal.join-requires-clause-next
join-requires-clause-next c =
    let made = ready Out c.args.objects.now c.args.records.now c.insert_reserved-key.new.self c.insert_reserved-key.result c.args.edge.now c.args.start c.alone.result
    c.alone.ensures c.insert_reserved-key.ensures.was_vacant c.insert_reserved-key.ensures.updates c.requires.new c.requires.chained c.requires.start in
    contains-from c.insert_reserved-key.new.self (c.insert_reserved-key.result ∷ []) _ _ _
    (next_of_new Out c.args.objects.now c.insert_reserved-key.new.self c.insert_reserved-key.result [] made.chained c.args.edge.now made.once
    c.spot_near-spot.result.place c.spot_near-spot.result.next c.spot_near-spot.ensures.next
    (c.spot_near-spot.ensures.place (c.insert_reserved-key.result ∷ []) made.chained (own_among Out c.insert_reserved-key.new.self c.insert_reserved-key.result c.args.edge.now [] made.lies) made.begins))

pub join-requires-clause-apart : goal.join-requires-clause-apart
join-requires-clause-apart c =
    let made = ready Out c.args.objects.now c.args.records.now c.insert_reserved-key.new.self c.insert_reserved-key.result c.args.edge.now c.args.start c.alone.result
    c.alone.ensures c.insert_reserved-key.ensures.was_vacant c.insert_reserved-key.ensures.updates c.requires.new c.requires.chained c.requires.start in
    apart_from c.insert_reserved-key.new.self c.insert_reserved-key.result [] _ _ c.spot_near-spot.result.place (c.spot_near-spot.ensures.place (c.insert_reserved-key.result ∷ []) made.chained (own_among Out c.insert_reserved-key.new.self c.insert_reserved-key.result c.args.edge.now [] made.lies) made.begins)

pub join-requires-clause-new : goal.join-requires-clause-new
join-requires-clause-new c =
    let made = ready Out c.args.objects.now c.args.records.now c.insert_reserved-key.new.self c.insert_reserved-key.result c.args.edge.now c.args.start c.alone.result
    c.alone.ensures c.insert_reserved-key.ensures.was_vacant c.insert_reserved-key.ensures.updates c.requires.new c.requires.chained c.requires.start in
    apart_from c.insert_reserved-key.new.self c.insert_reserved-key.result [] _ _ _
    (next_of_new Out c.args.objects.now c.insert_reserved-key.new.self c.insert_reserved-key.result [] made.chained c.args.edge.now made.once
    c.spot_near-spot.result.place c.spot_near-spot.result.next c.spot_near-spot.ensures.next
    (c.spot_near-spot.ensures.place (c.insert_reserved-key.result ∷ []) made.chained (own_among Out c.insert_reserved-key.new.self c.insert_reserved-key.result c.args.edge.now [] made.lies) made.begins))

pub returns : goal.returns
returns c =
    let made = ready Out c.args.objects.now c.args.records.now c.insert_reserved-key.new.self c.insert_reserved-key.result c.args.edge.now c.args.start c.alone.result
    c.alone.ensures c.insert_reserved-key.ensures.was_vacant c.insert_reserved-key.ensures.updates c.requires.new c.requires.chained c.requires.start in
    put_out_all c.args.objects.now c.join.new.objects c.args.records.now c.insert_reserved-key.new.self c.join.new.records c.insert_reserved-key.result
    c.args.edge.now c.args.start c.spot_near-spot.result.place c.alone.result c.alone.ensures
    c.insert_reserved-key.ensures.was_vacant c.insert_reserved-key.ensures.updates c.insert_reserved-key.ensures.len c.insert_reserved-key.ensures.capacity
    made (c.spot_near-spot.ensures.place (c.insert_reserved-key.result ∷ []) made.chained (own_among Out c.insert_reserved-key.new.self c.insert_reserved-key.result c.args.edge.now [] made.lies) made.begins) c.join.ensures
