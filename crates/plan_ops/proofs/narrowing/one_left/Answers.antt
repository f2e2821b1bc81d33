use Rattle.std.proofs.Common.{◌<◌, ℕ, map, sym, subst}
use Rattle.std.proofs.lemmas.List.{length-map}
use Rattle.plan_ops.specs.inside.Offers.{One, IsKeptAt}
use Rattle.plan_ops.specs.inside.Ready.{ready_tree}
use Rattle.plan_ops.proofs.NarrowLaws.{offer_kept, offer_at}
use Rattle.plan_ops.proofs.FitLaws.{one_narrowed, one_not_quiet}
use Rattle.plan_ops.proofs.narrowing.one_left.Goals as goal

pub returns-then-not-is_tried_of_few-clause-rows : goal.returns-then-not-is_tried_of_few-clause-rows
returns-then-not-is_tried_of_few-clause-rows g c =
    let turn = c.args.turn.now in
    offer_kept (g.S.Offers.over turn.sources.now) (map ready_tree turn.ready.now) turn.at turn.row.now (One c.args.slot c.args.oid) c.requires.offer

pub leaves_all-requires : goal.leaves_all-requires
leaves_all-requires g c = c.requires.told

pub returns-then-all-clause-rows : goal.returns-then-all-clause-rows
returns-then-all-clause-rows g c =
    let turn = c.args.turn.now in
    offer_kept (g.S.Offers.over turn.sources.now) (map ready_tree turn.ready.now) turn.at turn.row.now (One c.args.slot c.args.oid) c.requires.offer

pub returns-then-all-clause-quiet : goal.returns-then-all-clause-quiet
returns-then-all-clause-quiet g c = λ quiet.
    let turn = c.args.turn.now in
    absurd (one_not_quiet (g.S.Offers.over turn.sources.now) turn.ready.now turn.at c.args.slot turn.row.now c.args.oid c.requires.at
    (c.is_tried_of_few.ensures c.if-not-is_tried_of_few.false) c.requires.offer quiet)

pub is_left_out-requires-clause-slot : goal.is_left_out-requires-clause-slot
is_left_out-requires-clause-slot g c =
    let turn = c.args.turn.now in
    let within = subst (λ (n : ℕ). turn.at < n) (sym (length-map turn.ready.now ready_tree)) c.requires.at in
    (offer_at (g.S.Offers.over turn.sources.now) (map ready_tree turn.ready.now) turn.at turn.row.now (One c.args.slot c.args.oid) within c.requires.offer).1.fills

pub is_left_out-requires-clause-eight : goal.is_left_out-requires-clause-eight
is_left_out-requires-clause-eight g c = c.requires.eight

pub is_left_out-requires-clause-told : goal.is_left_out-requires-clause-told
is_left_out-requires-clause-told g c = c.leaves_all.ensures

pub returns-clause-rows : goal.returns-clause-rows
returns-clause-rows g c =
    let turn = c.args.turn.now in
    let over = g.S.Offers.over turn.sources.now in
    let plan = map ready_tree turn.ready.now in
    subst (IsKeptAt over plan turn.at turn.row.now) (sym c.one_unless.ensures)
    (one_narrowed over (g.S.Hints.hints turn.sources.now) plan turn.at c.args.slot turn.row.now c.args.oid c.slots_before-known.result c.in_ok-out.out
    c.requires.in_order c.requires.eight (c.is_tried_of_few.ensures c.if-not-is_tried_of_few.false) c.slots_before-known.ensures c.requires.offer
    c.requires.hinted c.in_ok-out.ensures.out)

pub returns-clause-quiet : goal.returns-clause-quiet
returns-clause-quiet g c = λ quiet.
    let turn = c.args.turn.now in
    absurd (one_not_quiet (g.S.Offers.over turn.sources.now) turn.ready.now turn.at c.args.slot turn.row.now c.args.oid c.requires.at
    (c.is_tried_of_few.ensures c.if-not-is_tried_of_few.false) c.requires.offer quiet)
