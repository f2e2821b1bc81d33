use Rattle.std.proofs.Common.{ℕ, ◌<◌, map, sym, subst}
use Rattle.std.proofs.lemmas.List.{length-map}
use Rattle.std.proofs.lemmas.Result.{IfOk-weaker}
use Rattle.plan_ops.specs.inside.Offers.{Fill}
use Rattle.plan_ops.specs.inside.Ready.{ready_tree}
use Rattle.row_hints.specs.Thinned.{kept_of}
use Rattle.plan_ops.proofs.NarrowLaws.{offer_kept, offer_at, narrowed_at, not_quiet}
use Rattle.plan_ops.proofs.narrowing.objects_left.Goals as goal

pub returns-then-not-is_tried-clause-rows : goal.returns-then-not-is_tried-clause-rows
returns-then-not-is_tried-clause-rows g c =
    let turn = c.args.turn.now in
    offer_kept (g.S.Offers.over turn.sources.now) (map ready_tree turn.ready.now) turn.at turn.row.now (Fill c.args.slot c.args.oids.now) c.requires.offer

pub leaves_all-requires : goal.leaves_all-requires
leaves_all-requires g c = c.requires.told

pub returns-then-all-clause-rows : goal.returns-then-all-clause-rows
returns-then-all-clause-rows g c =
    let turn = c.args.turn.now in
    offer_kept (g.S.Offers.over turn.sources.now) (map ready_tree turn.ready.now) turn.at turn.row.now (Fill c.args.slot c.args.oids.now) c.requires.offer

pub returns-then-all-clause-quiet : goal.returns-then-all-clause-quiet
returns-then-all-clause-quiet g c = λ quiet.
    let turn = c.args.turn.now in
    let within = subst (λ (n : ℕ). turn.at < n) (sym (length-map turn.ready.now ready_tree)) c.requires.at in
    absurd (not_quiet (g.S.Offers.over turn.sources.now) (map ready_tree turn.ready.now) turn.at c.args.slot turn.row.now c.args.oids.now
    within (c.is_tried.ensures.some c.if-not-is_tried.false) (c.is_tried.ensures.tested c.if-not-is_tried.false) c.requires.offer quiet)

pub narrowed-requires-clause-slot : goal.narrowed-requires-clause-slot
narrowed-requires-clause-slot g c =
    let turn = c.args.turn.now in
    let within = subst (λ (n : ℕ). turn.at < n) (sym (length-map turn.ready.now ready_tree)) c.requires.at in
    (offer_at (g.S.Offers.over turn.sources.now) (map ready_tree turn.ready.now) turn.at turn.row.now (Fill c.args.slot c.args.oids.now) within c.requires.offer).1.fills

pub narrowed-requires-clause-eight : goal.narrowed-requires-clause-eight
narrowed-requires-clause-eight g c = c.requires.eight

pub narrowed-requires-clause-ascending : goal.narrowed-requires-clause-ascending
narrowed-requires-clause-ascending g c =
    let turn = c.args.turn.now in
    let within = subst (λ (n : ℕ). turn.at < n) (sym (length-map turn.ready.now ready_tree)) c.requires.at in
    (offer_at (g.S.Offers.over turn.sources.now) (map ready_tree turn.ready.now) turn.at turn.row.now (Fill c.args.slot c.args.oids.now) within c.requires.offer).1.ordered

pub narrowed-requires-clause-told : goal.narrowed-requires-clause-told
narrowed-requires-clause-told g c = c.leaves_all.ensures

pub returns-clause-rows : goal.returns-clause-rows
returns-clause-rows g c =
    let turn = c.args.turn.now in
    IfOk-weaker c.narrowed.result _ _ (λ kept thin. narrowed_at (g.S.Offers.over turn.sources.now) (g.S.Hints.hints turn.sources.now) (map ready_tree turn.ready.now) turn.at c.args.slot turn.row.now
    c.args.oids.now (kept_of kept c.args.oids.now) c.slots_before-known.result c.requires.in_order c.requires.eight
    (c.is_tried.ensures.tested c.if-not-is_tried.false) c.slots_before-known.ensures c.requires.offer c.requires.hinted thin) c.narrowed.ensures.kept

pub returns-clause-quiet : goal.returns-clause-quiet
returns-clause-quiet g c = λ quiet.
    let turn = c.args.turn.now in
    let within = subst (λ (n : ℕ). turn.at < n) (sym (length-map turn.ready.now ready_tree)) c.requires.at in
    absurd (not_quiet (g.S.Offers.over turn.sources.now) (map ready_tree turn.ready.now) turn.at c.args.slot turn.row.now c.args.oids.now
    within (c.is_tried.ensures.some c.if-not-is_tried.false) (c.is_tried.ensures.tested c.if-not-is_tried.false) c.requires.offer quiet)
