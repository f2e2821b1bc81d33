use Rattle.std.proofs.Common.{length, refl}
use Rattle.std.proofs.lemmas.Option.{slice_get_read}
use Rattle.std.proofs.lemmas.Result.{IfOk-weaker}
use Rattle.plan_ops.proofs.KeptLaws.{kept_by}
use Rattle.plan_ops.proofs.TurnLaws.{stands_there, can_there, found_there, quiet_there, offered_at, kept_there}
use Rattle.plan_ops.proofs.machine.taken.Goals as goal

pub offer-requires-clause-eight : goal.offer-requires-clause-eight
offer-requires-clause-eight g c = c.requires.eight

pub offer-requires-clause-stands : goal.offer-requires-clause-stands
offer-requires-clause-stands g c =
    let ready = c.args.ready.now in
    let step = c.index-ready-at.result in
    stands_there ready c.args.at step c.requires.in_order (slice_get_read ready (length ready) c.args.at step refl c.requires.at c.index-ready-at.is)

pub offer-requires-clause-ready : goal.offer-requires-clause-ready
offer-requires-clause-ready g c =
    let ready = c.args.ready.now in
    let step = c.index-ready-at.result in
    can_there ready c.args.at step c.requires.can (slice_get_read ready (length ready) c.args.at step refl c.requires.at c.index-ready-at.is)

pub offer-requires-clause-found : goal.offer-requires-clause-found
offer-requires-clause-found g c =
    let over = g.S.Offers.over c.args.sources.now in
    let ready = c.args.ready.now in
    let step = c.index-ready-at.result in
    found_there over.labels over.reaches ready c.args.at step c.requires.found
    (slice_get_read ready (length ready) c.args.at step refl c.requires.at c.index-ready-at.is)

pub offer-requires-clause-kept : goal.offer-requires-clause-kept
offer-requires-clause-kept g c =
    let over = g.S.Offers.over c.args.sources.now in
    let ready = c.args.ready.now in
    let step = c.index-ready-at.result in
    kept_there over ready c.args.kept.now.items c.args.at step c.index_mut.result.now c.requires.kept c.requires.room
    (slice_get_read ready (length ready) c.args.at step refl c.requires.at c.index-ready-at.is) c.index_mut.ensures.value

pub returns-clause-kept : goal.returns-clause-kept
returns-clause-kept g c =
    let over = g.S.Offers.over c.args.sources.now in
    let ready = c.args.ready.now in
    let step = c.index-ready-at.result in
    kept_by over ready c.args.kept.now.items c.args.at step c.offer.new.kept c.requires.room
    (slice_get_read ready (length ready) c.args.at step refl c.requires.at c.index-ready-at.is) c.offer.ensures.kept c.requires.kept

pub returns-clause-rows : goal.returns-clause-rows
returns-clause-rows g c =
    let over = g.S.Offers.over c.args.sources.now in
    let ready = c.args.ready.now in
    let step = c.index-ready-at.result in
    IfOk-weaker c.offer.result _ _ (λ offer made. offered_at over ready c.args.at step c.args.row.now offer
    (slice_get_read ready (length ready) c.args.at step refl c.requires.at c.index-ready-at.is) made) c.offer.ensures.rows

pub returns-clause-quiet : goal.returns-clause-quiet
returns-clause-quiet g c =
    let over = g.S.Offers.over c.args.sources.now in
    let ready = c.args.ready.now in
    let step = c.index-ready-at.result in
    λ quiet. c.offer.ensures.quiet (quiet_there over ready c.args.at step quiet
    (slice_get_read ready (length ready) c.args.at step refl c.requires.at c.index-ready-at.is))
