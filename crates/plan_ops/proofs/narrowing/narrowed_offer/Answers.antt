use Rattle.std.proofs.Common.{List, map, refl, sym, subst}
use Rattle.plan_ops.specs.Types.{Oid}
use Rattle.plan_ops.specs.declared.offers.Offer.{Offer}
use Rattle.plan_ops.specs.inside.Offers.{Fill, Keep, Reject, HasObjects, IsOfferAt, IsKeptAt}
use Rattle.plan_ops.specs.inside.Ready.{ready_tree}
use Rattle.row_hints.specs.Thinned.{kept_of}
use Rattle.plan_ops.proofs.NarrowLaws.{offer_kept}
use Rattle.plan_ops.proofs.FitLaws.{lent_offer, kept_lent}
use Rattle.plan_ops.proofs.narrowing.narrowed_offer.Goals as goal

pub objects_left-requires-clause-offer : goal.objects_left-requires-clause-offer
objects_left-requires-clause-offer g c =
    let turn = c.args.turn.now in
    subst (λ (o : Offer). IsOfferAt (g.S.Offers.over turn.sources.now) (map ready_tree turn.ready.now) turn.at turn.row.now o) c.in-Fill.is c.requires.offer

pub objects_left-requires-in-Lend-clause-offer : goal.objects_left-requires-in-Lend-clause-offer
objects_left-requires-in-Lend-clause-offer g c =
    let turn = c.args.turn.now in
    lent_offer (g.S.Offers.over turn.sources.now) (map ready_tree turn.ready.now) turn.at c.in-Lend.slot turn.row.now c.in-Lend.oids.now c.args.offer
    (subst (λ (o : Offer). HasObjects o c.in-Lend.slot c.in-Lend.oids.now) (sym c.in-Lend.is) (refl, refl)) c.requires.offer

pub one_left-requires-clause-offer : goal.one_left-requires-clause-offer
one_left-requires-clause-offer g c =
    let turn = c.args.turn.now in
    subst (λ (o : Offer). IsOfferAt (g.S.Offers.over turn.sources.now) (map ready_tree turn.ready.now) turn.at turn.row.now o) c.in-One.is c.requires.offer

pub one_left-requires-clause-hinted : goal.one_left-requires-clause-hinted
one_left-requires-clause-hinted g c = c.requires.hinted

pub objects_left-requires-clause-hinted : goal.objects_left-requires-clause-hinted
objects_left-requires-clause-hinted g c = c.requires.hinted

pub objects_left-requires-in-Lend-clause-hinted : goal.objects_left-requires-in-Lend-clause-hinted
objects_left-requires-in-Lend-clause-hinted g c = c.requires.hinted

pub returns-in_ok-kept-in-Fill-clause-rows : goal.returns-in_ok-kept-in-Fill-clause-rows
returns-in_ok-kept-in-Fill-clause-rows g c =
    let turn = c.args.turn.now in
    subst (λ (l : List Oid). IsKeptAt (g.S.Offers.over turn.sources.now) (map ready_tree turn.ready.now) turn.at turn.row.now (Fill c.in-Fill.slot l))
    (sym c.kept_or-left.ensures) c.in_ok-kept-in-Fill.ensures.rows

pub returns-in_ok-kept-in-Lend-clause-rows : goal.returns-in_ok-kept-in-Lend-clause-rows
returns-in_ok-kept-in-Lend-clause-rows g c =
    let turn = c.args.turn.now in
    kept_lent (g.S.Offers.over turn.sources.now) (map ready_tree turn.ready.now) turn.at c.in-Lend.slot turn.row.now
    (kept_of c.in_ok-kept-in-Lend.kept c.in-Lend.oids.now) c.fill_or_lend.result c.fill_or_lend.ensures c.in_ok-kept-in-Lend.ensures.rows

pub returns-in-Keep-clause-rows : goal.returns-in-Keep-clause-rows
returns-in-Keep-clause-rows g c =
    let turn = c.args.turn.now in
    let over = g.S.Offers.over turn.sources.now in
    let plan = map ready_tree turn.ready.now in
    offer_kept over plan turn.at turn.row.now Keep (subst (λ (o : Offer). IsOfferAt over plan turn.at turn.row.now o) c.in-Keep.is c.requires.offer)

pub returns-in-Reject-clause-rows : goal.returns-in-Reject-clause-rows
returns-in-Reject-clause-rows g c =
    let turn = c.args.turn.now in
    let over = g.S.Offers.over turn.sources.now in
    let plan = map ready_tree turn.ready.now in
    offer_kept over plan turn.at turn.row.now Reject (subst (λ (o : Offer). IsOfferAt over plan turn.at turn.row.now o) c.in-Reject.is c.requires.offer)
