use Rattle.std.proofs.Common.{refl}
use Rattle.plan_laws.specs.Steps.{steps_over}
use Rattle.std.proofs.lemmas.Result.{IfOk-weaker}
use Rattle.plan_ops.proofs.OfferLaws.{route_offers, word_offers, guide_offers, lent, value_offers, none_found, back_offers, test_offers, check_tells}
use Rattle.plan_ops.proofs.sources.SourcesOffers.offer.Goals as goal

pub along_route-requires : goal.along_route-requires
along_route-requires g c = rw c.in-Forward.is at c.requires.kept

pub along_word-requires : goal.along_word-requires
along_word-requires g c = rw c.in-AlongWord.is at c.requires.kept

pub returns-in-Forward-clause-kept : goal.returns-in-Forward-clause-kept
returns-in-Forward-clause-kept g c = rw c.in-Forward.is c.along_route.ensures.kept

pub returns-in-Forward-clause-rows : goal.returns-in-Forward-clause-rows
returns-in-Forward-clause-rows g c =
    rw c.in-Forward.is (IfOk-weaker c.along_route.result _ _ (λ offer puts. route_offers _ _ _ _ _ _ offer (rw c.in-Forward.is at c.requires.stands)
    c.requires.eight c.object-from.ensures puts) c.along_route.ensures.objects)

pub returns-in-AlongWord-clause-kept : goal.returns-in-AlongWord-clause-kept
returns-in-AlongWord-clause-kept g c = rw c.in-AlongWord.is c.along_word.ensures.kept

pub returns-in-AlongWord-clause-rows : goal.returns-in-AlongWord-clause-rows
returns-in-AlongWord-clause-rows g c =
    rw c.in-AlongWord.is (IfOk-weaker c.along_word.result _ _ (λ offer puts. word_offers _ _ _ _ _ _ _ offer
    (rw c.in-AlongWord.is at c.requires.stands) c.requires.eight c.object.ensures (rw c.in-AlongWord.is at c.requires.found) puts)
    c.along_word.ensures.objects)

pub returns-in-FromGuide-clause-rows : goal.returns-in-FromGuide-clause-rows
returns-in-FromGuide-clause-rows g c =
    rw c.in-FromGuide.is (lent _ _ _ _ _ _ (refl, refl)
    (guide_offers _ _ _ _ _ _ (rw c.in-FromGuide.is at c.requires.stands) c.requires.eight (rw c.in-FromGuide.is at c.requires.found)))

pub returns-in_ok-oids-in-FromValue-clause-rows : goal.returns-in_ok-oids-in-FromValue-clause-rows
returns-in_ok-oids-in-FromValue-clause-rows g c =
    rw c.in-FromValue.is (value_offers _ _ _ _ _ _ _ _ _ (rw c.in-FromValue.is at c.requires.stands) c.requires.eight c.in_ok-ends-in-FromValue.ensures c.in_ok-oids-in-FromValue.ensures.oids)

pub returns-in_ok-oids-in-FromValue-clause-quiet : goal.returns-in_ok-oids-in-FromValue-clause-quiet
returns-in_ok-oids-in-FromValue-clause-quiet g c =
    let self = c.args.self.now in
    let over = steps_over self.labels.now (g.A.Adjacent.edges self.graph.now) (g.K.Links.edges self.links.now) (g.V.Values.entries self.values.now)
    (g.P.Paths.reaches self.paths.now) (g.T.RowTest.passes self.test.now) in
    λ quiet. c.in_ok-oids-in-FromValue.ensures.quiet (none_found over _ _ _ _ _ _ c.in_ok-ends-in-FromValue.ensures (rw c.in-FromValue.is at quiet))

pub returns-in_ok-oids-in-Backward-clause-rows : goal.returns-in_ok-oids-in-Backward-clause-rows
returns-in_ok-oids-in-Backward-clause-rows g c =
    rw c.in-Backward.is (back_offers _ _ _ _ _ _ _ (rw c.in-Backward.is at c.requires.stands) c.requires.eight c.get-to.ensures.oid c.in_ok-oids-in-Backward.ensures)

pub returns-in_ok-oids-in-Check-clause-rows : goal.returns-in_ok-oids-in-Check-clause-rows
returns-in_ok-oids-in-Check-clause-rows g c =
    let self = c.args.self.now in
    let over = steps_over self.labels.now (g.A.Adjacent.edges self.graph.now) (g.K.Links.edges self.links.now) (g.V.Values.entries self.values.now)
    (g.P.Paths.reaches self.paths.now) (g.T.RowTest.passes self.test.now) in
    rw (c.in-Check.is, c.of_test.ensures)
    (test_offers over _ _ _ refl c.requires.eight
    (check_tells over _ _ _ _ _ _ _ c.get-to-in-Check.ensures.oid c.in_ok-oids-in-Check.ensures c.is_among.ensures))

pub returns-in_ok-holds-in-Filter-clause-rows : goal.returns-in_ok-holds-in-Filter-clause-rows
returns-in_ok-holds-in-Filter-clause-rows g c =
    rw (c.in-Filter.is, c.of_test-in-Filter.ensures) (test_offers _ _ _ _ refl c.requires.eight c.in_ok-holds-in-Filter.ensures)
