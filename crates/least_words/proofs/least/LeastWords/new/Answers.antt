use Rattle.std.proofs.Common.{List, sym, subst}
use Rattle.indexmap.specs.IndexMap.{get}
use Rattle.product_walk.specs.ProductWalks.{IsAcceptedWalk}
use Rattle.least_words.specs.Types.{Oid, Place}
use Rattle.lore_base.specs.LeastWords.{IsLeastIfAny}
use Rattle.least_words.specs.MachineWords.{same_oid}
use Rattle.least_words.specs.inside.Groups.{found_of, AreEnds}
use Rattle.least_words.proofs.AcceptLaws.{least_at_end, least_of_path, takes_reads}
use Rattle.least_words.proofs.EndLaws.{AreEnds-within, word_to_end}
use Rattle.least_words.proofs.least.LeastWords.new.Goals as goal

pub invariant_of-result : goal.invariant_of-result
invariant_of-result g c =
    let places = c.in_ok-groups.groups.places.items in
    let origins = c.in_ok-groups.groups.origins.items in
    let ends = subst (λ (l : List Place). (oid : Oid) → AreEnds l oid (get same_oid c.in_ok-ends.ends oid)) c.as_slice.ensures.value c.in_ok-ends.ensures in
    (c.in_ok-groups.ensures.back, λ oid. AreEnds-within places origins oid (get same_oid c.in_ok-ends.ends oid) c.in_ok-groups.ensures.found.orderly.within (ends oid))

pub returns-clause-accepted : goal.returns-clause-accepted
returns-clause-accepted g c to =
    let labels = g.T.LabelTest.texts c.args.labels.now in
    let machine = c.args.automaton.now in
    let edges = g.A.Adjacent.edges c.args.graph.now in
    let places = c.in_ok-groups.groups.places.items in
    let origins = c.in_ok-groups.groups.origins.items in
    let ends = subst (λ (l : List Place). (oid : Oid) → AreEnds l oid (get same_oid c.in_ok-ends.ends oid)) c.as_slice.ensures.value c.in_ok-ends.ensures in
    subst (IsLeastIfAny (IsAcceptedWalk labels edges machine c.args.from to)) (sym (word_to_end origins c.in_ok-ends.ends.entries to))
    (least_at_end labels machine edges c.args.from (found_of places origins) c.in_ok-groups.ensures.found to (get same_oid c.in_ok-ends.ends to) (ends to))

pub returns-clause-spelled : goal.returns-clause-spelled
returns-clause-spelled g c to =
    let labels = g.T.LabelTest.texts c.args.labels.now in
    let machine = c.args.automaton.now in
    let edges = g.A.Adjacent.edges c.args.graph.now in
    let places = c.in_ok-groups.groups.places.items in
    let origins = c.in_ok-groups.groups.origins.items in
    let ends = subst (λ (l : List Place). (oid : Oid) → AreEnds l oid (get same_oid c.in_ok-ends.ends oid)) c.as_slice.ensures.value c.in_ok-ends.ensures in
    least_of_path labels edges machine c.args.from to _
    (subst (IsLeastIfAny (IsAcceptedWalk labels edges machine c.args.from to)) (sym (word_to_end origins c.in_ok-ends.ends.entries to))
    (least_at_end labels machine edges c.args.from (found_of places origins) c.in_ok-groups.ensures.found to (get same_oid c.in_ok-ends.ends to) (ends to)))

pub returns-clause-steps : goal.returns-clause-steps
returns-clause-steps g c =
    takes_reads (g.T.LabelTest.texts c.args.labels.now) c.args.automaton.now (g.A.Adjacent.edges c.args.graph.now) c.args.from
    (found_of c.in_ok-groups.groups.places.items c.in_ok-groups.groups.origins.items) c.in_ok-groups.ensures.found
    c.args.steps.now c.find_all.new.steps c.in_ok-groups.ensures.steps
