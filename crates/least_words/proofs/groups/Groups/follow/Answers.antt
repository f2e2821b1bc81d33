use Rattle.std.proofs.Common.{◌≡◌, true≢false, length, map, inl, inr, [], ◌∷◌, ◌++◌, refl, sym, ap, ◌∙◌, subst, arith}
use Rattle.std.proofs.lemmas.Cmp.{nat_eq_equiv, on_equiv}
use Rattle.std.proofs.lemmas.List.{map_push}
use Rattle.indexmap.specs.IndexMap.{get}
use Rattle.graph_search.specs.Closures.{AreMarks}
use Rattle.graph_search.proofs.MeetingLaws.{meet_fresh, meet_marked}
use Rattle.path_expr.specs.Machines.{IsIn}
use Rattle.product_walk.specs.inside.StateSets.{told_in, same_oid as one_oid}
use Rattle.least_words.specs.Types.{Oid, Origin, Place}
use Rattle.least_words.specs.MachineWords.{same_oid}
use Rattle.least_words.specs.inside.Groups.{spot, words_of, found_of}
use Rattle.least_words.proofs.GroupLaws.{OpensWord, opens_word, AreBack-open, has_word}
use Rattle.least_words.proofs.FollowLaws.{follows_none, follows_fresh, orderly_fresh, split_states}
use Rattle.least_words.proofs.groups.Groups.follow.Goals as goal

pub returns-then-is_empty-clause-follows : goal.returns-then-is_empty-clause-follows
returns-then-is_empty-clause-follows c word has =
    let arc = c.args.arc in
    let old = c.args.self.now in
    let before = c.states_of-before.result in
    let fresh = c.without-fresh.result in
    follows_none (found_of old.places.items old.origins.items) word arc c.requires.orderly (c.requires.ahead word has) (λ state within.
    elim (split_states (get same_oid old.marked) (map spot old.places.items) arc.oid arc.states before fresh c.requires.marked (told_in before)
    c.states_of-before.ensures c.without-fresh.ensures state within) [ inl met ↦ met | inr now ↦ absurd (c.if-is_empty.ensures.0 refl state now) ])

pub returns-clause-follows : goal.returns-clause-follows
returns-clause-follows c word has =
    let arc = c.args.arc in
    let old = c.args.self.now in
    let before = c.states_of-before.result in
    let fresh = c.without-fresh.result in
    let origin : Origin = record { group = c.args.group; label = arc.label } in
    let place : Place = record { oid = arc.oid; states = fresh; group = c.len.result } in
    let origins = c.open.new.origins.items in
    let long : length origins ≡ c.len.result = omega (arith, c.len.ensures) in
    let opens = subst (OpensWord (words_of old.origins.items) (words_of origins) (word ++ arc.label ∷ [])) long
    (opens_word origin old.origins.items word c.requires.back c.requires.orderly.rising has (c.requires.ahead word has) origins c.in_ok-open.ensures) in
    follows_fresh (found_of old.places.items old.origins.items) word arc c.requires.orderly (c.requires.ahead word has)
    (found_of c.push.new.self.items origins) fresh place refl refl c.in_ok-push.ensures.items opens (λ state h. ((c.without-fresh.ensures state).0 h).0)
    (split_states (get same_oid old.marked) (map spot old.places.items) arc.oid arc.states before fresh c.requires.marked (told_in before)
    c.states_of-before.ensures c.without-fresh.ensures)

pub returns-clause-orderly : goal.returns-clause-orderly
returns-clause-orderly c =
    let arc = c.args.arc in
    let old = c.args.self.now in
    let before = c.states_of-before.result in
    let fresh = c.without-fresh.result in
    let origin : Origin = record { group = c.args.group; label = arc.label } in
    let place : Place = record { oid = arc.oid; states = fresh; group = c.len.result } in
    let origins = c.open.new.origins.items in
    let own = has_word old.origins.items c.args.group c.requires.within in
    let word = own.0 in
    let has = own.1 in
    let long : length origins ≡ c.len.result = omega (arith, c.len.ensures) in
    let opens = subst (OpensWord (words_of old.origins.items) (words_of origins) (word ++ arc.label ∷ [])) long
    (opens_word origin old.origins.items word c.requires.back c.requires.orderly.rising has (c.requires.ahead word has) origins c.in_ok-open.ensures) in
    orderly_fresh (found_of old.places.items old.origins.items) word arc c.requires.orderly (c.requires.ahead word has)
    (found_of c.push.new.self.items origins) fresh place refl refl c.in_ok-push.ensures.items opens
    ((meet_fresh IsIn (get same_oid old.marked) (map spot old.places.items) arc.oid arc.states before fresh c.requires.marked (told_in before)
    c.states_of-before.ensures c.without-fresh.ensures (λ none. true≢false (sym (c.if-is_empty.ensures.1 none)))).apart c.requires.orderly.apart)

pub returns-clause-back : goal.returns-clause-back
returns-clause-back c =
    let origin : Origin = record { group = c.args.group; label = c.args.arc.label } in
    AreBack-open origin c.args.self.now.origins.items c.open.new.origins.items c.requires.back c.requires.within c.in_ok-open.ensures

pub returns-clause-marked : goal.returns-clause-marked
returns-clause-marked c =
    let arc = c.args.arc in
    let old = c.args.self.now in
    let before = c.states_of-before.result in
    let fresh = c.without-fresh.result in
    let place : Place = record { oid = arc.oid; states = fresh; group = c.len.result } in
    subst (AreMarks IsIn (get same_oid c.insert.new.self)) (sym (ap (map spot) c.in_ok-push.ensures.items ∙ map_push spot old.places.items place))
    (meet_marked IsIn (get same_oid old.marked) (map spot old.places.items) arc.oid arc.states before fresh c.requires.marked (told_in before)
    c.states_of-before.ensures c.without-fresh.ensures same_oid (on_equiv (λ (o : Oid). o.0) nat_eq_equiv) one_oid
    (get same_oid c.insert.new.self) c.join.result c.join.ensures c.in_ok-insert.ensures.updates.0)
