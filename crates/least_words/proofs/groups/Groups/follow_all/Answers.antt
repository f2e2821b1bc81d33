use Rattle.std.proofs.Common.{take, get_or, sym, subst, arith}
use Rattle.std.proofs.lemmas.List.{take_more}
use Rattle.std.proofs.lemmas.Option.{slice_get-get_or}
use Rattle.least_words.specs.Types.{Arc}
use Rattle.least_words.specs.inside.Groups.{words_of, found_of, IsAhead, Follows}
use Rattle.least_words.proofs.ListLaws.{one_at_place, kept_at, length-extends}
use Rattle.least_words.proofs.GroupLaws.{has_word, length-words_of}
use Rattle.least_words.proofs.FollowLaws.{Follows-none, Follows-then, IsAhead-next}
use Rattle.least_words.proofs.groups.Groups.follow_all.Goals as goal

pub arcs-init : goal.arcs-init
arcs-init c = record {
  follows = λ word has. Follows-none word (found_of c.args.self.now.places.items c.args.self.now.origins.items);
  orderly = c.requires.orderly;
  back = c.requires.back;
  marked = c.requires.marked;
}

pub follow-requires-clause-within : goal.follow-requires-clause-within
follow-requires-clause-within c =
    let old = c.args.self.now.origins.items in
    let now = c.arcs.self.origins.items in
    let own = has_word old c.args.group c.requires.within in
    let follows = c.arcs.invariant.follows own.0 own.1 in
    omega (arith, c.requires.within, length-extends (words_of old) (words_of now) follows.words, length-words_of old, length-words_of now)

pub follow-requires-clause-ahead : goal.follow-requires-clause-ahead
follow-requires-clause-ahead c word has =
    let old = c.args.self.now in
    let now = c.arcs.self in
    let own = has_word old.origins.items c.args.group c.requires.within in
    let follows = c.arcs.invariant.follows own.0 own.1 in
    let first : Arc = record { label = record { 0 = 0 }; oid = record { 0 = 0 }; states = record { 0 = 0 } } in
    let arc : Arc = get_or c.args.arcs.now c.arcs.arc-index first in
    let same = one_at_place (words_of now.origins.items) c.args.group own.0 word
    (kept_at (words_of old.origins.items) (words_of now.origins.items) c.args.group own.0 follows.words own.1) has in
    subst (λ w. IsAhead (words_of now.origins.items) w arc.label) same
    (IsAhead-next own.0 c.args.arcs.now c.arcs.arc-index arc (found_of old.places.items old.origins.items) (found_of now.places.items now.origins.items)
    (slice_get-get_or c.args.arcs.now c.arcs.arc-index first c.arcs-test.true) c.requires.ascend (c.requires.ahead own.0 own.1) follows)

pub arcs-preserved : goal.arcs-preserved
arcs-preserved c =
    let old = c.args.self.now in
    let now = c.arcs.self in
    let next = c.follow.new.self in
    let first : Arc = record { label = record { 0 = 0 }; oid = record { 0 = 0 }; states = record { 0 = 0 } } in
    let arc : Arc = get_or c.args.arcs.now c.arcs.arc-index first in
    let earlier = take c.arcs.arc-index c.args.arcs.now in
    record {
      follows = λ word has.
          let follows = c.arcs.invariant.follows word has in
          subst (λ l. Follows word l (found_of old.places.items old.origins.items) (found_of next.places.items next.origins.items))
          (sym (take_more c.args.arcs.now c.arcs.arc-index first c.arcs-test.true))
          (Follows-then word earlier arc (found_of old.places.items old.origins.items) (found_of now.places.items now.origins.items)
          (found_of next.places.items next.origins.items) follows
          (c.in_ok-follow.ensures.follows word (kept_at (words_of old.origins.items) (words_of now.origins.items) c.args.group word follows.words has)));
      orderly = c.in_ok-follow.ensures.orderly;
      back = c.in_ok-follow.ensures.back;
      marked = c.in_ok-follow.ensures.marked;
    }
