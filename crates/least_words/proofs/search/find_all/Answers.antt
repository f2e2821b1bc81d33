use Rattle.std.proofs.Common.{◌≡◌, ◌≢◌, ℕ, ◌+◌, ◌-◌, ◌<◌, ◌≤◌, List, [], ◌∷◌, Some, take, drop, length, get_or, sym, ap, add-zero, ◌∙◌, subst, arith}
use Rattle.std.specs.List.{slice_get, sum_by}
use Rattle.std.proofs.lemmas.List.{take_all}
use Rattle.path_expr.specs.Machines.{Moving, IsIn}
use Rattle.least_words.specs.Types.{Oid, Label, States, Arc, Place}
use Rattle.least_words.specs.inside.Arcs.{LeadsBy, AreArcsFrom, reads_at}
use Rattle.least_words.specs.inside.Groups.{Found, words_of, found_of, AreBack, Follows}
use Rattle.least_words.specs.inside.Searches.{IsSearched}
use Rattle.least_words.proofs.ListLaws.{length-extends}
use Rattle.least_words.proofs.GroupLaws.{AreBack-none, length-words_of}
use Rattle.least_words.proofs.SearchLaws.{IsSearched-none, IsSearched-all, first_found}
use Rattle.least_words.proofs.TurnLaws.{no_place, next_word, next_within, next_ahead, turn, sum_turn}
use Rattle.least_words.proofs.search.find_all.Goals as goal

pub places-init : goal.places-init
places-init g c =
    let machine = c.args.automaton.now in
    let from = c.args.from in
    let leads = LeadsBy (g.T.LabelTest.texts c.args.labels.now) machine (g.A.Adjacent.edges c.args.graph.now) in
    let groups = c.in_ok-groups.groups in
    let place : States → List Place = λ states. record { oid = from; states = states; group = 0 } ∷ [] in
    let places : groups.places.items ≡ place machine.start = c.in_ok-groups.ensures.places ∙ ap place c.starts.ensures.exact in
    let found : found_of groups.places.items groups.origins.items ≡ first_found leads from machine.start =
    λ i. record { places = places i; words = words_of (c.in_ok-groups.ensures.origins i) } in
    record {
      searched = subst (λ (f : Found). IsSearched leads (λ there. (from ≡ there.0) × IsIn machine.start there.1) f 0) (sym found) (IsSearched-none leads from machine.start);
      back = subst AreBack (sym c.in_ok-groups.ensures.origins) AreBack-none;
      marked = c.in_ok-groups.ensures.marked;
      steps = sym (add-zero c.args.steps.now);
      same = λ i. record { labels = c.new-mover.ensures.labels i; machine = c.new-mover.ensures.machine i };
      within = omega arith;
    }

pub returns-clause-found : goal.returns-clause-found
returns-clause-found g c =
    let machine = c.args.automaton.now in
    let from = c.args.from in
    let leads = LeadsBy (g.T.LabelTest.texts c.args.labels.now) machine (g.A.Adjacent.edges c.args.graph.now) in
    let starts : Oid × ℕ → Type 0 = λ there. (from ≡ there.0) × IsIn machine.start there.1 in
    let found = found_of c.places.groups.places.items c.places.groups.origins.items in
    let done : c.places.next ≡ length c.places.groups.places.items = omega (arith, c.places-test.false, c.len.ensures, c.places.invariant.within) in
    IsSearched-all leads starts found (subst (IsSearched leads starts found) done c.places.invariant.searched)

pub returns-clause-steps : goal.returns-clause-steps
returns-clause-steps g c =
    let edges = g.A.Adjacent.edges c.args.graph.now in
    let places = c.places.groups.places.items in
    c.places.invariant.steps
    ∙ ap (λ (l : List Place). c.args.steps.now + sum_by (reads_at edges) l) (take_all c.places.next places (omega (arith, c.places-test.false, c.len.ensures)))

pub places-preserved : goal.places-preserved
places-preserved g c =
    let machine = c.args.automaton.now in
    let from = c.args.from in
    let edges = g.A.Adjacent.edges c.args.graph.now in
    let leads = LeadsBy (g.T.LabelTest.texts c.args.labels.now) machine edges in
    let starts : Oid × ℕ → Type 0 = λ there. (from ≡ there.0) × IsIn machine.start there.1 in
    let old = c.places.groups in
    let new = c.follow_all.new.self in
    let next = c.places.next in
    let end = c.end_of-end.result in
    let items = old.places.items in
    let before = found_of items old.origins.items in
    let after = found_of new.places.items new.origins.items in
    let read : c.as_slice-met.result.now ≡ items = c.as_slice-met.ensures.value in
    let more : next < length items = omega (arith, c.places-test.true, c.len.ensures) in
    let within : end ≤ length items = omega (arith, c.end_of-end.ensures.within, ap length read) in
    let same = subst (λ (l : List Place). (k : ℕ) (d : Place) → next ≤ k → k < end → (get_or l k d).group ≡ (get_or l next d).group) read c.end_of-end.ensures.same in
    let other = subst (λ (l : List Place). (d : Place) → end < length l → (get_or l end d).group ≢ (get_or l next d).group) read c.end_of-end.ensures.other in
    let arcs = c.find_arcs.new.arcs.items in
    let turned = take (end - next) (drop next items) in
    let part : c.part_of-turn.result.now ≡ turned = c.part_of-turn.ensures ∙ ap (λ (l : List Place). take (end - next) (drop next l)) read in
    let moved = subst (λ (m : Moving). AreArcsFrom (LeadsBy m.labels m.machine edges) c.part_of-turn.result.now arcs) c.places.invariant.same c.in_ok-find_arcs.ensures.exact in
    let exact = subst (λ (l : List Place). AreArcsFrom leads l arcs) part moved in
    let group : (get_or c.as_slice-met.result.now next no_place).group ≡ (get_or items next no_place).group = ap (λ (l : List Place). (get_or l next no_place).group) read in
    let follows : (word : List Label) → slice_get before.words (get_or items next no_place).group ≡ Some word → Follows word arcs before after =
    λ word has. subst (λ (l : List Arc). Follows word l before after) c.as_slice.ensures.value (c.in_ok-follow_all.ensures.follows word (ap (slice_get before.words) group ∙ has)) in
    let own = next_word leads starts before next c.places.invariant.searched more in
    let extends = (follows own.0 own.1).places in
    let spent : c.find_arcs.new.steps ≡ c.places.steps + sum_by (reads_at edges) turned =
    c.in_ok-find_arcs.ensures.steps ∙ ap (λ (l : List Place). c.places.steps + sum_by (reads_at edges) l) part in
    let sum = sum_turn (reads_at edges) items new.places.items next end (omega (arith, c.end_of-end.ensures.after)) within extends in
    record {
      searched = turn leads starts before next c.places.invariant.searched more after end arcs c.end_of-end.ensures.after within same other exact follows
          c.in_ok-follow_all.ensures.orderly;
      back = c.in_ok-follow_all.ensures.back;
      marked = c.in_ok-follow_all.ensures.marked;
      steps = omega (arith, spent, c.places.invariant.steps, sum);
      same = c.find_arcs.ensures.same ∙ c.places.invariant.same;
      within = omega (arith, within, length-extends items new.places.items extends);
    }

pub follow_all-requires-clause-within : goal.follow_all-requires-clause-within
follow_all-requires-clause-within g c =
    let machine = c.args.automaton.now in
    let from = c.args.from in
    let leads = LeadsBy (g.T.LabelTest.texts c.args.labels.now) machine (g.A.Adjacent.edges c.args.graph.now) in
    let starts : Oid × ℕ → Type 0 = λ there. (from ≡ there.0) × IsIn machine.start there.1 in
    let items = c.places.groups.places.items in
    let origins = c.places.groups.origins.items in
    let next = c.places.next in
    let read : c.as_slice-met.result.now ≡ items = c.as_slice-met.ensures.value in
    let more : next < length items = omega (arith, c.places-test.true, c.len.ensures) in
    let group : (get_or c.as_slice-met.result.now next no_place).group ≡ (get_or items next no_place).group = ap (λ (l : List Place). (get_or l next no_place).group) read in
    omega (arith, group, next_within leads starts (found_of items origins) next c.places.invariant.searched more, length-words_of origins)

pub follow_all-requires-clause-ahead : goal.follow_all-requires-clause-ahead
follow_all-requires-clause-ahead g c word has =
    let machine = c.args.automaton.now in
    let from = c.args.from in
    let leads = LeadsBy (g.T.LabelTest.texts c.args.labels.now) machine (g.A.Adjacent.edges c.args.graph.now) in
    let starts : Oid × ℕ → Type 0 = λ there. (from ≡ there.0) × IsIn machine.start there.1 in
    let items = c.places.groups.places.items in
    let origins = c.places.groups.origins.items in
    let next = c.places.next in
    let read : c.as_slice-met.result.now ≡ items = c.as_slice-met.ensures.value in
    let more : next < length items = omega (arith, c.places-test.true, c.len.ensures) in
    let group : (get_or c.as_slice-met.result.now next no_place).group ≡ (get_or items next no_place).group = ap (λ (l : List Place). (get_or l next no_place).group) read in
    next_ahead leads starts (found_of items origins) next c.places.invariant.searched more word (ap (slice_get (words_of origins)) (sym group) ∙ has)
