-- What a search has found, as words that a machine accepts and that are walked, and what it has read.
use Rattle.std.proofs.Common.{◌≡◌, ◌↔◌, ◌⊎◌, ℕ, ◌+◌, ◌<◌, ◌≤◌, cond, true, false, inl, inr, List, [], ◌∷◌, length, map, get_or, Option, Some, None, All, refl, sym, ap, ◌∙◌, subst, arith}
use Rattle.std.specs.List.{slice_get, sum_by}
use Rattle.std.specs.Option.{option_map}
use Rattle.std.proofs.lemmas.List.Elements.{All-contains}
use Rattle.std.proofs.lemmas.List.Sums.{sum_by-cons}
use Rattle.std.proofs.lemmas.Option.{slice_get-get_or}
use Rattle.list_laws.proofs.MemberLaws.{Contains-from_map}
use Rattle.lore_base.specs.Walks.{Walk}
use Rattle.graph_search.proofs.PriceLaws.{IsPriced, sum_by-places}
use Rattle.path_expr.specs.Machines.{Machine, IsIn, MovesThrough, reads_on}
use Rattle.product_walk.specs.ProductWalks.{IsAcceptedWalk, IsWalked, TakesReads, reads_out}
use Rattle.path_expr.proofs.ReadsOnLaws.{reads_on-true}
use Rattle.least_words.specs.Types.{Oid, Label, Edge, States, END, Place}
use Rattle.lore_base.specs.LeastWords.{IsUpTo, IsLeastIfAny, IsSpelledWalk}
use Rattle.least_words.specs.MachineWords.{IsLeastOfPath}
use Rattle.least_words.specs.inside.Arcs.{LeadsBy, reads_at}
use Rattle.least_words.specs.inside.Groups.{spot, Found, IsMetBy, AreEnds}
use Rattle.least_words.specs.inside.Searches.{LeadsAlong, IsLedTo, AreFound}
use Rattle.least_words.proofs.FollowLaws.{word_of_place}

-- words that pass alike have the same least one
least_alike : (P Q : List Label → Type 0) → ((word : List Label) → P word ↔ Q word) → (word : Option (List Label)) → IsLeastIfAny P word → IsLeastIfAny Q word
least_alike P Q same None none = λ other passes. none other ((same other).1 passes)
least_alike P Q same (Some word) least = record {
  passes = (same word).0 least.passes;
  least = λ other passes. least.least other ((same other).1 passes);
}

pub least_of_path : (labels : List (List ℕ)) (edges : List Edge) (machine : Machine) (x y : Oid) (word : Option (List Label))
    → IsLeastIfAny (IsAcceptedWalk labels edges machine x y) word → IsLeastOfPath labels edges machine x y word
least_of_path labels edges machine x y word least path stands =
    least_alike (IsAcceptedWalk labels edges machine x y) (IsSpelledWalk labels edges path x y)
    (λ w. (λ h. ((stands labels w).0 h.0, h.1), λ h. ((stands labels w).1 h.0, h.1))) word least

module _ (labels : List (List ℕ)) (machine : Machine) (edges : List Edge) where
  -- a way through the product is a walk and a run
  walk_of : (word : List Label) (here there : Oid × ℕ) → LeadsAlong (LeadsBy labels machine edges) here word there
      → Walk edges here.0 word there.0 × MovesThrough labels machine here.1 word there.1
  walk_of [] here there same = (ap (λ (p : Oid × ℕ). p.0) same, ap (λ (p : Oid × ℕ). p.1) same)
  walk_of (label ∷ word) here there along =
      let next : Oid × ℕ = along.0 in
      let rest = walk_of word next there along.2 in
      ((next.0, along.1.0, rest.0), (next.1, along.1.1, rest.1))

  way_of : (word : List Label) (here there : Oid × ℕ) → Walk edges here.0 word there.0 → MovesThrough labels machine here.1 word there.1
      → LeadsAlong (LeadsBy labels machine edges) here word there
  way_of [] here there walked runs = λ i. (walked i, runs i)
  way_of (label ∷ word) here there walked runs =
      let next : Oid × ℕ = (walked.0, runs.0) in (next, (walked.1, runs.1), way_of word next there walked.2 runs.2)

  module _ (from : Oid) where
    abbrev pub Starts : Oid × ℕ → Type 0
    Starts there = (from ≡ there.0) × IsIn machine.start there.1

    pub led_accepted : (to : Oid) (word : List Label) → IsLedTo (LeadsBy labels machine edges) Starts (to, END) word ↔ IsAcceptedWalk labels edges machine from to word
    led_accepted to word = (
      λ led.
          let start : Oid × ℕ = led.0 in
          let way = walk_of word start (to, END) led.2 in
          ((start.1, led.1.1, way.1), subst (λ (o : Oid). Walk edges o word to) (sym led.1.0) way.0),
      λ accepted. ((from, accepted.0.0), (refl, accepted.0.1), way_of word (from, accepted.0.0) (to, END) accepted.1 accepted.0.2),
    )

    pub led_walked : (there : Oid × ℕ) (word : List Label) → IsLedTo (LeadsBy labels machine edges) Starts there word → IsWalked edges from there.0
    led_walked there word led =
        let start : Oid × ℕ = led.0 in
        (word, subst (λ (o : Oid). Walk edges o word there.0) (sym led.1.0) (walk_of word start there led.2).0)

    module _ (found : Found) (done : AreFound (LeadsBy labels machine edges) Starts found) where
      -- the least word to an end
      pub least_at_end : (to : Oid) (end : Option ℕ) → AreEnds found.places to end
          → IsLeastIfAny (IsAcceptedWalk labels edges machine from to) (option_map (λ group. get_or found.words group []) end)
      least_at_end to None ends = λ word accepted.
          let met = done.complete (to, END) word ((led_accepted to word).1 accepted) in
          let at = met.1.1 in
          ends at.0 at.1 at.2 at.3
      least_at_end to (Some group) ends =
          let place : Place = ends.0 in
          let within : place.group < length found.words = All-contains (λ (p : Place). p.group < length found.words) found.places place done.orderly.within ends.1 in
          let word = get_or found.words group [] in
          let here : slice_get found.words group ≡ Some word = slice_get-get_or found.words group [] (omega (arith, within, ends.4)) in
          let met : IsMetBy found (to, END) word = (group, (place, ends.1, ends.2, ends.3, ends.4), here) in
          record {
            passes = (led_accepted to word).0 (done.sound (to, END) word met);
            least = λ other accepted.
                let earlier = done.complete (to, END) other ((led_accepted to other).1 accepted) in
                subst (λ w. IsUpTo w other) (done.once (to, END) earlier.0 word earlier.1 met) earlier.2;
          }

      -- what was read
      cost : Oid × States → ℕ
      cost place = cond (reads_on place.1) (reads_out edges place.0) 0

      sum_spots : (places : List Place) → sum_by (reads_at edges) places ≡ sum_by cost (map spot places)
      unfolding cost
      sum_spots [] = refl
      sum_spots (place ∷ places) =
          sum_by-cons (reads_at edges) place places
          ∙ ap (λ n. reads_at edges place + n) (sum_spots places)
          ∙ sym (sum_by-cons cost (spot place) (map spot places))

      price : (place : Oid × States) → IsPriced IsIn (END + 1) (reads_out edges) cost place
      unfolding cost
      price place = elim (reads_on place.1) as (λ b. reads_on place.1 ≡ b → (cond b (reads_out edges place.0) 0 ≡ 0)
          ⊎ ((state : ℕ) × IsIn place.1 state × (state < END + 1) × (cond b (reads_out edges place.0) 0 ≤ reads_out edges place.0))) [
            | true ↦ λ some. (let first = reads_on-true place.1 some in inr (first.0, first.1, omega (arith, first.2), omega arith))
            | false ↦ λ none. inl refl
          ] refl

      pub takes_reads : (before after : ℕ) → after ≡ before + sum_by (reads_at edges) found.places → TakesReads (reads_out edges) (IsWalked edges from) before after
      takes_reads before after spent all whole =
          let priced : All (IsPriced IsIn (END + 1) (reads_out edges) cost) (map spot found.places) = λ k d within. price (get_or (map spot found.places) k d) in
          omega (
            arith,
            spent,
            sum_spots found.places,
            sum_by-places IsIn (END + 1) (reads_out edges) cost (map spot found.places) done.orderly.apart priced all (λ there met.
                let at = Contains-from_map spot found.places (there.0, met.0) met.1 in
                let place : Place = at.0 in
                let own = word_of_place found place done.orderly at.1 in
                let led = done.sound there own.0 (place.group, (place, at.1, ap (λ (p : Oid × States). p.0) at.2, subst (λ (s : States). IsIn s there.1) (sym (ap (λ (p : Oid × States). p.1) at.2)) met.2, refl), own.1) in
                whole there.0 (led_walked there own.0 led)),
          )
