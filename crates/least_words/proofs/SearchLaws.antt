-- A search turn by turn, and what it has found at its end.
use Rattle.std.proofs.Common.{◌≡◌, ◌≢◌, ◌↔◌, ℕ, ◌-◌, ◌<◌, ◌≤◌, inl, inr, List, [], ◌∷◌, ◌++◌, length, map, take, drop, get_or, Some, refl, sym, ap, ◌∙◌, subst, arith}
use Rattle.std.specs.List.{slice_get, Contains}
use Rattle.std.specs.declared.cmp.Ordering.TheVariants.{Less}
use Rattle.std.proofs.lemmas.Bool.{cases_lt}
use Rattle.std.proofs.lemmas.List.{append-nil, append_assoc, length_push, length-map, get_or-map}
use Rattle.std.proofs.lemmas.Option.{slice_get_within, get_or_from_slice_get, same_Some}
use Rattle.lore_base.proofs.MemberLaws.{Contains-none, Contains-head, Contains-cases}
use Rattle.path_expr.specs.Machines.{IsIn}
use Rattle.least_words.specs.Types.{Oid, Label, States, Arc, Place}
use Rattle.lore_base.specs.LeastWords.{shortlex_cmp, IsUpTo}
use Rattle.least_words.specs.inside.Arcs.{LeadsFromSome, IsListed}
use Rattle.least_words.specs.inside.Groups.{spot, Found, AreApartPlaces, IsMetIn, IsMetBy, IsMetUpTo, IsOrderly, Follows}
use Rattle.least_words.specs.inside.Searches.{LeadsAlong, IsLedTo, IsSearched, AreFound}
use Rattle.least_words.proofs.ListLaws.{one_at_place, kept_at, was_at, in_part, part_at}
use Rattle.least_words.proofs.GroupLaws.{rising_at}
use Rattle.least_words.proofs.FollowLaws.{IsMetBy-kept, IsMetUpTo-kept, word_of_place}
use Rattle.lore_base.proofs.LeastWordLaws.{IsUpTo-refl, IsUpTo-trans, IsUpTo-push, before_up_to, before_push}
use Rattle.list_laws.proofs.PlaceLaws.{Contains-from_place, place_of_member}

module _ {X : Type 0} (leads : X → Label → X → Type 0) where
  along_push : (word : List Label) (x y z : X) (label : Label) → LeadsAlong leads x word y → leads y label z → LeadsAlong leads x (word ++ label ∷ []) z
  along_push [] x y z label same step = (z, subst (λ v. leads v label z) (sym same) step, refl)
  along_push (first ∷ word) x y z label along step = (along.0, along.1, along_push word along.0 y z label along.2 step)

  pub IsLedTo-push : (Starts : X → Type 0) (word : List Label) (y z : X) (label : Label) → IsLedTo leads Starts y word → leads y label z → IsLedTo leads Starts z (word ++ label ∷ [])
  IsLedTo-push Starts word y z label led step = (led.0, led.1, along_push word led.0 y z label led.2 step)

module _ (leads : Oid × ℕ → Label → Oid × ℕ → Type 0) where
  -- the first group is found
  module _ (from : Oid) (starts : States) where
    abbrev pub first_place : Place
    first_place = record { oid = from; states = starts; group = 0 }

    abbrev pub first_found : Found
    first_found = record { places = first_place ∷ []; words = [] ∷ [] }

    only_place : (place : Place) → Contains first_found.places place → first_place ≡ place
    only_place place among = elim (Contains-cases first_place [] place among) [ inl same ↦ same | inr none ↦ absurd (Contains-none place none) ]

    only_word : (word : List Label) → Contains first_found.words word → [] ≡ word
    only_word word among = elim (Contains-cases [] [] word among) [ inl same ↦ same | inr none ↦ absurd (Contains-none word none) ]

    first_orderly : IsOrderly first_found
    first_orderly = record {
      rising = λ i j d below within. absurd (omega (arith, below, within));
      ordered = λ i j d below within. absurd (omega (arith, below, within));
      apart = λ i j d below within. absurd (omega (arith, below, within));
      within = λ k d within. at_first k d within;
    }
      where
        at_first : (k : ℕ) (d : Place) → k < length (first_place ∷ []) → (get_or (first_place ∷ []) k d).group < 1
        at_first k d within = (let zeroth : k ≡ 0 = omega (arith, within) in subst (λ i. (get_or (first_place ∷ []) i d).group < 1) (sym zeroth) (omega arith))

    pub IsSearched-none : IsSearched leads (λ there. (from ≡ there.0) × IsIn starts there.1) first_found 0
    IsSearched-none = record {
      orderly = first_orderly;
      started = λ there start. (0, (first_place, Contains-head first_place [], start.0, start.1, refl), refl);
      sound = λ there word met.
          let place : Place = met.1.0 in
          let same = only_place place met.1.1 in
          let group : met.0 ≡ 0 = sym met.1.4 ∙ sym (ap (λ (p : Place). p.group) same) in
          let empty : [] ≡ word = same_Some [] word (sym (ap (slice_get first_found.words) group) ∙ met.2) in
          let oid : from ≡ there.0 = ap (λ (p : Place). p.oid) same ∙ met.1.2 in
          let state : IsIn starts there.1 = subst (λ (p : Place). IsIn p.states there.1) (sym same) met.1.3 in
          subst (IsLedTo leads (λ (t : Oid × ℕ). (from ≡ t.0) × IsIn starts t.1) there) empty (there, (oid, state), refl);
      closed = λ k place word below. absurd (omega (arith, below));
      ahead = λ place word at here label other among.
          let same = only_place place (Contains-from_place first_found.places 0 place at) in
          let empty : [] ≡ word = same_Some [] word (ap (slice_get first_found.words) (ap (λ (p : Place). p.group) same) ∙ here) in
          subst (λ w. IsUpTo w (word ++ label ∷ [])) (only_word other among)
          (subst (λ w. IsUpTo [] (w ++ label ∷ [])) empty (before_up_to [] (label ∷ []) refl));
    }

  -- a turn: the places of the next group are done with
  module _ (Starts : Oid × ℕ → Type 0) (old new : Found) (next end : ℕ) (arcs : List Arc) (first : Place) (word : List Label)
      (done : IsSearched leads Starts old next) (stands : slice_get old.places next ≡ Some first) (has : slice_get old.words first.group ≡ Some word)
      (below : next < end) (within : end ≤ length old.places)
      (same : (k : ℕ) (place : Place) → next ≤ k → k < end → slice_get old.places k ≡ Some place → place.group ≡ first.group)
      (other : (place : Place) → slice_get old.places end ≡ Some place → place.group ≢ first.group)
      (exact : (label : Label) (there : Oid × ℕ) → IsListed arcs label there ↔ LeadsFromSome leads (take (end - next) (drop next old.places)) label there)
      (follows : Follows word arcs old new) (orderly : IsOrderly new) where
    -- what the group leads to is led to
    led_on : (arc : Arc) (there : Oid × ℕ) → Contains arcs arc → arc.oid ≡ there.0 → IsIn arc.states there.1 → IsLedTo leads Starts there (word ++ arc.label ∷ [])
    led_on arc there among is within_arc =
        let from = (exact arc.label there).0 (arc, among, (refl, is, within_arc)) in
        let place : Place = from.0 in
        let part = part_at old.places next end place from.1 in
        let state : ℕ = from.2.0 in
        let group : place.group ≡ first.group = same part.0 place part.1 part.2 part.3 in
        IsLedTo-push leads Starts word (place.oid, state) there arc.label
        (done.sound (place.oid, state) word (first.group, (place, Contains-from_place old.places part.0 place part.3, refl, from.2.1, group), has)) from.2.2

    more_sound : (there : Oid × ℕ) (found : List Label) → IsMetBy new there found → IsLedTo leads Starts there found
    more_sound there found met =
        let place : Place = met.1.0 in
        let at = place_of_member new.places place met.1.1 in
        let here : slice_get new.words place.group ≡ Some found = ap (slice_get new.words) met.1.4 ∙ met.2 in
        elim (cases_lt at.0 (length old.places)) [
          | inl earlier ↦
              let among = Contains-from_place old.places at.0 place (was_at old.places new.places at.0 place follows.places earlier at.1) in
              let own = word_of_place old place done.orderly among in
              let is : own.0 ≡ found = one_at_place new.words place.group own.0 found (kept_at old.words new.words place.group own.0 follows.words own.1) here in
              subst (IsLedTo leads Starts there) is (done.sound there own.0 (place.group, (place, among, met.1.2, met.1.3, refl), own.1))
          | inr now ↦
              let comes = follows.come at.0 place now at.1 in
              let arc : Arc = comes.0 in
              let is : word ++ arc.label ∷ [] ≡ found = one_at_place new.words place.group (word ++ arc.label ∷ []) found comes.4 here in
              subst (IsLedTo leads Starts there) is (led_on arc there comes.1 (comes.2 ∙ met.1.2) (comes.3 there.1 met.1.3))
        ]

    more_closed : (k : ℕ) (place : Place) (own : List Label) → k < end → slice_get new.places k ≡ Some place
        → slice_get new.words place.group ≡ Some own → (state : ℕ) → IsIn place.states state
        → (label : Label) (there : Oid × ℕ) → leads (place.oid, state) label there → IsMetUpTo new there (own ++ label ∷ [])
    more_closed k place own before at here state is_in label there step =
        let was : slice_get old.places k ≡ Some place = was_at old.places new.places k place follows.places (omega (arith, before, within)) at in
        let among = Contains-from_place old.places k place was in
        let earlier = word_of_place old place done.orderly among in
        let is : earlier.0 ≡ own = one_at_place new.words place.group earlier.0 own (kept_at old.words new.words place.group earlier.0 follows.words earlier.1) here in
        elim (cases_lt k next) [
          | inl behind ↦ subst (λ w. IsMetUpTo new there (w ++ label ∷ [])) is
              (IsMetUpTo-kept old new follows.places follows.words there (earlier.0 ++ label ∷ []) (done.closed k place earlier.0 behind was earlier.1 state is_in label there step))
          | inr turn ↦
              let group = same k place turn before was in
              let words : word ≡ own = one_at_place new.words place.group word own
              (ap (slice_get new.words) group ∙ kept_at old.words new.words first.group word follows.words has) here in
              let listed = (exact label there).1 (place, in_part old.places next end k place turn before was, (state, is_in, step)) in
              let arc : Arc = listed.0 in
              let met = follows.met arc listed.1 there.1 listed.2.2 in
              subst (λ w. IsMetUpTo new there (w ++ label ∷ [])) words
              (subst (λ l. IsMetUpTo new there (word ++ l ∷ [])) listed.2.0
              (subst (λ o. IsMetUpTo new (o, there.1) (word ++ arc.label ∷ [])) listed.2.1 met))
        ]

    -- the next group's word is behind that of this one
    next_group : (place : Place) (own : List Label) → slice_get new.places end ≡ Some place → slice_get new.words place.group ≡ Some own → place.group ≢ first.group
    next_group place own at here group = elim (cases_lt end (length old.places)) [
      | inl earlier ↦ other place (was_at old.places new.places end place follows.places earlier at) group
      | inr now ↦
          let comes = follows.come end place now at in
          let arc : Arc = comes.0 in
          let is : word ≡ word ++ arc.label ∷ [] = one_at_place new.words place.group word (word ++ arc.label ∷ [])
          (ap (slice_get new.words) group ∙ kept_at old.words new.words first.group word follows.words has) comes.4 in
          omega (arith, ap length is, length_push word arc.label)
    ]

    next_word : (place : Place) (own : List Label) → slice_get new.places end ≡ Some place → slice_get new.words place.group ≡ Some own → shortlex_cmp word own ≡ Less
    next_word place own at here =
        let apart = next_group place own at here in
        let standing = kept_at old.places new.places next first follows.places stands in
        let ordered : (get_or new.places next place).group ≤ (get_or new.places end place).group = orderly.ordered next end place below (slice_get_within new.places end place at) in
        let is_first : (get_or new.places next place).group ≡ first.group = ap (λ (p : Place). p.group) (get_or_from_slice_get new.places next first place standing) in
        let is_place : (get_or new.places end place).group ≡ place.group = ap (λ (p : Place). p.group) (get_or_from_slice_get new.places end place place at) in
        rising_at new.words orderly.rising first.group place.group word own (omega (arith, apart, ordered, is_first, is_place))
        (kept_at old.words new.words first.group word follows.words has) here

    more_ahead : (place : Place) (own : List Label) → slice_get new.places end ≡ Some place → slice_get new.words place.group ≡ Some own
        → (label : Label) (late : List Label) → Contains new.words late → IsUpTo late (own ++ label ∷ [])
    more_ahead place own at here label late among =
        let less = next_word place own at here in
        elim (follows.made late among) [
          | inl earlier ↦ IsUpTo-trans late (word ++ label ∷ []) (own ++ label ∷ []) (done.ahead first word stands has label late earlier)
              (before_up_to (word ++ label ∷ []) (own ++ label ∷ []) (before_push word own label label less))
          | inr made ↦
              let arc : Arc = made.0 in
              subst (λ w. IsUpTo w (own ++ label ∷ [])) (sym made.2)
              (before_up_to (word ++ arc.label ∷ []) (own ++ label ∷ []) (before_push word own arc.label label less))
        ]

    pub IsSearched-more : IsSearched leads Starts new end
    IsSearched-more = record {
      orderly = orderly;
      started = λ there start. IsMetBy-kept old new follows.places follows.words there [] (done.started there start);
      sound = more_sound;
      closed = more_closed;
      ahead = more_ahead;
    }

  -- what is met is met in one group
  spots_apart : (places : List Place) (i j : ℕ) (a b : Place) (state : ℕ) → AreApartPlaces places → i < j → slice_get places i ≡ Some a → slice_get places j ≡ Some b
      → a.oid ≡ b.oid → IsIn a.states state → IsIn b.states state → ⊥
  spots_apart places i j a b state apart below at_a at_b same in_a in_b =
      let within = slice_get_within places j b at_b in
      let is_a : get_or (map spot places) i (spot a) ≡ spot a = get_or-map spot places i a (spot a) (omega (arith, below, within)) ∙ ap spot (get_or_from_slice_get places i a a at_a) in
      let is_b : get_or (map spot places) j (spot a) ≡ spot b = get_or-map spot places j a (spot a) within ∙ ap spot (get_or_from_slice_get places j b a at_b) in
      apart i j (spot a) below (omega (arith, within, length-map places spot))
      (ap (λ (p : Oid × States). p.0) is_a ∙ same ∙ sym (ap (λ (p : Oid × States). p.0) is_b)) state
      (subst (λ (p : Oid × States). IsIn p.1 state) (sym is_a) in_a) (subst (λ (p : Oid × States). IsIn p.1 state) (sym is_b) in_b)

  pub one_met : (found : Found) (there : Oid × ℕ) (g h : ℕ) → AreApartPlaces found.places → IsMetIn found there g → IsMetIn found there h → g ≡ h
  one_met found there g h apart first second =
      let a : Place = first.0 in
      let b : Place = second.0 in
      let at_a = place_of_member found.places a first.1 in
      let at_b = place_of_member found.places b second.1 in
      elim (cases_lt at_a.0 at_b.0) [
        | inl below ↦ absurd (spots_apart found.places at_a.0 at_b.0 a b there.1 apart below at_a.1 at_b.1 (first.2 ∙ sym second.2) first.3 second.3)
        | inr above ↦ elim (cases_lt at_b.0 at_a.0) [
          | inl under ↦ absurd (spots_apart found.places at_b.0 at_a.0 b a there.1 apart under at_b.1 at_a.1 (second.2 ∙ sym first.2) second.3 first.3)
          | inr here ↦
              let index : at_a.0 ≡ at_b.0 = omega (arith, above, here) in
              let same : a ≡ b = one_at_place found.places at_a.0 a b at_a.1 (ap (slice_get found.places) index ∙ at_b.1) in
              sym first.4 ∙ ap (λ (p : Place). p.group) same ∙ second.4
        ]
      ]

  module _ (Starts : Oid × ℕ → Type 0) (found : Found) (done : IsSearched leads Starts found (length found.places)) where
    pub once : (there : Oid × ℕ) (word other : List Label) → IsMetBy found there word → IsMetBy found there other → word ≡ other
    once there word other first second =
        let same : first.0 ≡ second.0 = one_met found there first.0 second.0 done.orderly.apart first.1 second.1 in
        same_Some word other (sym first.2 ∙ ap (slice_get found.words) same ∙ second.2)

    -- what is met leads on to what is met
    goes_on : (there next : Oid × ℕ) (word : List Label) (label : Label) → IsMetUpTo found there word → leads there label next → IsMetUpTo found next (word ++ label ∷ [])
    goes_on there next word label met step =
        let own : List Label = met.0 in
        let place : Place = met.1.1.0 in
        let at = place_of_member found.places place met.1.1.1 in
        let here : slice_get found.words place.group ≡ Some own = ap (slice_get found.words) met.1.1.4 ∙ met.1.2 in
        let then = done.closed at.0 place own (slice_get_within found.places at.0 place at.1) at.1 here there.1 met.1.1.3 label next
        (subst (λ o. leads (o, there.1) label next) (sym met.1.1.2) step) in
        (then.0, then.1, IsUpTo-trans then.0 (own ++ label ∷ []) (word ++ label ∷ []) then.2 (IsUpTo-push own word label met.2))

    goes_along : (front rest : List Label) (there end : Oid × ℕ) → IsMetUpTo found there front → LeadsAlong leads there rest end → IsMetUpTo found end (front ++ rest)
    goes_along front [] there end met same = subst (λ t. IsMetUpTo found t (front ++ [])) same (subst (IsMetUpTo found there) (sym (append-nil front)) met)
    goes_along front (label ∷ rest) there end met along =
        subst (IsMetUpTo found end) (append_assoc front (label ∷ []) rest)
        (goes_along (front ++ label ∷ []) rest along.0 end (goes_on there along.0 front label met along.1) along.2)

    pub IsSearched-all : AreFound leads Starts found
    IsSearched-all = record {
      orderly = done.orderly;
      sound = done.sound;
      complete = λ there word led.
          let start = done.started led.0 led.1 in
          goes_along [] word led.0 there ([], start, IsUpTo-refl []) led.2;
      once = once;
    }
