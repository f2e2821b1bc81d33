-- Arcs that are followed from a group: one that leads to nothing new, one that does, and one after another.
use Rattle.std.proofs.Common.{◌≡◌, ◌↔◌, ℕ, ◌<◌, ◌≤◌, ◌⊎◌, inl, inr, List, [], ◌∷◌, ◌++◌, length, map, take, get_or, Some, Option, All, AllPairs, refl, sym, ap, ◌∙◌, subst, arith}
use Rattle.std.specs.List.{slice_get, Contains}
use Rattle.std.specs.List.Sorted.{IsNonDecreasingBy}
use Rattle.std.proofs.lemmas.Bool.{cases_lt}
use Rattle.std.proofs.lemmas.List.{length_push, map_push, get_or-take, length-take}
use Rattle.std.proofs.lemmas.List.Elements.{All-contains, All-weaker, All-push, Contains-append_left, Contains-append_right, Contains-push, Contains-push_cases}
use Rattle.std.proofs.lemmas.List.Quantifiers.{all_pairs_push}
use Rattle.std.proofs.lemmas.Option.{slice_get_within, slice_get-get_or, get_or_from_slice_get}
use Rattle.lore_base.specs.Lists.{Extends}
use Rattle.lore_base.proofs.MemberLaws.{Contains-none, Contains-head, Contains-cases}
use Rattle.graph_search.specs.Closures.{IsMet, IsMarked, AreMarks, AreApart}
use Rattle.path_expr.specs.Machines.{IsIn}
use Rattle.least_words.specs.Types.{Oid, Label, States, Arc, Place}
use Rattle.lore_base.specs.LeastWords.{IsUpTo}
use Rattle.least_words.specs.inside.Groups.{spot, Found, IsMetIn, IsMetBy, IsMetUpTo, IsOrderly, IsAhead, ComesBy, Follows}
use Rattle.least_words.proofs.ListLaws.{one_at_place, Extends-refl, kept_at, length-extends, was_at}
use Rattle.least_words.proofs.GroupLaws.{OpensWord}
use Rattle.lore_base.proofs.LeastWordLaws.{IsUpTo-refl, label_up_to}
use Rattle.list_laws.proofs.PlaceLaws.{Contains-from_place, slice_get-push, Extends-trans, Contains-extends}
use Rattle.list_laws.proofs.MemberLaws.{Contains-from_map}

-- what is met stays met as more is found
module _ (old new : Found) (places : Extends old.places new.places) (words : Extends old.words new.words) where
  pub IsMetIn-kept : (there : Oid × ℕ) (group : ℕ) → IsMetIn old there group → IsMetIn new there group
  IsMetIn-kept there group met = (met.0, Contains-extends old.places new.places met.0 places met.1, met.2, met.3, met.4)

  pub IsMetBy-kept : (there : Oid × ℕ) (word : List Label) → IsMetBy old there word → IsMetBy new there word
  IsMetBy-kept there word met = (met.0, IsMetIn-kept there met.0 met.1, kept_at old.words new.words met.0 word words met.2)

  pub IsMetUpTo-kept : (there : Oid × ℕ) (word : List Label) → IsMetUpTo old there word → IsMetUpTo new there word
  IsMetUpTo-kept there word met = (met.0, IsMetBy-kept there met.0 met.1, met.2)

-- the word of a place that stands
pub word_of_place : (found : Found) (place : Place) → IsOrderly found → Contains found.places place → (word : List Label) × (slice_get found.words place.group ≡ Some word)
word_of_place found place orderly among =
    let within : place.group < length found.words = All-contains (λ (p : Place). p.group < length found.words) found.places place orderly.within among in
    (get_or found.words place.group [], slice_get-get_or found.words place.group [] within)

-- what is met already is met by a word that is not ahead
pub met_already : (found : Found) (word : List Label) (label : Label) (there : Oid × ℕ) → IsOrderly found → IsAhead found.words word label
    → IsMet IsIn (map spot found.places) there → IsMetUpTo found there (word ++ label ∷ [])
met_already found word label there orderly ahead met =
    let at = Contains-from_map spot found.places (there.0, met.0) met.1 in
    let place : Place = at.0 in
    let own = word_of_place found place orderly at.1 in (
      own.0,
      (place.group, (place, at.1, ap (λ (p : Oid × States). p.0) at.2, subst (λ (s : States). IsIn s there.1) (sym (ap (λ (p : Oid × States). p.1) at.2)) met.2, refl), own.1),
      ahead own.0 (Contains-from_place found.words place.group own.0 own.1),
    )

-- one arc alone
only_arc : (arc other : Arc) → Contains (arc ∷ []) other → arc ≡ other
only_arc arc other among = elim (Contains-cases arc [] other among) [ inl same ↦ same | inr none ↦ absurd (Contains-none other none) ]

module _ (old : Found) (word : List Label) (arc : Arc) (orderly : IsOrderly old) (ahead : IsAhead old.words word arc.label) where
  -- the arc leads to nothing new
  pub follows_none : ((state : ℕ) → IsIn arc.states state → IsMet IsIn (map spot old.places) (arc.oid, state)) → Follows word (arc ∷ []) old old
  follows_none all = record {
    places = Extends-refl old.places;
    words = Extends-refl old.words;
    met = λ other among state within. subst (λ (a : Arc). IsIn a.states state → IsMetUpTo old (a.oid, state) (word ++ a.label ∷ []))
        (only_arc arc other among) (λ h. met_already old word arc.label (arc.oid, state) orderly ahead (all state h)) within;
    come = λ k place behind at. absurd (omega (arith, behind, slice_get_within old.places k place at));
    made = λ other among. inl among;
  }

  -- or to a place of a group
  module _ (new : Found) (fresh : States) (place : Place) (at_oid : place.oid ≡ arc.oid) (at_states : place.states ≡ fresh)
      (pushed : new.places ≡ old.places ++ place ∷ []) (opens : OpensWord old.words new.words (word ++ arc.label ∷ []) place.group) where
    pub follows_fresh : ((state : ℕ) → IsIn fresh state → IsIn arc.states state)
        → ((state : ℕ) → IsIn arc.states state → IsMet IsIn (map spot old.places) (arc.oid, state) ⊎ IsIn fresh state) → Follows word (arc ∷ []) old new
    follows_fresh among_arc split =
        let places : Extends old.places new.places = (place ∷ [], pushed) in
        let here : Contains new.places place = subst (λ l. Contains l place) (sym pushed) (Contains-push old.places place) in
        record {
          places = places;
          words = opens.extends;
          met = λ other among state within. subst (λ (a : Arc). IsIn a.states state → IsMetUpTo new (a.oid, state) (word ++ a.label ∷ []))
              (only_arc arc other among)
              (λ h. elim (split state h) [
                | inl earlier ↦ IsMetUpTo-kept old new places opens.extends (arc.oid, state) (word ++ arc.label ∷ []) (met_already old word arc.label (arc.oid, state) orderly ahead earlier)
                | inr now ↦ (
                  word ++ arc.label ∷ [],
                  (place.group, (place, here, at_oid, subst (λ (s : States). IsIn s state) (sym at_states) now, refl), opens.at),
                  IsUpTo-refl (word ++ arc.label ∷ []),
                )
              ])
              within;
          come = λ k other behind at.
              let last : k ≡ length old.places = omega (arith, behind, slice_get_within new.places k other at, ap length pushed, length_push old.places place) in
              let same : place ≡ other = one_at_place new.places k place other
              (ap (slice_get new.places) last ∙ ap (λ l. slice_get l (length old.places)) pushed ∙ slice_get-push old.places place) at in
              subst (λ (p : Place). ComesBy new.words word (arc ∷ []) p) same
              (arc, Contains-head arc [], sym at_oid, λ state h. among_arc state (subst (λ (s : States). IsIn s state) at_states h), opens.at);
          made = λ other among. elim (opens.made other among) [
            | inl earlier ↦ inl earlier
            | inr now ↦ inr (arc, Contains-head arc [], now)
          ];
        }

    pub orderly_fresh : AreApart IsIn (map spot old.places ++ (arc.oid, fresh) ∷ []) → IsOrderly new
    orderly_fresh apart =
        let long = length-extends old.words new.words opens.extends in
        let earlier : All (λ (p : Place). p.group < length new.words) old.places =
        All-weaker (λ (p : Place). p.group < length old.words) (λ (p : Place). p.group < length new.words) (λ p h. omega (arith, h, long)) old.places orderly.within in
        let spots : map spot new.places ≡ map spot old.places ++ (arc.oid, fresh) ∷ [] =
        ap (map spot) pushed ∙ map_push spot old.places place ∙ ap (λ (p : Oid × States). map spot old.places ++ p ∷ []) (λ i. (at_oid i, at_states i)) in
        record {
          rising = opens.rising;
          ordered = subst (AllPairs (λ a b. a.group ≤ b.group)) (sym pushed) (all_pairs_push (λ a b. a.group ≤ b.group) old.places place orderly.ordered
              (λ k d within. omega (arith, orderly.within k d within, long, opens.last)));
          apart = subst (AreApart IsIn) (sym spots) apart;
          within = subst (All (λ (p : Place). p.group < length new.words)) (sym pushed)
              (All-push (λ (p : Place). p.group < length new.words) old.places place earlier (omega (arith, opens.last)));
        }

-- a state of the arc was met or is fresh
pub split_states : (marked : Oid → Option States) (spots : List (Oid × States)) (oid : Oid) (states before fresh : States) → AreMarks IsIn marked spots
    → ((state : ℕ) → IsIn before state ⊎ (IsIn before state → ⊥)) → ((state : ℕ) → IsIn before state ↔ IsMarked IsIn (marked oid) state)
    → ((state : ℕ) → IsIn fresh state ↔ (IsIn states state × (IsIn before state → ⊥)))
    → (state : ℕ) → IsIn states state → IsMet IsIn spots (oid, state) ⊎ IsIn fresh state
split_states marked spots oid states before fresh are told had new state within = elim (told state) [
  | inl there ↦ inl ((are (oid, state)).1 ((had state).0 there))
  | inr lacks ↦ inr ((new state).1 (within, lacks))
]

-- no arc, and one arc after others
pub Follows-none : (word : List Label) (found : Found) → Follows word [] found found
Follows-none word found = record {
  places = Extends-refl found.places;
  words = Extends-refl found.words;
  met = λ arc among. absurd (Contains-none arc among);
  come = λ k place behind at. absurd (omega (arith, behind, slice_get_within found.places k place at));
  made = λ other among. inl among;
}

ComesBy-kept : (old new : List (List Label)) (word : List Label) (arcs wider : List Arc) (place : Place) → Extends old new → ((arc : Arc) → Contains arcs arc → Contains wider arc)
    → ComesBy old word arcs place → ComesBy new word wider place
ComesBy-kept old new word arcs wider place extends wide comes =
    let arc : Arc = comes.0 in
    (arc, wide arc comes.1, comes.2, comes.3, kept_at old new place.group (word ++ arc.label ∷ []) extends comes.4)

pub Follows-then : (word : List Label) (arcs : List Arc) (arc : Arc) (old middle new : Found) → Follows word arcs old middle → Follows word (arc ∷ []) middle new
    → Follows word (arcs ++ arc ∷ []) old new
Follows-then word arcs arc old middle new first second =
    let left : (a : Arc) → Contains arcs a → Contains (arcs ++ arc ∷ []) a = λ a among. Contains-append_left arcs (arc ∷ []) a among in
    let right : (a : Arc) → Contains (arc ∷ []) a → Contains (arcs ++ arc ∷ []) a = λ a among. Contains-append_right arcs (arc ∷ []) a among in
    record {
      places = Extends-trans old.places middle.places new.places first.places second.places;
      words = Extends-trans old.words middle.words new.words first.words second.words;
      met = λ other among state within. elim (Contains-push_cases arcs arc other among) [
        | inl earlier ↦ IsMetUpTo-kept middle new second.places second.words (other.oid, state) (word ++ other.label ∷ []) (first.met other earlier state within)
        | inr same ↦ second.met other (subst (Contains (arc ∷ [])) same (Contains-head arc [])) state within
      ];
      come = λ k place behind at. elim (cases_lt k (length middle.places)) [
        | inl earlier ↦ ComesBy-kept middle.words new.words word arcs (arcs ++ arc ∷ []) place second.words left
            (first.come k place behind (was_at middle.places new.places k place second.places earlier at))
        | inr now ↦ ComesBy-kept new.words new.words word (arc ∷ []) (arcs ++ arc ∷ []) place (Extends-refl new.words) right (second.come k place now at)
      ];
      made = λ other among. elim (second.made other among) [
        | inl earlier ↦ elim (first.made other earlier) [ inl was ↦ inl was | inr came ↦ inr (came.0, left came.0 came.1, came.2) ]
        | inr now ↦ inr (now.0, right now.0 now.1, now.2)
      ];
    }

-- the label of the next arc is not behind the words made so far
pub IsAhead-next : (word : List Label) (arcs : List Arc) (i : ℕ) (arc : Arc) (old found : Found) → slice_get arcs i ≡ Some arc → IsNonDecreasingBy (λ (a : Arc). a.label.0) arcs
    → ((label : Label) → IsAhead old.words word label) → Follows word (take i arcs) old found → IsAhead found.words word arc.label
IsAhead-next word arcs i arc old found at ascend ahead follows other among = elim (follows.made other among) [
  | inl earlier ↦ ahead arc.label other earlier
  | inr made ↦
      let first : Arc = made.0 in
      let k : ℕ = made.1.0 in
      let within = slice_get_within arcs i arc at in
      let below : k < i = omega (arith, made.1.1, length-take i arcs) in
      let is_first : get_or arcs k first ≡ first = sym (get_or-take i arcs k first below) ∙ made.1.2 in
      let is_arc : get_or arcs i first ≡ arc = get_or_from_slice_get arcs i arc first at in
      let up : first.label.0 ≤ arc.label.0 =
      subst (λ (a : Arc). a.label.0 ≤ arc.label.0) is_first (subst (λ (a : Arc). (get_or arcs k first).label.0 ≤ a.label.0) is_arc (ascend k i first (omega (arith, below)) within)) in
      subst (λ w. IsUpTo w (word ++ arc.label ∷ [])) (sym made.2) (label_up_to word first.label arc.label up)
]
