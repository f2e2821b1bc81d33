-- A turn of the search, from what its calls ensure; and what it reads.
use Rattle.std.proofs.Common.{◌≡◌, ◌≢◌, ◌↔◌, ℕ, ◌+◌, ◌-◌, ◌<◌, ◌≤◌, List, length, take, drop, get_or, Some, sym, ap, ◌∙◌, arith}
use Rattle.std.specs.List.{slice_get, sum_by}
use Rattle.std.proofs.lemmas.List.{take-append-drop, take-take, drop-take, take-append-le, get_or_default}
use Rattle.std.proofs.lemmas.List.Elements.{Contains-get_or}
use Rattle.std.proofs.lemmas.List.Sums.{sum_by-append}
use Rattle.std.proofs.lemmas.Option.{slice_get_within, slice_get-get_or, get_or_from_slice_get}
use Rattle.lore_base.specs.Lists.{Extends}
use Rattle.least_words.specs.Types.{Oid, Label, Arc, Place}
use Rattle.least_words.specs.inside.Arcs.{LeadsFromSome, IsListed}
use Rattle.least_words.specs.inside.Groups.{Found, IsOrderly, IsAhead, Follows}
use Rattle.least_words.specs.inside.Searches.{IsSearched}
use Rattle.least_words.proofs.FollowLaws.{word_of_place}
use Rattle.least_words.proofs.SearchLaws.{IsSearched-more}

-- the place that a read gives where nothing stands
abbrev pub no_place : Place
no_place = record { oid = record { 0 = 0 }; states = record { 0 = 0 }; group = 0 }

module _ (leads : Oid × ℕ → Label → Oid × ℕ → Type 0) (Starts : Oid × ℕ → Type 0) (old : Found) (next : ℕ)
    (done : IsSearched leads Starts old next) (more : next < length old.places) where
  -- the next place's group has a word, and no word is behind it
  pub next_word : (word : List Label) × (slice_get old.words (get_or old.places next no_place).group ≡ Some word)
  next_word = word_of_place old (get_or old.places next no_place) done.orderly (Contains-get_or old.places next no_place more)

  pub next_within : (get_or old.places next no_place).group < length old.words
  next_within = done.orderly.within next no_place more

  pub next_ahead : (word : List Label) → slice_get old.words (get_or old.places next no_place).group ≡ Some word → (label : Label) → IsAhead old.words word label
  next_ahead word has = done.ahead (get_or old.places next no_place) word (slice_get-get_or old.places next no_place more) has

  pub turn : (new : Found) (end : ℕ) (arcs : List Arc) → next < end → end ≤ length old.places
      → ((k : ℕ) (d : Place) → next ≤ k → k < end → (get_or old.places k d).group ≡ (get_or old.places next d).group)
      → ((d : Place) → end < length old.places → (get_or old.places end d).group ≢ (get_or old.places next d).group)
      → ((label : Label) (there : Oid × ℕ) → IsListed arcs label there ↔ LeadsFromSome leads (take (end - next) (drop next old.places)) label there)
      → ((word : List Label) → slice_get old.words (get_or old.places next no_place).group ≡ Some word → Follows word arcs old new)
      → IsOrderly new → IsSearched leads Starts new end
  turn new end arcs after within same other exact follows orderly =
      let first : Place = get_or old.places next no_place in
      let own = next_word in
      let default : (d : Place) → (get_or old.places next d).group ≡ first.group = λ d. ap (λ (p : Place). p.group) (get_or_default old.places next d no_place more) in
      IsSearched-more leads Starts old new next end arcs first own.0 done (slice_get-get_or old.places next no_place more) own.1 after within
      (λ k place low high at. sym (ap (λ (p : Place). p.group) (get_or_from_slice_get old.places k place place at)) ∙ same k place low high ∙ default place)
      (λ place at equal. other place (slice_get_within old.places end place at)
      (ap (λ (p : Place). p.group) (get_or_from_slice_get old.places end place place at) ∙ equal ∙ sym (default place)))
      exact (follows own.0 own.1) orderly

-- a sum over the first places, and over those of a turn
pub sum_turn : {X : Type 0} (f : X → ℕ) (old new : List X) (next end : ℕ) → next ≤ end → end ≤ length old → Extends old new
    → sum_by f (take end new) ≡ sum_by f (take next old) + sum_by f (take (end - next) (drop next old))
sum_turn f old new next end below within extends =
    let count : next + (end - next) ≡ end = omega (arith, below) in
    ap (λ l. sum_by f (take end l)) extends.1
    ∙ ap (sum_by f) (take-append-le end old extends.0 within)
    ∙ ap (λ n. sum_by f (take n old)) (sym count)
    ∙ ap (sum_by f) (sym (take-append-drop next (take (next + (end - next)) old)))
    ∙ sum_by-append f (take next (take (next + (end - next)) old)) (drop next (take (next + (end - next)) old))
    ∙ ap (λ l. sum_by f l + sum_by f (drop next (take (next + (end - next)) old))) (take-take next (next + (end - next)) old (omega arith))
    ∙ ap (λ l. sum_by f (take next old) + sum_by f l) (drop-take next (end - next) old)
