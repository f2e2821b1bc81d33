-- Which runs begin and which end between two moments, as marks tell it, and that these tell what differs between the two.
use Rattle.std.proofs.Common.{◌≡◌, ◌≢◌, ◌⊎◌, ◌↔◌, inl, inr, ℕ, ◌+◌, ◌-◌, ◌<◌, ◌≤◌, List, [], ◌∷◌, ◌++◌, length, map, cond, Bool, true, false, get_or, take, drop, Option, None, Some, Equal}
use Rattle.std.proofs.Common.{All, AllPairs, Contains, IsPermutation, refl, sym, ap, ◌∙◌, subst, append_assoc, append-nil, arith, length-take, length-drop}
use Rattle.std.specs.List.{slice_get}
use Rattle.std.specs.Option.{option_to_list}
use Rattle.std.specs.declared.cmp.Ordering.{Ordering}
use Rattle.std.proofs.lemmas.Bool.{cases_lt}
use Rattle.std.proofs.lemmas.List.{take_more, get_or-take, get_or-drop}
use Rattle.std.proofs.lemmas.List.Elements.{Contains-get_or, Contains-append_left, Contains-append_right, Contains-append_cases}
use Rattle.std.proofs.lemmas.List.Kept.{AllPairs-cons}
use Rattle.std.proofs.lemmas.List.Sorted.{Contains-permutation, IsPermutation-sym}
use Rattle.std.proofs.lemmas.Option.{slice_get_within, slice_get-get_or, get_or_from_slice_get}
use Rattle.lore_base.specs.Deltas.{ListsOnlyIn}
use Rattle.lore_base.proofs.MemberLaws.{Contains-none, Contains-head, Contains-tail, Contains-cases}
use Rattle.lore_base.proofs.ListLaws.{AllPairs-head, AllPairs-tail}
use Rattle.list_laws.proofs.PairLaws.{AllPairs-nil}
use Rattle.list_laws.proofs.PlaceLaws.{Contains-from_place, place_of_member, pair_at}
use Rattle.doem_facts.proofs.FactSetLaws.{pair_cases}
use Rattle.doem_history.specs.Types.{Run, Mark}
use Rattle.doem_history.specs.Histories.{holds, facts_at}
use Rattle.doem_history.specs.inside.Kept.{Apart, AreKept, AreFacts}
use Rattle.doem_history.specs.inside.Marks.{IsMark, AreMarked, runs_at, IsLeaving, IsComing}
use Rattle.doem_history.proofs.KeptLaws.{held, is_held, AreApart, distinct_held}
use Rattle.doem_history.proofs.MovedLaws.{facts_at-append}

-- ---- a stretch of a list
module _ {X : Type 0} (xs : List X) (from to : ℕ) (order : from ≤ to) (within : to ≤ length xs) where
  abbrev stretch : List X
  stretch = take (to - from) (drop from xs)

  read_stretch : (i : ℕ) (d : X) → i < length stretch → get_or stretch i d ≡ get_or xs (from + i) d
  read_stretch i d lt = get_or-take (to - from) (drop from xs) i d (omega (arith, lt, length-take (to - from) (drop from xs))) ∙ get_or-drop from xs i d

  long_stretch : length stretch ≡ to - from
  long_stretch = omega (arith, length-take (to - from) (drop from xs), length-drop from xs)

  pub in_stretch : (x : X) → Contains stretch x → (i : ℕ) × (from ≤ i) × (i < to) × (slice_get xs i ≡ Some x)
  in_stretch x at =
      let lt : from + at.0 < to = omega (arith, at.1, long_stretch) in
      (from + at.0, omega arith, lt, slice_get-get_or xs (from + at.0) x (omega (arith, lt)) ∙ ap Some (sym (read_stretch at.0 x at.1) ∙ at.2))

  pub to_stretch : (x : X) (i : ℕ) → from ≤ i → i < to → slice_get xs i ≡ Some x → Contains stretch x
  to_stretch x i above below at =
      let lt : i - from < length stretch = omega (arith, above, below, long_stretch) in
      let here : from + (i - from) ≡ i = omega (arith, above) in
      (i - from, lt, read_stretch (i - from) x lt ∙ ap (λ k. get_or xs k x) here ∙ get_or_from_slice_get xs i x x at)

  pub pairs_stretch : (R : X → X → Type 0) → AllPairs R xs → AllPairs R stretch
  pairs_stretch R pairs i j d lt len =
      rw (read_stretch i d (omega (arith, lt, len)), read_stretch j d len) (pairs (from + i) (from + j) d (omega arith) (omega (arith, len, long_stretch)))

-- ---- runs at places
pub runs_at-push : {F : Type 0} (runs : List (Run F)) (places : List ℕ) (place : ℕ) → runs_at runs (places ++ place ∷ []) ≡ runs_at runs places ++ option_to_list (slice_get runs place)
runs_at-push runs [] place = append-nil (option_to_list (slice_get runs place))
runs_at-push runs (first ∷ places) place =
    ap (λ l. option_to_list (slice_get runs first) ++ l) (runs_at-push runs places place)
    ∙ sym (append_assoc (option_to_list (slice_get runs first)) (runs_at runs places) (option_to_list (slice_get runs place)))

module _ {F : Type 0} (runs : List (Run F)) (places : List ℕ) (moment index place d : ℕ) (run : Run F) (facts : List F) (so_far : facts ≡ facts_at moment (runs_at runs (take index places)))
    (within : index < length places) (place_is : place ≡ get_or places index d) (there : place < length runs) (run_is : run ≡ get_or runs place run) where
  runs_more : runs_at runs (take (index + 1) places) ≡ runs_at runs (take index places) ++ run ∷ []
  runs_more =
      let at : slice_get runs place ≡ Some run = slice_get-get_or runs place run there ∙ ap Some (sym run_is) in
      ap (λ (l : List ℕ). runs_at runs l) (take_more places index d within ∙ ap (λ (p : ℕ). take index places ++ p ∷ []) (sym place_is))
      ∙ runs_at-push runs (take index places) place
      ∙ ap (λ (o : Option (Run F)). runs_at runs (take index places) ++ option_to_list o) at

  joined : (more : List F) → facts_at moment (run ∷ []) ≡ more → facts ++ more ≡ facts_at moment (runs_at runs (take (index + 1) places))
  joined more is =
      ap (λ (l : List F). l ++ more) so_far ∙ ap (λ (l : List F). facts_at moment (runs_at runs (take index places)) ++ l) (sym is)
      ∙ sym (facts_at-append moment (runs_at runs (take index places)) (run ∷ []))
      ∙ ap (λ (l : List (Run F)). facts_at moment l) (sym runs_more)

  pub held_on : (more : List F) (copy : F) (test : Bool) → test ≡ holds moment run → test ≡ true → copy ≡ run.fact → more ≡ facts ++ copy ∷ []
      → more ≡ facts_at moment (runs_at runs (take (index + 1) places))
  held_on more copy test tested passes copied pushed =
      let one : facts_at moment (run ∷ []) ≡ run.fact ∷ [] =
      subst (λ b. map (λ (r : Run F). r.fact) (cond b (run ∷ []) []) ≡ run.fact ∷ []) (sym passes ∙ tested) refl in
      pushed ∙ ap (λ (x : F). facts ++ x ∷ []) copied ∙ joined (run.fact ∷ []) one

  pub held_past : (test : Bool) → test ≡ holds moment run → test ≡ false → facts ≡ facts_at moment (runs_at runs (take (index + 1) places))
  held_past test tested fails =
      let none : facts_at moment (run ∷ []) ≡ [] = subst (λ b. map (λ (r : Run F). r.fact) (cond b (run ∷ []) []) ≡ []) (sym fails ∙ tested) refl in
      sym (append-nil facts) ∙ joined [] none

from_runs_at : {F : Type 0} (runs : List (Run F)) (places : List ℕ) (run : Run F) → Contains (runs_at runs places) run
    → (place : ℕ) × Contains places place × (slice_get runs place ≡ Some run)
from_runs_at runs [] run at = absurd (Contains-none run at)
from_runs_at {F} runs (place ∷ places) run at = elim (Contains-append_cases (option_to_list (slice_get runs place)) (runs_at runs places) run at) [
  | inl here ↦ (
    place,
    Contains-head place places,
    elim (slice_get runs place) as (λ o. Contains (option_to_list o) run → o ≡ Some run) [
      | None ↦ λ none. absurd (Contains-none run none)
      | Some found ↦ λ one. elim (Contains-cases found [] run one) [ inl same ↦ ap Some same | inr none ↦ absurd (Contains-none run none) ]
    ] here,
  )
  | inr behind ↦ (let later = from_runs_at runs places run behind in (later.0, Contains-tail place places later.0 later.1, later.2))
]

to_runs_at : {F : Type 0} (runs : List (Run F)) (places : List ℕ) (place : ℕ) (run : Run F) → Contains places place → slice_get runs place ≡ Some run
    → Contains (runs_at runs places) run
to_runs_at runs [] place run there at = absurd (Contains-none place there)
to_runs_at {F} runs (first ∷ places) place run there at = elim (Contains-cases first places place there) [
  | inl same ↦ Contains-append_left (option_to_list (slice_get runs first)) (runs_at runs places) run
      (subst (λ o. Contains (option_to_list o) run) (sym (ap (slice_get runs) same ∙ at)) (Contains-head run []))
  | inr later ↦ Contains-append_right (option_to_list (slice_get runs first)) (runs_at runs places) run (to_runs_at runs places place run later at)
]

apart_at : {F : Type 0} (runs : List (Run F)) → AllPairs Apart runs → (i j : ℕ) (a b : Run F) → i ≢ j → slice_get runs i ≡ Some a → slice_get runs j ≡ Some b → AreApart a b
apart_at runs apart i j a b differ at_a at_b = elim (cases_lt i j) [
  | inl before ↦ inl (pair_at Apart runs i j a b apart before at_a at_b)
  | inr late ↦ elim (cases_lt j i) [
    | inl behind ↦ inr (pair_at Apart runs j i b a apart behind at_b at_a)
    | inr same ↦ absurd (differ (omega (arith, late, same)))
  ]
]

apart_runs_at : {F : Type 0} (runs : List (Run F)) → AllPairs Apart runs → (places : List ℕ) → AllPairs (λ a b. a ≢ b) places → AllPairs AreApart (runs_at runs places)
apart_runs_at runs apart [] distinct = AllPairs-nil AreApart
apart_runs_at {F} runs apart (place ∷ places) distinct =
    let others = apart_runs_at runs apart places (AllPairs-tail (λ (a b : ℕ). a ≢ b) place places distinct) in
    elim (slice_get runs place) as (λ o. slice_get runs place ≡ o → AllPairs AreApart (option_to_list o ++ runs_at runs places)) [
      | None ↦ λ none. others
      | Some run ↦ λ is. AllPairs-cons AreApart run (runs_at runs places) (λ k d lt.
          let from = from_runs_at runs places (get_or (runs_at runs places) k d) (Contains-get_or (runs_at runs places) k d lt) in
          apart_at runs apart place from.0 run (get_or (runs_at runs places) k d)
          (AllPairs-head (λ (a b : ℕ). a ≢ b) place places distinct from.0 from.1) is from.2) others
    ] refl

-- ---- which runs begin and which end between two moments
pub read_mark : (marks : List Mark) (moment : ℕ) (mark : Mark) → moment < length marks → mark ≡ get_or marks moment mark → slice_get marks moment ≡ Some mark
read_mark marks moment mark within is = slice_get-get_or marks moment mark within ∙ ap Some (sym is)

-- two moments in order, with their marks
pub record AreBetween {F : Type 0} (runs : List (Run F)) (over : List ℕ) (marks : List Mark) (moments before after : ℕ) (first last : Mark) : Type 0 where
  pub are_kept : AreKept moments runs
  pub are_marked : AreMarked runs over marks
  pub in_order : before ≤ after
  pub in_time : after < moments
  pub at_first : slice_get marks before ≡ Some first
  pub at_last : slice_get marks after ≡ Some last

pub between_of : {F : Type 0} (runs told : List (Run F)) (over : List ℕ) (marks : List Mark) (moments before after : ℕ) (first last : Mark) → AreMarked runs over marks → runs ≡ told
    → length marks ≡ moments → AreKept moments told → before ≤ after → after < moments → first ≡ get_or marks before first → last ≡ get_or marks after last
    → AreBetween runs over marks moments before after first last
between_of {F} runs told over marks moments before after first last marked same long kept order within first_is last_is = record {
  are_kept = subst (λ (l : List (Run F)). AreKept moments l) (sym same) kept;
  are_marked = marked;
  in_order = order;
  in_time = within;
  at_first = read_mark marks before first (omega (arith, long, order, within)) first_is;
  at_last = read_mark marks after last (omega (arith, long, within)) last_is;
}

module _ {F : Type 0} (runs : List (Run F)) (over : List ℕ) (marks : List Mark) (moments before after : ℕ) (first last : Mark) (b : AreBetween runs over marks moments before after first last) where
  kept : AreKept moments runs
  kept = b.are_kept

  marked : AreMarked runs over marks
  marked = b.are_marked

  order : before ≤ after
  order = b.in_order

  within : after < moments
  within = b.in_time

  from_mark : IsMark runs over before first
  from_mark = marked.each before first b.at_first

  to_mark : IsMark runs over after last
  to_mark = marked.each after last b.at_last

  run_at : (xs : List (Run F)) (i : ℕ) → i < length xs → (run : Run F) × (slice_get xs i ≡ Some run)
  run_at [] i lt = absurd (omega (arith, lt))
  run_at (run ∷ xs) i lt = (get_or (run ∷ xs) i run, slice_get-get_or (run ∷ xs) i run lt)

  pub begun_rise : first.begun ≤ last.begun
  begun_rise = elim (cases_lt last.begun first.begun) [
    | inr rise ↦ rise
    | inl falls ↦
        let is = from_mark.begun_within in
        let this = run_at runs last.begun (omega (arith, falls, is)) in
        let early = (from_mark.begun last.begun this.0 this.1).1 falls in
        let below = (to_mark.begun last.begun this.0 this.1).0 (omega (arith, early, order)) in
        absurd (omega (arith, below))
  ]

  pub ended_rise : first.ended ≤ last.ended
  ended_rise = elim (cases_lt last.ended first.ended) [
    | inr rise ↦ rise
    | inl falls ↦
        let is = from_mark.ended_within in
        let place : ℕ = get_or over last.ended 0 in
        let there : slice_get over last.ended ≡ Some place = slice_get-get_or over last.ended 0 (omega (arith, falls, is)) in
        let this = marked.ended place (Contains-from_place over last.ended place there) in
        let early = (from_mark.ended last.ended place this.0 there this.1).1 falls in
        let below = (to_mark.ended last.ended place this.0 there this.1).0 (omega (arith, early, order)) in
        absurd (omega (arith, below))
  ]

  pub begun_within : last.begun ≤ length runs
  begun_within = to_mark.begun_within

  pub ended_within : last.ended ≤ length over
  ended_within = to_mark.ended_within

  pub coming_told : (fact : F) → Contains (facts_at after (take (last.begun - first.begun) (drop first.begun runs))) fact ↔ IsComing runs before after fact
  coming_told fact = (
    λ at.
        let this = held after (take (last.begun - first.begun) (drop first.begun runs)) fact at in
        let place = in_stretch runs first.begun last.begun begun_rise begun_within this.run this.among in record {
          run = this.run;
          among = Contains-from_place runs place.0 this.run place.3;
          of = this.of;
          late = elim (cases_lt before this.run.begin) [
            | inl late ↦ late
            | inr early ↦ (let below = (from_mark.begun place.0 this.run place.3).0 early in absurd (omega (arith, below, place.1)))
          ];
          since = this.since;
          until = this.until;
        },
    λ coming.
        let place = place_of_member runs coming.run coming.among in
        let below = (to_mark.begun place.0 coming.run place.1).0 coming.since in
        let above : first.begun ≤ place.0 = elim (cases_lt place.0 first.begun) [
          | inr above ↦ above
          | inl early ↦ (let begins = (from_mark.begun place.0 coming.run place.1).1 early in let late = coming.late in absurd (omega (arith, begins, late)))
        ] in
        subst (λ (f : F). Contains (facts_at after (take (last.begun - first.begun) (drop first.begun runs))) f) coming.of
        (is_held after (take (last.begun - first.begun) (drop first.begun runs)) coming.run
        (to_stretch runs first.begun last.begun begun_rise begun_within coming.run place.0 above below place.1) coming.since coming.until),
  )

  pub coming_distinct : AllPairs (λ a b. a ≢ b) (facts_at after (take (last.begun - first.begun) (drop first.begun runs)))
  coming_distinct = distinct_held after (take (last.begun - first.begun) (drop first.begun runs))
      (λ i j d lt len. inl (pairs_stretch runs first.begun last.begun begun_rise begun_within Apart kept.apart i j d lt len))

  -- each of these places has a run
  pub leaving_within : All (λ place. place < length runs) (take (last.ended - first.ended) (drop first.ended over))
  leaving_within k d lt =
      let places = take (last.ended - first.ended) (drop first.ended over) in
      let place = get_or places k d in
      let from = in_stretch over first.ended last.ended ended_rise ended_within place (Contains-get_or places k d lt) in
      let was = marked.ended place (Contains-from_place over from.0 place from.3) in
      slice_get_within runs place was.0 was.1

  pub leaving_told : (fact : F) → Contains (facts_at before (runs_at runs (take (last.ended - first.ended) (drop first.ended over)))) fact ↔ IsLeaving runs before after fact
  leaving_told fact = (
    λ at.
        let places = take (last.ended - first.ended) (drop first.ended over) in
        let this = held before (runs_at runs places) fact at in
        let from = from_runs_at runs places this.run this.among in
        let k = in_stretch over first.ended last.ended ended_rise ended_within from.0 from.1 in record {
          run = this.run;
          among = Contains-from_place runs from.0 this.run from.2;
          of = this.of;
          since = this.since;
          until = this.until;
          over = (to_mark.ended k.0 from.0 this.run k.3 from.2).1 k.2;
        },
    λ leaving.
        let few = kept.few in
        let over_by = leaving.over in
        let place = place_of_member runs leaving.run leaving.among in
        let there = marked.all place.0 leaving.run place.1 (λ on. absurd (omega (arith, on, over_by, within, few))) in
        let k = place_of_member over place.0 there in
        let below = (to_mark.ended k.0 place.0 leaving.run k.1 place.1).0 over_by in
        let above : first.ended ≤ k.0 = elim (cases_lt k.0 first.ended) [
          | inr above ↦ above
          | inl early ↦ (let ends = (from_mark.ended k.0 place.0 leaving.run k.1 place.1).1 early in let until = leaving.until in absurd (omega (arith, ends, until)))
        ] in
        let places = take (last.ended - first.ended) (drop first.ended over) in
        subst (λ (f : F). Contains (facts_at before (runs_at runs places)) f) leaving.of
        (is_held before (runs_at runs places) leaving.run
        (to_runs_at runs places place.0 leaving.run (to_stretch over first.ended last.ended ended_rise ended_within place.0 k.0 above below k.1) place.1)
        leaving.since leaving.until),
  )

  pub leaving_distinct : AllPairs (λ a b. a ≢ b) (facts_at before (runs_at runs (take (last.ended - first.ended) (drop first.ended over))))
  leaving_distinct =
      let places = take (last.ended - first.ended) (drop first.ended over) in
      distinct_held before (runs_at runs places)
      (apart_runs_at runs kept.apart places (pairs_stretch over first.ended last.ended ended_rise ended_within (λ a b. a ≢ b) marked.apart))

  -- the facts that code finds
  module _ (found : List F) (read stretched : List (Run F)) (read_is : read ≡ runs) (stretched_is : stretched ≡ take (last.begun - first.begun) (drop first.begun read))
      (found_is : found ≡ facts_at after stretched) where
    coming_is : found ≡ facts_at after (take (last.begun - first.begun) (drop first.begun runs))
    coming_is = found_is ∙ ap (λ (l : List (Run F)). facts_at after l) stretched_is
        ∙ ap (λ (l : List (Run F)). facts_at after (take (last.begun - first.begun) (drop first.begun l))) read_is

    pub coming_found : (fact : F) → Contains found fact ↔ IsComing runs before after fact
    coming_found fact = subst (λ (l : List F). Contains l fact ↔ IsComing runs before after fact) (sym coming_is) (coming_told fact)

    pub coming_apart : AllPairs (λ a b. a ≢ b) found
    coming_apart = subst (λ (l : List F). AllPairs (λ a b. a ≢ b) l) (sym coming_is) coming_distinct

  module _ (read : List (Run F)) (read_over places : List ℕ) (read_is : read ≡ runs) (over_is : read_over ≡ over)
      (places_are : places ≡ take (last.ended - first.ended) (drop first.ended read_over)) where
    places_is : places ≡ take (last.ended - first.ended) (drop first.ended over)
    places_is = places_are ∙ ap (λ (l : List ℕ). take (last.ended - first.ended) (drop first.ended l)) over_is

    pub places_in : All (λ place. place < length read) places
    places_in = subst (λ (l : List (Run F)). All (λ place. place < length l) places) (sym read_is)
        (subst (λ (l : List ℕ). All (λ place. place < length runs) l) (sym places_is) leaving_within)

    module _ (found : List F) (found_is : found ≡ facts_at before (runs_at read places)) where
      leaving_is : found ≡ facts_at before (runs_at runs (take (last.ended - first.ended) (drop first.ended over)))
      leaving_is = found_is ∙ ap (λ (l : List (Run F)). facts_at before (runs_at l places)) read_is ∙ ap (λ (l : List ℕ). facts_at before (runs_at runs l)) places_is

      pub leaving_found : (fact : F) → Contains found fact ↔ IsLeaving runs before after fact
      leaving_found fact = subst (λ (l : List F). Contains l fact ↔ IsLeaving runs before after fact) (sym leaving_is) (leaving_told fact)

      pub leaving_apart : AllPairs (λ a b. a ≢ b) found
      leaving_apart = subst (λ (l : List F). AllPairs (λ a b. a ≢ b) l) (sym leaving_is) leaving_distinct

-- ---- what differs between two moments is what leaves and doesn't come, and what comes and didn't leave
module _ {F : Type 0} (runs : List (Run F)) (apart : AllPairs Apart runs) (before after : ℕ) (order : before ≤ after) where
  in_turn : (a b : Run F) → Contains runs a → Contains runs b → a.fact ≡ b.fact → (a ≡ b) ⊎ ((a.end < b.begin) ⊎ (b.end < a.begin))
  in_turn a b at_a at_b same = elim (pair_cases Apart runs a b apart at_a at_b) [
    | inl is ↦ inl is
    | inr either ↦ elim either [ inl first ↦ inr (inl (first same)) | inr second ↦ inr (inr (second (sym same))) ]
  ]

  pub gone_told : (fact : F) → (IsLeaving runs before after fact × (IsComing runs before after fact → ⊥))
      ↔ (Contains (facts_at before runs) fact × (Contains (facts_at after runs) fact → ⊥))
  gone_told fact = (
    λ both.
        let a = both.0 in
        let over = a.over in let until = a.until in let since = a.since in (
          subst (λ (f : F). Contains (facts_at before runs) f) a.of (is_held before runs a.run a.among since until),
          λ there.
              let b = held after runs fact there in
              let since_b = b.since in let until_b = b.until in
              elim (in_turn a.run b.run a.among b.among (a.of ∙ sym b.of)) [
                | inl same ↦ (let ends : a.run.end ≡ b.run.end = ap (λ (r : Run F). r.end) same in absurd (omega (arith, ends, over, until_b)))
                | inr either ↦ elim either [
                  | inl first ↦ absurd (both.1 (record { run = b.run; among = b.among; of = b.of; late = omega (arith, first, until); since = since_b; until = until_b }))
                  | inr second ↦ absurd (omega (arith, second, since, order, until_b))
                ]
              ],
        ),
    λ both.
        let a = held before runs fact both.0 in
        let since = a.since in let until = a.until in (
          record {
            run = a.run;
            among = a.among;
            of = a.of;
            since = since;
            until = until;
            over = elim (cases_lt after a.run.end) [
              | inr over ↦ over
              | inl on ↦ absurd (both.1 (subst (λ (f : F). Contains (facts_at after runs) f) a.of (is_held after runs a.run a.among (omega (arith, since, order)) on)))
            ];
          },
          λ coming. both.1 (subst (λ (f : F). Contains (facts_at after runs) f) coming.of (is_held after runs coming.run coming.among coming.since coming.until)),
        ),
  )

  pub come_told : (fact : F) → (IsComing runs before after fact × (IsLeaving runs before after fact → ⊥))
      ↔ (Contains (facts_at after runs) fact × (Contains (facts_at before runs) fact → ⊥))
  come_told fact = (
    λ both.
        let a = both.0 in
        let late = a.late in let until = a.until in let since = a.since in (
          subst (λ (f : F). Contains (facts_at after runs) f) a.of (is_held after runs a.run a.among since until),
          λ there.
              let b = held before runs fact there in
              let since_b = b.since in let until_b = b.until in
              elim (in_turn a.run b.run a.among b.among (a.of ∙ sym b.of)) [
                | inl same ↦ (let begins : a.run.begin ≡ b.run.begin = ap (λ (r : Run F). r.begin) same in absurd (omega (arith, begins, late, since_b)))
                | inr either ↦ elim either [
                  | inl first ↦ absurd (omega (arith, first, since_b, order, until))
                  | inr second ↦ absurd (both.1 (record { run = b.run; among = b.among; of = b.of; since = since_b; until = until_b; over = omega (arith, second, since) }))
                ]
              ],
        ),
    λ both.
        let a = held after runs fact both.0 in
        let since = a.since in let until = a.until in (
          record {
            run = a.run;
            among = a.among;
            of = a.of;
            late = elim (cases_lt before a.run.begin) [
              | inl late ↦ late
              | inr early ↦ absurd (both.1 (subst (λ (f : F). Contains (facts_at before runs) f) a.of (is_held before runs a.run a.among early (omega (arith, until, order)))))
            ];
            since = since;
            until = until;
          },
          λ leaving. both.1 (subst (λ (f : F). Contains (facts_at before runs) f) leaving.of (is_held before runs leaving.run leaving.among leaving.since leaving.until)),
        ),
  )

-- ---- lists of them
-- facts that were sorted are the same facts
pub told_sorted : {F : Type 0} (P : F → Type 0) (found sorted : List F) → IsPermutation found sorted → ((fact : F) → Contains found fact ↔ P fact) → (fact : F) → Contains sorted fact ↔ P fact
told_sorted P found sorted moved told fact = (
  λ at. (told fact).0 (Contains-permutation sorted found fact (IsPermutation-sym found sorted moved) at),
  λ is. Contains-permutation found sorted fact moved ((told fact).1 is),
)

-- one place in the order has one fact of those that leave, and one of those that come
module _ {F : Type 0} (cmp : F → F → Ordering) (moments : ℕ) (runs : List (Run F)) (facts : AreFacts cmp moments runs) (before after : ℕ) (order : before ≤ after) (within : after < moments) where
  pub leaving_once : (found : List F) → ((fact : F) → Contains found fact ↔ IsLeaving runs before after fact) → (a b : F) → Contains found a → Contains found b → cmp a b ≡ Equal → a ≡ b
  leaving_once found told a b at_a at_b same =
      let stood : (fact : F) → IsLeaving runs before after fact → Contains (facts_at before runs) fact = λ fact is.
      subst (λ (f : F). Contains (facts_at before runs) f) is.of (is_held before runs is.run is.among is.since is.until) in
      facts.once before (omega (arith, order, within)) a b (stood a ((told a).0 at_a)) (stood b ((told b).0 at_b)) same

  pub coming_once : (found : List F) → ((fact : F) → Contains found fact ↔ IsComing runs before after fact) → (a b : F) → Contains found a → Contains found b → cmp a b ≡ Equal → a ≡ b
  coming_once found told a b at_a at_b same =
      let stands : (fact : F) → IsComing runs before after fact → Contains (facts_at after runs) fact = λ fact is.
      subst (λ (f : F). Contains (facts_at after runs) f) is.of (is_held after runs is.run is.among is.since is.until) in
      facts.once after within a b (stands a ((told a).0 at_a)) (stands b ((told b).0 at_b)) same

-- what is in one list only, told otherwise
pub only_as : {F : Type 0} (P Q A B : F → Type 0) (only some others : List F) → ListsOnlyIn only some others → ((fact : F) → Contains some fact ↔ P fact) → ((fact : F) → Contains others fact ↔ Q fact)
    → ((fact : F) → (P fact × (Q fact → ⊥)) ↔ (A fact × (B fact → ⊥))) → (fact : F) → Contains only fact ↔ (A fact × (B fact → ⊥))
only_as P Q A B only some others exact some_told others_told told fact = (
  λ at. (let both = (exact fact).0 at in (told fact).0 ((some_told fact).0 both.0, λ q. both.1 ((others_told fact).1 q))),
  λ both. (let back = (told fact).1 both in (exact fact).1 ((some_told fact).1 back.0, λ there. back.1 ((others_told fact).0 there))),
)
