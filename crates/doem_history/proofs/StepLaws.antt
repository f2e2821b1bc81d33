-- The new moment tells what the changes say, the runs stay as they must be, and the weight grows by the facts that come.
use Rattle.std.proofs.Common.{◌≡◌, ◌≢◌, ◌⊎◌, ◌↔◌, ℕ, ◌+◌, ◌<◌, inl, inr, List, [], ◌∷◌, map, get_or, zero, suc}
use Rattle.std.proofs.Common.{All, AllPairs, Contains, refl, sym, ap, ◌∙◌, subst, arith, Some}
use Rattle.std.specs.List.{slice_get, sum_by}
use Rattle.std.proofs.lemmas.Bool.{cases_lt}
use Rattle.std.proofs.lemmas.List.Elements.{Contains-append_left, Contains-append_right, Contains-append_cases, Contains-get_or}
use Rattle.std.proofs.lemmas.List.Sums.{sum_by-append, sum_by-cons}
use Rattle.lore_base.proofs.MemberLaws.{Contains-same}
use Rattle.lore_base.proofs.ListLaws.{AllPairs-append}
use Rattle.list_laws.proofs.MemberLaws.{Contains-from_map}
use Rattle.list_laws.proofs.PlaceLaws.{Contains-from_place, place_of_member, pair_at}
use Rattle.list_laws.proofs.SumLaws.{sum_by-within}
use Rattle.doem_history.specs.Types.{Run, STANDING}
use Rattle.doem_history.specs.Runs.{IsWeight}
use Rattle.doem_history.specs.Histories.{facts_at}
use Rattle.doem_history.specs.Plans.{IsOpen, AreEnding}
use Rattle.doem_history.specs.inside.Kept.{Apart, AreKept, within, end_at, ended, begun, moved_on}
use Rattle.doem_history.proofs.KeptLaws.{held, is_held}
use Rattle.doem_history.proofs.MovedLaws.{one_there, pairs_from, ended-place, was_at, within_then, facts_at-append, facts_at-begun}

pub mapped_place : {X Y : Type 0} (f : X → Y) (xs : List X) (i : ℕ) (y : Y) → slice_get (map f xs) i ≡ Some y → (x : X) × (slice_get xs i ≡ Some x) × (f x ≡ y)
mapped_place f [] i y is = cc
mapped_place f (x ∷ xs) zero y is = (x, refl, (cc))
mapped_place f (x ∷ xs) (suc i) y is = mapped_place f xs i y is

module _ {F : Type 0} (runs : List (Run F)) (last later : ℕ) (behind : last + 1 ≡ later) (kept : AreKept later runs) where
  -- of one fact only one run goes on
  one_open : (fact : F) (i j : ℕ) → IsOpen runs i fact → IsOpen runs j fact → i ≡ j
  one_open fact i j first second =
      let few = kept.few in
      let one = (kept.each first.run (Contains-from_place runs i first.run first.at)).begun in
      let two = (kept.each second.run (Contains-from_place runs j second.run second.at)).begun in
      let on = first.goes_on in let on_too = second.goes_on in
      elim (cases_lt i j) [
        | inl early ↦ (let apart = pair_at Apart runs i j first.run second.run kept.apart early first.at second.at (first.of ∙ sym second.of) in absurd (omega arith))
        | inr late ↦ elim (cases_lt j i) [
          | inl early ↦ (let apart = pair_at Apart runs j i second.run first.run kept.apart early second.at first.at (second.of ∙ sym first.of) in absurd (omega arith))
          | inr same ↦ omega arith
        ]
      ]

  -- a kept run that holds the last moment goes on, and the other way round
  pub goes_on : (run : Run F) → Contains runs run → last < run.end → run.end ≡ STANDING
  goes_on run at until = elim (kept.each run at).over [ inl over ↦ absurd (omega arith) | inr on ↦ on ]

  open_held : (run : Run F) → Contains runs run → run.end ≡ STANDING → Contains (facts_at last runs) run.fact
  open_held run at on =
      let few = kept.few in let begun_before = (kept.each run at).begun in
      is_held last runs run at (omega arith) (omega arith)

  module _ (gone come : List F) (places : List ℕ) (ending : AreEnding runs gone places) where
    then_told : (fact : F) → Contains (facts_at later (moved_on later places come runs)) fact
        → Contains come fact ⊎ (Contains (facts_at last runs) fact × (Contains gone fact → ⊥))
    then_told fact at =
        let few = kept.few in
        elim (Contains-append_cases (facts_at later (ended later places runs)) (facts_at later (begun later come)) fact
        (subst (λ (l : List F). Contains l fact) (facts_at-append later (ended later places runs) (begun later come)) at)) [
          | inr new ↦ inl (subst (λ (l : List F). Contains l fact) (facts_at-begun later come few) new)
          | inl stayed ↦
              let this = held later (ended later places runs) fact stayed in
              let until = this.until in
              let place = place_of_member (ended later places runs) this.run this.among in
              let was = was_at later places runs place.0 this.run place.1 in
              let among = Contains-from_place runs place.0 was.0 was.1 in
              elim was.2.end [
                | inl (there, ends) ↦ absurd (omega arith)
                | inr (not_there, stays) ↦
                    let on = goes_on was.0 among (omega arith) in
                    let is : was.0.fact ≡ fact = sym was.2.fact ∙ this.of in
                    inr (
                      subst (λ (f : F). Contains (facts_at last runs) f) is (open_held was.0 among on),
                      λ goes. (let other = ending.all fact goes in
                          let here : IsOpen runs place.0 fact = record { run = was.0; at = was.1; goes_on = on; of = is } in
                          not_there (subst (λ (k : ℕ). Contains places k) (one_open fact other.0 place.0 other.2 here) other.1)),
                    )
              ]
        ]

    then_tells : (fact : F) → Contains come fact ⊎ (Contains (facts_at last runs) fact × (Contains gone fact → ⊥))
        → Contains (facts_at later (moved_on later places come runs)) fact
    then_tells fact either =
        let few = kept.few in
        subst (λ (l : List F). Contains l fact) (sym (facts_at-append later (ended later places runs) (begun later come))) (elim either [
          | inl new ↦ Contains-append_right (facts_at later (ended later places runs)) (facts_at later (begun later come)) fact
              (subst (λ (l : List F). Contains l fact) (sym (facts_at-begun later come few)) new)
          | inr (before, stays) ↦
              let this = held last runs fact before in
              let on = goes_on this.run this.among this.until in
              let place = place_of_member runs this.run this.among in
              let then = ended-place later places runs place.0 this.run place.1 in
              let begun_before = (kept.each this.run this.among).begun in
              let same_begin = then.2.begin in
              let still : then.0.end ≡ STANDING = elim then.2.end [
                | inl (there, ends) ↦ (let why = ending.each place.0 there in let other = why.2 in
                    absurd (stays (subst (λ (f : F). Contains gone f) (sym other.of ∙ ap (λ (r : Run F). r.fact) (one_there runs place.0 other.run this.run other.at place.1) ∙ this.of) why.1)))
                | inr (not_there, kept_end) ↦ kept_end ∙ on
              ] in
              Contains-append_left (facts_at later (ended later places runs)) (facts_at later (begun later come)) fact
              (subst (λ (f : F). Contains (facts_at later (ended later places runs)) f) (then.2.fact ∙ this.of)
              (is_held later (ended later places runs) then.0 (Contains-from_place (ended later places runs) place.0 then.0 then.1) (omega arith) (omega arith)))
        ])

    -- what stands at the new moment
    pub facts_then : (fact : F) → Contains (facts_at later (moved_on later places come runs)) fact
        ↔ (Contains come fact ⊎ (Contains (facts_at last runs) fact × (Contains gone fact → ⊥)))
    facts_then fact = (then_told fact, then_tells fact)

    module _ (new : (fact : F) → Contains come fact → Contains (facts_at last runs) fact → ⊥) (distinct : AllPairs (λ a b. a ≢ b) come) (few_then : later + 1 < STANDING) where
      ended_apart : AllPairs Apart (ended later places runs)
      ended_apart = pairs_from Apart (ended later places runs) (λ i j x y lt is_x is_y same.
          let was_x = was_at later places runs i x is_x in
          let was_y = was_at later places runs j y is_y in
          let apart = pair_at Apart runs i j was_x.0 was_y.0 kept.apart lt was_x.1 was_y.1 (sym was_x.2.fact ∙ same ∙ was_y.2.fact) in
          let few = kept.few in
          let begun_before = (kept.each was_y.0 (Contains-from_place runs j was_y.0 was_y.1)).begun in
          let same_begin = was_y.2.begin in
          elim was_x.2.end [
            | inl (there, ends) ↦ (let other = (ending.each i there).2 in
                let on : was_x.0.end ≡ STANDING = ap (λ (r : Run F). r.end) (one_there runs i was_x.0 other.run was_x.1 other.at) ∙ other.goes_on in absurd (omega arith))
            | inr (not_there, stays) ↦ omega arith
          ])

      across : (x y : Run F) → Contains (ended later places runs) x → Contains (begun later come) y → Apart x y
      across x y at_x at_y same =
          let from = Contains-from_map (λ (fact : F). record { fact = fact; begin = later; end = STANDING }) come y at_y in
          let begin : y.begin ≡ later = sym (ap (λ (r : Run F). r.begin) from.2) in
          let fact : from.0 ≡ x.fact = ap (λ (r : Run F). r.fact) from.2 ∙ sym same in
          let fresh : Contains (facts_at last runs) x.fact → ⊥ = new x.fact (Contains-same come from.0 x.fact fact from.1) in
          let place = place_of_member (ended later places runs) x at_x in
          let was = was_at later places runs place.0 x place.1 in
          let among = Contains-from_place runs place.0 was.0 was.1 in
          let not_open : was.0.end ≡ STANDING → ⊥ = λ on. fresh (subst (λ (f : F). Contains (facts_at last runs) f) (sym was.2.fact) (open_held was.0 among on)) in
          elim was.2.end [
            | inl (there, ends) ↦ (let other = (ending.each place.0 there).2 in
                absurd (not_open (ap (λ (r : Run F). r.end) (one_there runs place.0 was.0 other.run was.1 other.at) ∙ other.goes_on)))
            | inr (not_there, stays) ↦ elim (kept.each was.0 among).over [ inl over ↦ omega arith | inr on ↦ absurd (not_open on) ]
          ]

      begun_apart : AllPairs Apart (begun later come)
      begun_apart = pairs_from Apart (begun later come) (λ i j x y lt is_x is_y same.
          let from_x = map_place i x is_x in let from_y = map_place j y is_y in
          absurd (pair_at (λ a b. a ≢ b) come i j from_x.0 from_y.0 distinct lt from_x.1 from_y.1
          (ap (λ (r : Run F). r.fact) from_x.2 ∙ same ∙ sym (ap (λ (r : Run F). r.fact) from_y.2))))
        where
          map_place : (i : ℕ) (x : Run F) → slice_get (begun later come) i ≡ Some x → (fact : F) × (slice_get come i ≡ Some fact) × (record { fact = fact; begin = later; end = STANDING } ≡ x)
          map_place i x is = mapped_place (λ (fact : F). let r : Run F = record { fact = fact; begin = later; end = STANDING } in r) come i x is

      -- the runs stay as they must be
      pub kept_then : AreKept (later + 1) (moved_on later places come runs)
      kept_then = record {
        few = few_then;
        each = within_then runs later places come kept;
        apart = AllPairs-append Apart (ended later places runs) (begun later come) ended_apart begun_apart
            (λ i j d lt_i lt_j. across (get_or (ended later places runs) i d) (get_or (begun later come) j d) (Contains-get_or (ended later places runs) i d lt_i) (Contains-get_or (begun later come) j d lt_j));
      }

-- The weight.

pub weight-within : {F : Type 0} (cost : F → ℕ) (moments : ℕ) (runs : List (Run F)) → sum_by (λ run. cost run.fact) (map (within moments) runs) ≡ sum_by (λ run. cost run.fact) runs
weight-within cost moments [] = refl
weight-within cost moments (run ∷ runs) =
    let f = λ (r : Run _). cost r.fact in
    sum_by-cons f (within moments run) (map (within moments) runs) ∙ ap (λ n. cost run.fact + n) (weight-within cost moments runs) ∙ sym (sum_by-cons f run runs)

weight-end_at : {F : Type 0} (cost : F → ℕ) (moment place : ℕ) (runs : List (Run F)) → sum_by (λ run. cost run.fact) (end_at moment place runs) ≡ sum_by (λ run. cost run.fact) runs
weight-end_at cost moment place [] = refl
weight-end_at cost moment zero (run ∷ runs) = let f = λ (r : Run _). cost r.fact in sum_by-cons f (record run { end = moment }) runs ∙ sym (sum_by-cons f run runs)
weight-end_at cost moment (suc place) (run ∷ runs) =
    let f = λ (r : Run _). cost r.fact in
    sum_by-cons f run (end_at moment place runs) ∙ ap (λ n. cost run.fact + n) (weight-end_at cost moment place runs) ∙ sym (sum_by-cons f run runs)

weight-ended : {F : Type 0} (cost : F → ℕ) (moment : ℕ) (places : List ℕ) (runs : List (Run F)) → sum_by (λ run. cost run.fact) (ended moment places runs) ≡ sum_by (λ run. cost run.fact) runs
weight-ended cost moment [] runs = refl
weight-ended cost moment (place ∷ places) runs = weight-ended cost moment places (end_at moment place runs) ∙ weight-end_at cost moment place runs

pub weight-begun : {F : Type 0} (cost : F → ℕ) (moment : ℕ) (come : List F) → sum_by (λ run. cost run.fact) (begun moment come) ≡ sum_by cost come
weight-begun cost moment [] = refl
weight-begun cost moment (fact ∷ come) =
    let f = λ (r : Run _). cost r.fact in
    sum_by-cons f (record { fact = fact; begin = moment; end = STANDING }) (begun moment come) ∙ ap (λ n. cost fact + n) (weight-begun cost moment come) ∙ sym (sum_by-cons cost fact come)

-- one moment more adds what the facts weigh that come, and nothing else
pub weight-moved_on : {F : Type 0} (cost : F → ℕ) (moment : ℕ) (places : List ℕ) (come : List F) (runs : List (Run F))
    → sum_by (λ run. cost run.fact) (moved_on moment places come runs) ≡ sum_by (λ run. cost run.fact) runs + sum_by cost come
weight-moved_on cost moment places come runs =
    let both = sum_by-append (λ (run : Run _). cost run.fact) (ended moment places runs) (begun moment come) in
    both ∙ ap (λ n. n + sum_by (λ run. cost run.fact) (begun moment come)) (weight-ended cost moment places runs)
    ∙ ap (λ n. sum_by (λ run. cost run.fact) runs + n) (weight-begun cost moment come)

-- a history weighs one thing
pub one_weight : {F : Type 0} (cost : F → ℕ) (times : List (List F)) (w v : ℕ) → IsWeight cost times w → IsWeight cost times v → w ≡ v
one_weight {F} cost times w v one two =
    let within_two : All (Contains two.0) one.0 = λ k d lt. (two.1.exact (get_or one.0 k d)).1 ((one.1.exact (get_or one.0 k d)).0 (Contains-get_or one.0 k d lt)) in
    let within_one : All (Contains one.0) two.0 = λ k d lt. (one.1.exact (get_or two.0 k d)).1 ((two.1.exact (get_or two.0 k d)).0 (Contains-get_or two.0 k d lt)) in
    let below = sum_by-within (λ (run : Run F). cost run.fact) one.0 two.0 one.1.distinct within_two in
    let above = sum_by-within (λ (run : Run F). cost run.fact) two.0 one.0 two.1.distinct within_one in
    let w_is = one.2 in let v_is = two.2 in
    omega arith
