-- One moment more: some runs end, others begin, and the moments before it tell the same.
use Rattle.std.proofs.Common.{◌≡◌, ◌≢◌, ◌⊎◌, ℕ, ◌+◌, ◌<◌, inl, inr, List, [], ◌∷◌, ◌++◌, length, map, get_or, take, zero, suc}
use Rattle.std.proofs.Common.{true, false, cond, ◌&&◌, nat_le, nat_lt, AllPairs, Contains, refl, sym, ap, ◌∙◌, subst, arith, Some, length-take}
use Rattle.std.specs.List.{filter, slice_get}
use Rattle.std.proofs.lemmas.Bool.Decides.{nat_tests}
use Rattle.std.proofs.lemmas.List.{get_or-take, map-append, append-nil}
use Rattle.std.proofs.lemmas.List.Kept.{AllPairs-cons}
use Rattle.std.proofs.lemmas.List.Elements.{filter-append, Contains-get_or, Contains-push, Contains-push_cases, Contains-append_left, Contains-append_cases}
use Rattle.std.proofs.lemmas.Option.{slice_get-get_or, slice_get_within, slice_get_cases}
use Rattle.lore_base.proofs.MemberLaws.{Contains-none, Contains-head, Contains-tail, Contains-cases, Contains-same}
use Rattle.lore_base.proofs.ListLaws.{AllPairs-append, AllPairs-head, AllPairs-tail}
use Rattle.list_laws.proofs.MemberLaws.{Contains-from_map}
use Rattle.list_laws.proofs.PairLaws.{AllPairs-nil}
use Rattle.list_laws.proofs.PlaceLaws.{Contains-from_place, place_of_member}
use Rattle.doem_history.specs.Types.{Run, STANDING}
use Rattle.doem_history.specs.Histories.{holds, facts_at}
use Rattle.doem_history.specs.Plans.{IsOpen, AreEnding}
use Rattle.doem_history.specs.inside.Kept.{IsWithin, AreKept, end_at, ended, begun, moved_on}

-- Members by their places.

pub one_there : {X : Type 0} (xs : List X) (i : ℕ) (x y : X) → slice_get xs i ≡ Some x → slice_get xs i ≡ Some y → x ≡ y
one_there xs i x y is_x is_y = cc

pub pairs_from : {X : Type 0} (R : X → X → Type 0) (xs : List X)
    → ((i j : ℕ) (x y : X) → i < j → slice_get xs i ≡ Some x → slice_get xs j ≡ Some y → R x y) → AllPairs R xs
pairs_from R xs each i j d lt len =
    let lt_i : i < length xs = omega arith in
    each i j (get_or xs i d) (get_or xs j d) lt (slice_get-get_or xs i d lt_i) (slice_get-get_or xs j d len)

-- Runs that end.

pub length-end_at : {F : Type 0} (moment place : ℕ) (runs : List (Run F)) → length (end_at moment place runs) ≡ length runs
length-end_at moment place [] = refl
length-end_at moment zero (run ∷ runs) = refl
length-end_at moment (suc place) (run ∷ runs) = ap suc (length-end_at moment place runs)

pub length-ended : {F : Type 0} (moment : ℕ) (places : List ℕ) (runs : List (Run F)) → length (ended moment places runs) ≡ length runs
length-ended moment [] runs = refl
length-ended moment (place ∷ places) runs = length-ended moment places (end_at moment place runs) ∙ length-end_at moment place runs

-- what became of the run at a place
pub record IsEnded {F : Type 0} (moment : ℕ) (places : List ℕ) (place : ℕ) (old new : Run F) : Type 0 where
  pub fact : new.fact ≡ old.fact
  pub begin : new.begin ≡ old.begin
  pub end : (Contains places place × (new.end ≡ moment)) ⊎ ((Contains places place → ⊥) × (new.end ≡ old.end))

end_at-place : {F : Type 0} (moment place : ℕ) (runs : List (Run F)) (i : ℕ) (old : Run F) → slice_get runs i ≡ Some old
    → ((place ≡ i) × (slice_get (end_at moment place runs) i ≡ Some (record old { end = moment }))) ⊎ ((place ≢ i) × (slice_get (end_at moment place runs) i ≡ Some old))
end_at-place moment place [] i old is = cc
end_at-place moment zero (run ∷ runs) zero old is = inl (refl, (let same : run ≡ old = cc in ap (λ (r : Run _). Some (record r { end = moment })) same))
end_at-place moment zero (run ∷ runs) (suc i) old is = inr ((λ none. absurd (omega arith)), is)
end_at-place moment (suc place) (run ∷ runs) zero old is = inr ((λ none. absurd (omega arith)), is)
end_at-place moment (suc place) (run ∷ runs) (suc i) old is = elim (end_at-place moment place runs i old is) [
  | inl (same, there) ↦ inl (ap suc same, there)
  | inr (other, there) ↦ inr ((λ same. other (omega arith)), there)
]

pub ended-place : {F : Type 0} (moment : ℕ) (places : List ℕ) (runs : List (Run F)) (i : ℕ) (old : Run F) → slice_get runs i ≡ Some old
    → (new : Run F) × (slice_get (ended moment places runs) i ≡ Some new) × IsEnded moment places i old new
ended-place moment [] runs i old is = (old, is, record { fact = refl; begin = refl; end = inr (Contains-none i, refl) })
ended-place {F} moment (place ∷ places) runs i old is = elim (end_at-place moment place runs i old is) [
  | inl (same, there) ↦
      let later = ended-place moment places (end_at moment place runs) i (record old { end = moment }) there in
      let what = later.2 in
      (later.0, later.1, record { fact = what.fact; begin = what.begin; end = inl (Contains-same (place ∷ places) place i same (Contains-head place places), elim what.end [ inl ends ↦ ends.1 | inr stays ↦ stays.1 ]) })
  | inr (other, there) ↦
      let later = ended-place moment places (end_at moment place runs) i old there in
      let what = later.2 in (
        later.0,
        later.1,
        record {
          fact = what.fact;
          begin = what.begin;
          end = elim what.end [
            | inl ends ↦ inl (Contains-tail place places i ends.0, ends.1)
            | inr stays ↦ inr ((λ at. elim (Contains-cases place places i at) [ inl same ↦ other same | inr late ↦ stays.0 late ]), stays.1)
          ];
        },
      )
]

pub was_at : {F : Type 0} (moment : ℕ) (places : List ℕ) (runs : List (Run F)) (i : ℕ) (new : Run F) → slice_get (ended moment places runs) i ≡ Some new
    → (old : Run F) × (slice_get runs i ≡ Some old) × IsEnded moment places i old new
was_at moment places runs i new is = elim (slice_get_cases runs i).1 [
  | inl found ↦
      let later = ended-place moment places runs i found.0 found.2 in
      (found.0, found.2, subst (λ (r : Run _). IsEnded moment places i found.0 r) (one_there (ended moment places runs) i later.0 new later.1 is) later.2)
  | inr none ↦ (let within = slice_get_within (ended moment places runs) i new is in absurd (omega (arith, length-ended moment places runs)))
]

-- the runs begin and end within one moment more
module _ {F : Type 0} (runs : List (Run F)) (moments : ℕ) (places : List ℕ) (come : List F) (kept : AreKept moments runs) where
  ended_within : (run : Run F) → Contains (ended moments places runs) run → IsWithin (moments + 1) run
  ended_within run at =
      let place = place_of_member (ended moments places runs) run at in
      let was = was_at moments places runs place.0 run place.1 in
      let is = kept.each was.0 (Contains-from_place runs place.0 was.0 was.1) in
      let some = is.some in let begun_before = is.begun in let same = was.2.begin in
      elim was.2.end [
        | inl (there, ends) ↦ record { some = omega arith; begun = omega arith; over = inl (omega arith) }
        | inr (not_there, stays) ↦ record { some = omega arith; begun = omega arith; over = elim is.over [ inl over ↦ inl (omega arith) | inr on ↦ inr (stays ∙ on) ] }
      ]

  begun_within : (run : Run F) → Contains (begun moments come) run → IsWithin (moments + 1) run
  begun_within run at =
      let few = kept.few in
      let from = Contains-from_map (λ (fact : F). record { fact = fact; begin = moments; end = STANDING }) come run at in
      subst (λ (r : Run F). IsWithin (moments + 1) r) from.2 (record { some = omega arith; begun = omega arith; over = inr refl })

  pub within_then : (run : Run F) → Contains (moved_on moments places come runs) run → IsWithin (moments + 1) run
  within_then run at = elim (Contains-append_cases (ended moments places runs) (begun moments come) run at) [
    | inl old ↦ ended_within run old
    | inr fresh ↦ begun_within run fresh
  ]

-- Earlier moments tell the same.

holds_before : (begin end moment later : ℕ) → moment < later → moment < end
    → (nat_le begin moment && nat_lt moment later) ≡ (nat_le begin moment && nat_lt moment end)
holds_before begin end moment later early until = grind (arith, nat_tests)

facts_at-end_at : {F : Type 0} (moment later place : ℕ) (runs : List (Run F)) (run : Run F) → slice_get runs place ≡ Some run → moment < later
    → moment < run.end → facts_at moment (end_at later place runs) ≡ facts_at moment runs
facts_at-end_at moment later place [] run is early until = refl
facts_at-end_at moment later zero (first ∷ runs) run is early until =
    let same : run ≡ first = cc in
    let before : moment < first.end = subst (λ (r : Run _). moment < r.end) same until in
    let equal = holds_before first.begin first.end moment later early before in
    rw equal (elim (holds moment first) as (λ b. map (λ r. r.fact) (cond b (record first { end = later } ∷ filter (holds moment) runs) (filter (holds moment) runs))
    ≡ map (λ r. r.fact) (cond b (first ∷ filter (holds moment) runs) (filter (holds moment) runs))) [ true ↦ refl | false ↦ refl ])
facts_at-end_at moment later (suc place) (first ∷ runs) run is early until =
    let others = facts_at-end_at moment later place runs run is early until in
    elim (holds moment first) as (λ b. map (λ r. r.fact) (cond b (first ∷ filter (holds moment) (end_at later place runs)) (filter (holds moment) (end_at later place runs)))
    ≡ map (λ r. r.fact) (cond b (first ∷ filter (holds moment) runs) (filter (holds moment) runs))) [
      | true ↦ ap (λ l. first.fact ∷ l) others
      | false ↦ others
    ]

facts_at-ended : {F : Type 0} (moment later : ℕ) (places : List ℕ) (runs : List (Run F))
    → ((place : ℕ) → Contains places place → (run : Run F) × (slice_get runs place ≡ Some run) × (moment < run.end)) → moment < later
    → facts_at moment (ended later places runs) ≡ facts_at moment runs
facts_at-ended moment later [] runs each early = refl
facts_at-ended moment later (place ∷ places) runs each early =
    let here = each place (Contains-head place places) in
    let others = facts_at-ended moment later places (end_at later place runs) (λ other at.
    let run = each other (Contains-tail place places other at) in
    elim (end_at-place later place runs other run.0 run.1) [
      | inl (same, there) ↦ (record run.0 { end = later }, there, early)
      | inr (differs, there) ↦ (run.0, there, run.2)
    ]) early in
    others ∙ facts_at-end_at moment later place runs here.0 here.1 early here.2

pub facts_at-append : {F : Type 0} (moment : ℕ) (xs ys : List (Run F)) → facts_at moment (xs ++ ys) ≡ facts_at moment xs ++ facts_at moment ys
facts_at-append moment xs ys = ap (map (λ r. r.fact)) (filter-append (holds moment) xs ys) ∙ map-append (λ r. r.fact) (filter (holds moment) xs) (filter (holds moment) ys)

facts_at-begun_before : {F : Type 0} (moment later : ℕ) (come : List F) → moment < later → facts_at moment (begun later come) ≡ []
facts_at-begun_before moment later [] early = refl
facts_at-begun_before moment later (fact ∷ come) early =
    let out : (nat_le later moment && nat_lt moment STANDING) ≡ false = grind (arith, nat_tests) in
    rw out (facts_at-begun_before moment later come early)

pub facts_at-begun : {F : Type 0} (moment : ℕ) (come : List F) → moment < STANDING → facts_at moment (begun moment come) ≡ come
facts_at-begun moment [] few = refl
facts_at-begun moment (fact ∷ come) few =
    let on : (nat_le moment moment && nat_lt moment STANDING) ≡ true = grind (arith, nat_tests) in
    rw on (ap (λ l. fact ∷ l) (facts_at-begun moment come few))

-- the moments before the new one tell the same
pub facts_before : {F : Type 0} (moment later : ℕ) (runs : List (Run F)) (gone come : List F) (places : List ℕ) → AreEnding runs gone places
    → moment < later → later < STANDING → facts_at moment (moved_on later places come runs) ≡ facts_at moment runs
facts_before moment later runs gone come places ending early few =
    let kept = facts_at-ended moment later places runs (λ place at. let open_run = (ending.each place at).2 in
    let on = open_run.goes_on in (open_run.run, open_run.at, omega arith)) early in
    facts_at-append moment (ended later places runs) (begun later come)
    ∙ ap (λ l. facts_at moment (ended later places runs) ++ l) (facts_at-begun_before moment later come early)
    ∙ append-nil (facts_at moment (ended later places runs)) ∙ kept

-- one more place
pub ended-push : {F : Type 0} (moment : ℕ) (places : List ℕ) (place : ℕ) (runs : List (Run F)) → ended moment (places ++ place ∷ []) runs ≡ end_at moment place (ended moment places runs)
ended-push moment [] place runs = refl
ended-push moment (first ∷ places) place runs = ended-push moment places place (end_at moment first runs)

-- of items that are apart none stands before its place
pub new_there : {X : Type 0} (xs : List X) (i : ℕ) (x : X) → AllPairs (λ a b. a ≢ b) xs → i < length xs → x ≡ get_or xs i x → Contains (take i xs) x → ⊥
new_there xs i x apart within is at =
    let early : at.0 < i = omega (arith, at.1, length-take i xs) in
    apart at.0 i x early within (sym (get_or-take i xs at.0 x early) ∙ at.2 ∙ is)

-- one more fact whose run ends
pub ending-none : {F : Type 0} (runs : List (Run F)) → AreEnding runs [] []
ending-none runs = record {
  apart = AllPairs-nil (λ a b. a ≢ b);
  each = λ place at. absurd (Contains-none place at);
  all = λ fact at. absurd (Contains-none fact at);
}

-- at one place the run of one fact goes on
one_fact : {F : Type 0} (runs : List (Run F)) (place : ℕ) (fact other : F) → IsOpen runs place fact → IsOpen runs place other → fact ≡ other
one_fact runs place fact other one two =
    sym one.of ∙ ap (λ (r : Run _). r.fact) (one_there runs place one.run two.run one.at two.at) ∙ two.of

pub ending-push : {F : Type 0} (runs : List (Run F)) (gone : List F) (places : List ℕ) (fact : F) (place : ℕ) → AreEnding runs gone places → (Contains gone fact → ⊥)
    → IsOpen runs place fact → AreEnding runs (gone ++ fact ∷ []) (places ++ place ∷ [])
ending-push runs gone places fact place ending new here = record {
  apart = AllPairs-append (λ a b. a ≢ b) places (place ∷ []) ending.apart (λ i j d lt len. absurd (omega (arith, lt, len)))
      (λ i j d lt_i lt_j same.
      let first : j ≡ 0 = omega (arith, lt_j) in
      let is : get_or places i d ≡ place = same ∙ ap (λ k. get_or (place ∷ []) k d) first in
      let was = ending.each (get_or places i d) (Contains-get_or places i d lt_i) in
      new (Contains-same gone was.0 fact (one_fact runs place was.0 fact (subst (λ k. IsOpen runs k was.0) is was.2) here) was.1));
  each = λ other at. elim (Contains-push_cases places place other at) [
    | inl before ↦ (let was = ending.each other before in (was.0, Contains-append_left gone (fact ∷ []) was.0 was.1, was.2))
    | inr same ↦ (fact, Contains-push gone fact, subst (λ k. IsOpen runs k fact) same here)
  ];
  all = λ other at. elim (Contains-push_cases gone fact other at) [
    | inl before ↦ (let was = ending.all other before in (was.0, Contains-append_left places (place ∷ []) was.0 was.1, was.2))
    | inr same ↦ (place, Contains-push places place, subst (λ f. IsOpen runs place f) same here)
  ];
}

-- places for all facts that go
pub endings : {F : Type 0} (runs : List (Run F)) (gone : List F) → AllPairs (λ a b. a ≢ b) gone
    → ((fact : F) → Contains gone fact → (place : ℕ) × IsOpen runs place fact) → (places : List ℕ) × AreEnding runs gone places
endings runs [] apart open_all = ([], ending-none runs)
endings {F} runs (fact ∷ gone) apart open_all =
    let here = open_all fact (Contains-head fact gone) in
    let others = endings runs gone (AllPairs-tail (λ (a b : F). a ≢ b) fact gone apart) (λ other at. open_all other (Contains-tail fact gone other at)) in (
      here.0 ∷ others.0,
      record {
        apart = AllPairs-cons (λ a b. a ≢ b) here.0 others.0
            (λ k d lt same.
            let was = others.1.each (get_or others.0 k d) (Contains-get_or others.0 k d lt) in
            AllPairs-head (λ (a b : F). a ≢ b) fact gone apart was.0 was.1
            (one_fact runs here.0 fact was.0 here.1 (subst (λ p. IsOpen runs p was.0) (sym same) was.2)))
            others.1.apart;
        each = λ place at. elim (Contains-cases here.0 others.0 place at) [
          | inl same ↦ (fact, Contains-head fact gone, subst (λ k. IsOpen runs k fact) same here.1)
          | inr later ↦ (let was = others.1.each place later in (was.0, Contains-tail fact gone was.0 was.1, was.2))
        ];
        all = λ other at. elim (Contains-cases fact gone other at) [
          | inl same ↦ (here.0, Contains-head here.0 others.0, subst (λ f. IsOpen runs here.0 f) same here.1)
          | inr later ↦ (let was = others.1.all other later in (was.0, Contains-tail here.0 others.0 was.0 was.1, was.2))
        ];
      },
    )
