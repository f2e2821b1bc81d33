-- Marks: how they grow by a moment.
use Rattle.std.proofs.Common.{◌≡◌, ◌≢◌, ◌⊎◌, inl, inr, ℕ, ◌<◌, ◌≤◌, zero, suc, List, [], ◌∷◌, ◌++◌, length, get_or, Some}
use Rattle.std.proofs.Common.{All, Contains, sym, ap, ◌∙◌, subst, arith, length-append}
use Rattle.std.specs.List.{slice_get}
use Rattle.std.proofs.lemmas.List.Elements.{Contains-get_or, Contains-append_left, Contains-append_right, Contains-append_cases}
use Rattle.std.proofs.lemmas.Option.{slice_get_within}
use Rattle.lore_base.proofs.MemberLaws.{Contains-none, Contains-cases, Contains-same}
use Rattle.lore_base.proofs.ListLaws.{AllPairs-append}
use Rattle.list_laws.proofs.PairLaws.{AllPairs-nil}
use Rattle.list_laws.proofs.PlaceLaws.{Contains-from_place, slice_get-append_left, slice_get-push_cases}
use Rattle.doem_history.specs.Types.{Run, Mark, STANDING}
use Rattle.doem_history.specs.Plans.{AreEnding}
use Rattle.doem_history.specs.inside.Kept.{Apart, AreKept, ended, begun, moved_on}
use Rattle.doem_history.specs.inside.Marks.{IsMark, AreMarked}
use Rattle.doem_history.proofs.MovedLaws.{one_there, length-ended, IsEnded, ended-place, was_at, within_then}

-- ---- what stands at a place of two joined lists
pub append_place : {X : Type 0} (xs ys : List X) (i : ℕ) (x : X) → slice_get (xs ++ ys) i ≡ Some x
    → (slice_get xs i ≡ Some x) ⊎ ((length xs ≤ i) × Contains ys x)
append_place [] ys i x at = inr (omega arith, Contains-from_place ys i x at)
append_place (first ∷ xs) ys zero x at = inl at
append_place (first ∷ xs) ys (suc i) x at = elim (append_place xs ys i x at) [
  | inl before ↦ inl before
  | inr behind ↦ inr (omega (arith, behind.0), behind.1)
]

begun_fresh : {F : Type 0} (moment : ℕ) (come : List F) (run : Run F) → Contains (begun moment come) run → (run.begin ≡ moment) × (run.end ≡ STANDING)
begun_fresh moment [] run at = absurd (Contains-none run at)
begun_fresh moment (fact ∷ come) run at = elim (Contains-cases (record { fact = fact; begin = moment; end = STANDING }) (begun moment come) run at) [
  | inl same ↦ (sym (ap (λ (r : Run _). r.begin) same), sym (ap (λ (r : Run _). r.end) same))
  | inr later ↦ begun_fresh moment come run later
]

-- ---- a moment more
module _ {F : Type 0} (runs : List (Run F)) (over : List ℕ) (marks : List Mark) (gone come : List F) (places : List ℕ) (moments : ℕ)
    (long : length marks ≡ moments) (kept : AreKept moments runs) (marked : AreMarked runs over marks) (ending : AreEnding runs gone places) where
  abbrev then : List (Run F)
  then = moved_on moments places come runs

  -- what stands at a place then stood there, or is fresh
  became : (place : ℕ) (run : Run F) → slice_get then place ≡ Some run
      → ((old : Run F) × (slice_get runs place ≡ Some old) × IsEnded moments places place old run)
      ⊎ ((length runs ≤ place) × (run.begin ≡ moments) × (run.end ≡ STANDING))
  became place run at = elim (append_place (ended moments places runs) (begun moments come) place run at) [
    | inl there ↦ inl (was_at moments places runs place run there)
    | inr behind ↦ (let same = length-ended moments places runs in let fresh = begun_fresh moments come run behind.1 in
        inr (omega (arith, same, behind.0), fresh.0, fresh.1))
  ]

  -- the run at a place of an ended one stays as it is
  over_stays : (place : ℕ) (run : Run F) → Contains over place → slice_get then place ≡ Some run
      → (old : Run F) × (slice_get runs place ≡ Some old) × (run.end ≡ old.end) × (old.end < moments)
  over_stays place run there at =
      let was = marked.ended place there in
      let early : was.0.end < moments = elim (kept.each was.0 (Contains-from_place runs place was.0 was.1)).over [ inl over ↦ over | inr on ↦ absurd (was.2 on) ] in
      elim (became place run at) [
        | inl then_was ↦
            let one : then_was.0 ≡ was.0 = one_there runs place then_was.0 was.0 then_was.1 was.1 in
            elim then_was.2.end [
              | inl ends ↦ (let open_run = (ending.each place ends.0).2 in
                  absurd (was.2 (ap (λ (r : Run F). r.end) (one_there runs place was.0 open_run.run was.1 open_run.at) ∙ open_run.goes_on)))
              | inr stays ↦ (was.0, was.1, stays.1 ∙ ap (λ (r : Run F). r.end) one, early)
            ]
        | inr fresh ↦ (let within = slice_get_within runs place was.0 was.1 in absurd (omega (arith, within, fresh.0)))
      ]

  -- the run at a place that is listed ends
  place_ends : (place : ℕ) (run : Run F) → Contains places place → slice_get then place ≡ Some run → run.end ≡ moments
  place_ends place run there at =
      let open_run = (ending.each place there).2 in
      elim (became place run at) [
        | inl then_was ↦ elim then_was.2.end [ inl ends ↦ ends.1 | inr stays ↦ absurd (stays.0 there) ]
        | inr fresh ↦ (let within = slice_get_within runs place open_run.run open_run.at in absurd (omega (arith, within, fresh.0)))
      ]

  long_then : length runs ≤ length then
  long_then = omega (arith, length-append (ended moments places runs) (begun moments come), length-ended moments places runs)

  -- an earlier mark tells the same
  old_mark : (moment : ℕ) (mark : Mark) → moment < moments → IsMark runs over moment mark → IsMark then (over ++ places) moment mark
  old_mark moment mark early is = record {
    begun_within = omega (arith, is.begun_within, long_then);
    ended_within = omega (arith, is.ended_within, length-append over places);
    begun = λ place run at. elim (became place run at) [
      | inl was ↦ (
        λ begins. (is.begun place was.0 was.1).0 (subst (λ k. k ≤ moment) was.2.begin begins),
        λ below. subst (λ k. k ≤ moment) (sym was.2.begin) ((is.begun place was.0 was.1).1 below),
      )
      | inr fresh ↦ (
        λ begins. absurd (omega (arith, fresh.1, begins, early)),
        λ below. absurd (omega (arith, fresh.0, below, is.begun_within)),
      )
    ];
    ended = λ k place run there at. elim (append_place over places k place there) [
      | inl before ↦
          let was = over_stays place run (Contains-from_place over k place before) at in (
            λ ends. (is.ended k place was.0 before was.1).0 (subst (λ n. n ≤ moment) was.2 ends),
            λ below. subst (λ n. n ≤ moment) (sym was.2) ((is.ended k place was.0 before was.1).1 below),
          )
      | inr behind ↦
          let now = place_ends place run behind.1 at in (
            λ ends. absurd (omega (arith, now, ends, early)),
            λ below. absurd (omega (arith, behind.0, below, is.ended_within)),
          )
    ];
  }

  ended_by : (place : ℕ) (run : Run F) → Contains (over ++ places) place → slice_get then place ≡ Some run → run.end ≤ moments
  ended_by place run there at = elim (Contains-append_cases over places place there) [
    | inl before ↦ (let was = over_stays place run before at in omega (arith, was.2, was.3))
    | inr now ↦ omega (arith, place_ends place run now at)
  ]

  -- the new mark
  new_mark : (mark : Mark) → mark.begun ≡ length then → mark.ended ≡ length (over ++ places) → IsMark then (over ++ places) moments mark
  new_mark mark begun_is ended_is = record {
    begun_within = omega (arith, begun_is);
    ended_within = omega (arith, ended_is);
    begun = λ place run at. (
      λ begins. omega (arith, begun_is, slice_get_within then place run at),
      λ below. (let is = within_then runs moments places come kept run (Contains-from_place then place run at) in omega (arith, is.begun)),
    );
    ended = λ k place run there at. (
      λ ends. omega (arith, ended_is, slice_get_within (over ++ places) k place there),
      λ below. ended_by place run (Contains-from_place (over ++ places) k place there) at,
    );
  }

  run_then : (place : ℕ) → Contains (over ++ places) place → (run : Run F) × (slice_get then place ≡ Some run) × (run.end ≢ STANDING)
  run_then place there =
      let few = kept.few in
      let old : (run : Run F) × (slice_get runs place ≡ Some run) = elim (Contains-append_cases over places place there) [
        | inl before ↦ (let was = marked.ended place before in (was.0, was.1))
        | inr now ↦ (let open_run = (ending.each place now).2 in (open_run.run, open_run.at))
      ] in
      let new = ended-place moments places runs place old.0 old.1 in
      let at = slice_get-append_left (ended moments places runs) (begun moments come) place new.0 new.1 in
      (new.0, at, λ on. (let by = ended_by place new.0 there at in absurd (omega (arith, on, by, few))))

  pub marks_then : (mark : Mark) → mark.begun ≡ length then → mark.ended ≡ length (over ++ places) → AreMarked then (over ++ places) (marks ++ mark ∷ [])
  marks_then mark begun_is ended_is = record {
    each = λ moment other at. elim (slice_get-push_cases marks mark moment other at) [
      | inl before ↦ old_mark moment other (omega (arith, long, slice_get_within marks moment other before)) (marked.each moment other before)
      | inr here ↦
          let now : moments ≡ moment = sym long ∙ sym here.0 in
          subst (λ (m : Mark). IsMark then (over ++ places) moment m) here.1 (subst (λ k. IsMark then (over ++ places) k mark) now (new_mark mark begun_is ended_is))
    ];
    apart = AllPairs-append (λ a b. a ≢ b) over places marked.apart ending.apart (λ i j d lt_i lt_j same.
        let at = Contains-get_or over i d lt_i in
        let there = Contains-same places (get_or places j d) (get_or over i d) (sym same) (Contains-get_or places j d lt_j) in
        let was = marked.ended (get_or over i d) at in
        let open_run = (ending.each (get_or over i d) there).2 in
        was.2 (ap (λ (r : Run F). r.end) (one_there runs (get_or over i d) was.0 open_run.run was.1 open_run.at) ∙ open_run.goes_on));
    ended = run_then;
    all = λ place run at ends. elim (became place run at) [
      | inl was ↦ elim was.2.end [
        | inl now ↦ Contains-append_right over places place now.0
        | inr stays ↦ Contains-append_left over places place (marked.all place was.0 was.1 (λ on. ends (stays.1 ∙ on)))
      ]
      | inr fresh ↦ absurd (ends fresh.2)
    ];
  }

pub marks_none : {F : Type 0} (runs : List (Run F)) (over : List ℕ) (marks : List Mark) → runs ≡ [] → over ≡ [] → marks ≡ [] → AreMarked runs over marks
marks_none {F} runs over marks no_runs no_over no_marks =
    let none : List (Run F) = [] in
    subst (λ (l : List (Run F)). AreMarked l over marks) (sym no_runs) (subst (λ (l : List ℕ). AreMarked none l marks) (sym no_over) (subst (λ (l : List Mark). AreMarked none [] l) (sym no_marks) (record {
      each = λ moment mark at. cc;
      apart = AllPairs-nil (λ a b. a ≢ b);
      ended = λ place at. absurd (Contains-none place at);
      all = λ place run at ends. cc;
    })))

pub marked_as : {F : Type 0} (runs others : List (Run F)) (over backs : List ℕ) (marks tokens : List Mark) → AreMarked runs over marks → others ≡ runs → backs ≡ over → tokens ≡ marks → AreMarked others backs tokens
marked_as {F} runs others over backs marks tokens marked same_runs same_over same_marks =
    subst (λ (l : List (Run F)). AreMarked l backs tokens) (sym same_runs) (subst (λ (l : List ℕ). AreMarked runs l tokens) (sym same_over)
    (subst (λ (l : List Mark). AreMarked runs over l) (sym same_marks) marked))

pub places_within : {F : Type 0} (runs : List (Run F)) (gone : List F) (places : List ℕ) → AreEnding runs gone places → All (λ place. place < length runs) places
places_within runs gone places ending k d lt =
    let this = (ending.each (get_or places k d) (Contains-get_or places k d lt)).2 in
    slice_get_within runs (get_or places k d) this.run this.at

pub kept_none : {F : Type 0} (runs : List (Run F)) (moments : ℕ) → runs ≡ [] → moments ≡ 0 → AreKept moments runs
kept_none {F} runs moments no_runs no_moments =
    subst (λ (l : List (Run F)). AreKept moments l) (sym no_runs) (record {
      few = omega (arith, no_moments);
      each = λ run at. absurd (Contains-none run at);
      apart = AllPairs-nil Apart;
    })

-- what is said of runs and a plan is said of their fields
pub ending_as : {F : Type 0} (runs told : List (Run F)) (places planned : List ℕ) → runs ≡ told → places ≡ planned → ((gone : List F) × AreEnding told gone planned)
    → (gone : List F) × AreEnding runs gone places
ending_as {F} runs told places planned same same_places ending =
    (ending.0, subst (λ (l : List (Run F)). AreEnding l ending.0 places) (sym same) (subst (λ (p : List ℕ). AreEnding told ending.0 p) (sym same_places) ending.1))

pub kept_as : {F : Type 0} (runs told : List (Run F)) (moments count : ℕ) → runs ≡ told → moments ≡ count → AreKept count told → AreKept moments runs
kept_as {F} runs told moments count same same_count kept =
    subst (λ (l : List (Run F)). AreKept moments l) (sym same) (subst (λ k. AreKept k told) (sym same_count) kept)
