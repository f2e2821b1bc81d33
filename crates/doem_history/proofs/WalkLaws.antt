-- What a walk back along the runs of an object looks for.
use Rattle.std.proofs.Common.{◌≡◌, ◌⊎◌, ◌↔◌, inl, inr, ℕ, ◌-◌, ◌<◌, ◌≤◌, List, [], ◌∷◌, ◌++◌, length, get_or, Contains, Bool, true, false, Some, Option, sym, ap, ◌∙◌, subst, arith, IsTrue}
use Rattle.std.specs.List.{slice_get}
use Rattle.std.proofs.lemmas.List.{get_or_read, length-map}
use Rattle.std.proofs.lemmas.List.Elements.{Contains-append_left, Contains-push, Contains-push_cases}
use Rattle.std.proofs.lemmas.Option.{slice_get_read}
use Rattle.list_laws.proofs.MemberLaws.{none_in}
use Rattle.doem_history.specs.Types.{Oid, Run, STANDING}
use Rattle.doem_history.specs.Histories.{facts_at}
use Rattle.doem_history.specs.Plans.{IsOpen}
use Rattle.doem_history.specs.inside.Chains.{owners_of, AreLinked, link_told}
use Rattle.list_laws.proofs.PlaceLaws.{Contains-from_place, place_of_member}
use Rattle.doem_history.proofs.KeptLaws.{is_held, held}
use Rattle.doem_history.proofs.ChainLaws.{HasWalked, walk-start, walk-on, walk-weaker, owner_at}

-- no run there is one of the fact that goes on
abbrev pub IsNotOpen : {F : Type 0} → List (Run F) → F → ℕ → Type 0
IsNotOpen runs fact place = IsOpen runs place fact → ⊥

-- the fact of a run there that holds the moment is found
abbrev pub IsFound : {F : Type 0} → List (Run F) → ℕ → List F → ℕ → Type 0
IsFound runs moment found place = (run : Run _) → slice_get runs place ≡ Some run → run.begin ≤ moment → moment < run.end → Contains found run.fact

pub record HasFound {F : Type 0} (owner : F → Oid) (runs : List (Run F)) (oid : Oid) (moment link : ℕ) (found : List F) : Type 0 where
  pub walked : HasWalked (owners_of owner runs) oid link (IsFound runs moment found)
  pub sound : (fact : F) → Contains found fact → Contains (facts_at moment runs) fact × (owner fact ≡ oid)

module _ {F : Type 0} (owner : F → Oid) (runs : List (Run F)) (newest : Oid → Option ℕ) (older : List ℕ) (linked : AreLinked owner runs newest older) where
  -- the run and the link that a step reads
  read_run : (oid : Oid) (link : ℕ) (Seen : ℕ → Type 0) (run : Run F) → 0 < link → HasWalked (owners_of owner runs) oid link Seen → run ≡ get_or runs (link - 1) run
      → slice_get runs (link - 1) ≡ Some run
  read_run oid link Seen run some walked is =
      let within = walked.within in
      slice_get_read runs (length (owners_of owner runs)) (link - 1) run (length-map runs (λ (r : Run F). owner r.fact)) (omega arith) is

  read_link : (oid : Oid) (link next : ℕ) (Seen : ℕ → Type 0) → 0 < link → HasWalked (owners_of owner runs) oid link Seen → next ≡ get_or older (link - 1) next
      → next ≡ get_or older (link - 1) 0
  read_link oid link next Seen some walked is =
      let within = walked.within in let long = linked.chains.long in
      get_or_read older (link - 1) next (omega arith) is 0

  pub run_within : (oid : Oid) (link : ℕ) (Seen : ℕ → Type 0) → 0 < link → HasWalked (owners_of owner runs) oid link Seen → link - 1 < length runs
  run_within oid link Seen some walked = let within = walked.within in let long = length-map runs (λ (r : Run F). owner r.fact) in omega arith

  pub link_within : (oid : Oid) (link : ℕ) (Seen : ℕ → Type 0) → 0 < link → HasWalked (owners_of owner runs) oid link Seen → link - 1 < length older
  link_within oid link Seen some walked = let within = walked.within in let long = linked.chains.long in omega arith

  pub open_start : (fact : F) (oid : Oid) (link : ℕ) → oid ≡ owner fact → link ≡ link_told (newest oid) → HasWalked (owners_of owner runs) (owner fact) link (IsNotOpen runs fact)
  open_start fact oid link of is = walk-start (owners_of owner runs) newest older (owner fact) link (IsNotOpen runs fact) linked.chains (is ∙ ap (λ o. link_told (newest o)) of)

  pub open_on : (fact : F) (link next : ℕ) (run : Run F) (test : Bool) → 0 < link → HasWalked (owners_of owner runs) (owner fact) link (IsNotOpen runs fact)
      → run ≡ get_or runs (link - 1) run → next ≡ get_or older (link - 1) next → IsTrue test ↔ ((run.end ≡ STANDING) × (run.fact ≡ fact)) → test ≡ false
      → HasWalked (owners_of owner runs) (owner fact) next (IsNotOpen runs fact)
  open_on fact link next run test some walked is_run is_next tested fails =
      walk-on (owners_of owner runs) newest older (owner fact) link next (IsNotOpen runs fact) linked.chains some walked (read_link (owner fact) link next (IsNotOpen runs fact) some walked is_next)
      (λ here.
      let same : here.run ≡ run = (let read = read_run (owner fact) link (IsNotOpen runs fact) run some walked is_run in let there = here.at in cc) in
      let passes : test ≡ true = tested.1 (ap (λ (r : Run F). r.end) (sym same) ∙ here.goes_on, ap (λ (r : Run F). r.fact) (sym same) ∙ here.of) in
      cc)

  pub open_here : (fact : F) (link : ℕ) (run : Run F) (test : Bool) → 0 < link → HasWalked (owners_of owner runs) (owner fact) link (IsNotOpen runs fact)
      → run ≡ get_or runs (link - 1) run → IsTrue test ↔ ((run.end ≡ STANDING) × (run.fact ≡ fact)) → test ≡ true → IsOpen runs (link - 1) fact
  open_here fact link run test some walked is_run tested passes = let both = tested.0 passes in record {
    run = run;
    at = read_run (owner fact) link (IsNotOpen runs fact) run some walked is_run;
    goes_on = both.0;
    of = both.1;
  }

  pub open_none : (fact : F) (link : ℕ) → link ≤ 0 → HasWalked (owners_of owner runs) (owner fact) link (IsNotOpen runs fact) → (place : ℕ) → IsOpen runs place fact → ⊥
  open_none fact link over walked place here =
      walked.seen place (omega arith) (owner_at owner runs place here.run here.at ∙ ap (λ f. Some (owner f)) here.of) here

  -- What stands at a moment.

  pub found_start : (oid : Oid) (moment link : ℕ) (found : List F) → found ≡ [] → link ≡ link_told (newest oid) → HasFound owner runs oid moment link found
  found_start oid moment link found none is = record {
    walked = walk-start (owners_of owner runs) newest older oid link (IsFound runs moment found) linked.chains is;
    sound = λ fact at. absurd (none_in found fact none at);
  }

  found_step : (oid : Oid) (moment link next : ℕ) (found more : List F) (run : Run F) → 0 < link → HasFound owner runs oid moment link found
      → run ≡ get_or runs (link - 1) run → next ≡ get_or older (link - 1) next → ((fact : F) → Contains found fact → Contains more fact)
      → (run.begin ≤ moment → moment < run.end → Contains more run.fact)
      → ((fact : F) → Contains more fact → Contains found fact ⊎ (Contains (facts_at moment runs) fact × (owner fact ≡ oid)))
      → HasFound owner runs oid moment next more
  found_step oid moment link next found more run some so_far is_run is_next wider here sound =
      let weaker = walk-weaker (owners_of owner runs) oid link (IsFound runs moment found) (IsFound runs moment more) (λ place seen r at since until. wider r.fact (seen r at since until)) so_far.walked in record {
        walked = walk-on (owners_of owner runs) newest older oid link next (IsFound runs moment more) linked.chains some weaker (read_link oid link next (IsFound runs moment more) some weaker is_next)
            (λ r at since until.
            let same : run ≡ r = (let read = read_run oid link (IsFound runs moment more) run some weaker is_run in cc) in
            subst (λ (x : Run F). x.begin ≤ moment → moment < x.end → Contains more x.fact) same here since until);
        sound = λ fact at. elim (sound fact at) [ inl was ↦ so_far.sound fact was | inr new ↦ new ];
      }

  pub found_on : (oid : Oid) (moment link next : ℕ) (found more : List F) (run : Run F) (test : Bool) → 0 < link → HasFound owner runs oid moment link found
      → run ≡ get_or runs (link - 1) run → next ≡ get_or older (link - 1) next → IsTrue test ↔ ((run.begin ≤ moment) × (moment < run.end)) → test ≡ true
      → more ≡ found ++ run.fact ∷ [] → HasFound owner runs oid moment next more
  found_on oid moment link next found more run test some so_far is_run is_next tested passes pushed =
      let both = tested.0 passes in
      let at = read_run oid link (IsFound runs moment found) run some so_far.walked is_run in
      let belongs : owner run.fact ≡ oid = (let one = owner_at owner runs (link - 1) run at in let two = so_far.walked.here some in cc) in
      subst (λ (l : List F). HasFound owner runs oid moment next l) (sym pushed) (found_step oid moment link next found (found ++ run.fact ∷ []) run some so_far is_run is_next
      (λ fact there. Contains-append_left found (run.fact ∷ []) fact there)
      (λ since until. Contains-push found run.fact)
      (λ fact there. elim (Contains-push_cases found run.fact fact there) [
        | inl was ↦ inl was
        | inr same ↦ inr (subst (λ (f : F). Contains (facts_at moment runs) f × (owner f ≡ oid)) same (is_held moment runs run (Contains-from_place runs (link - 1) run at) both.0 both.1, belongs))
      ]))

  pub found_past : (oid : Oid) (moment link next : ℕ) (found : List F) (run : Run F) (test : Bool) → 0 < link → HasFound owner runs oid moment link found
      → run ≡ get_or runs (link - 1) run → next ≡ get_or older (link - 1) next → IsTrue test ↔ ((run.begin ≤ moment) × (moment < run.end)) → test ≡ false
      → HasFound owner runs oid moment next found
  found_past oid moment link next found run test some so_far is_run is_next tested fails =
      found_step oid moment link next found found run some so_far is_run is_next (λ fact there. there)
      (λ since until. (let passes : test ≡ true = tested.1 (since, until) in absurd (let no_test : true ≡ false = sym passes ∙ fails in cc)))
      (λ fact there. inl there)

  pub found_all : (oid : Oid) (moment link : ℕ) (found : List F) → link ≤ 0 → HasFound owner runs oid moment link found
      → (fact : F) → Contains found fact ↔ (Contains (facts_at moment runs) fact × (owner fact ≡ oid))
  found_all oid moment link found over so_far fact = (
    so_far.sound fact,
    λ both.
        let this = held moment runs fact both.0 in
        let place = place_of_member runs this.run this.among in
        subst (λ (f : F). Contains found f) this.of (so_far.walked.seen place.0 (omega arith)
        (owner_at owner runs place.0 this.run place.1 ∙ ap Some (ap owner this.of ∙ both.1)) this.run place.1 this.since this.until),
  )

-- no run there holds the moment
abbrev pub HoldsNothing : {F : Type 0} → List (Run F) → ℕ → ℕ → Type 0
HoldsNothing runs moment place = (run : Run _) → slice_get runs place ≡ Some run → run.begin ≤ moment → moment < run.end → ⊥

module _ {F : Type 0} (owner : F → Oid) (runs : List (Run F)) (newest : Oid → Option ℕ) (older : List ℕ) (linked : AreLinked owner runs newest older) where
  pub walk_from : (oid : Oid) (link : ℕ) (Seen : ℕ → Type 0) → link ≡ link_told (newest oid) → HasWalked (owners_of owner runs) oid link Seen
  walk_from oid link Seen is = walk-start (owners_of owner runs) newest older oid link Seen linked.chains is

  run_here : (oid : Oid) (link : ℕ) (Seen : ℕ → Type 0) (run : Run F) → 0 < link → HasWalked (owners_of owner runs) oid link Seen → run ≡ get_or runs (link - 1) run
      → slice_get runs (link - 1) ≡ Some run
  run_here oid link Seen run some walked is =
      let within = walked.within in
      slice_get_read runs (length (owners_of owner runs)) (link - 1) run (length-map runs (λ (r : Run F). owner r.fact)) (omega arith) is

  pub walk_past : (oid : Oid) (link next : ℕ) (Seen : ℕ → Type 0) (run : Run F) → 0 < link → HasWalked (owners_of owner runs) oid link Seen → run ≡ get_or runs (link - 1) run
      → next ≡ get_or older (link - 1) next → (slice_get runs (link - 1) ≡ Some run → Seen (link - 1)) → HasWalked (owners_of owner runs) oid next Seen
  walk_past oid link next Seen run some walked is_run is_next this =
      let within = walked.within in let long = linked.chains.long in
      walk-on (owners_of owner runs) newest older oid link next Seen linked.chains some walked (get_or_read older (link - 1) next (omega arith) is_next 0)
      (this (run_here oid link Seen run some walked is_run))

  -- the run that is read belongs to the object and stands in the list
  pub walk_here : (oid : Oid) (link : ℕ) (Seen : ℕ → Type 0) (run : Run F) → 0 < link → HasWalked (owners_of owner runs) oid link Seen → run ≡ get_or runs (link - 1) run
      → Contains runs run × (owner run.fact ≡ oid)
  walk_here oid link Seen run some walked is =
      let at = run_here oid link Seen run some walked is in
      let one = owner_at owner runs (link - 1) run at in let two = walked.here some in
      (Contains-from_place runs (link - 1) run at, (cc))

  pub nothing_left : (oid : Oid) (moment link : ℕ) → link ≤ 0 → HasWalked (owners_of owner runs) oid link (HoldsNothing runs moment)
      → (fact : F) → Contains (facts_at moment runs) fact → owner fact ≡ oid → ⊥
  nothing_left oid moment link over walked fact at of =
      let this = held moment runs fact at in
      let place = place_of_member runs this.run this.among in
      walked.seen place.0 (omega arith) (owner_at owner runs place.0 this.run place.1 ∙ ap Some (ap owner this.of ∙ of)) this.run place.1 this.since this.until

pub holds_nothing : {F : Type 0} (runs : List (Run F)) (moment place : ℕ) (run : Run F) (test : Bool) → IsTrue test ↔ ((run.begin ≤ moment) × (moment < run.end)) → test ≡ false
    → slice_get runs place ≡ Some run → HoldsNothing runs moment place
holds_nothing runs moment place run test tested fails at r at_r since until =
    let same : run ≡ r = cc in
    let passes : test ≡ true = tested.1 (subst (λ (x : Run _). (x.begin ≤ moment) × (moment < x.end)) (sym same) (since, until)) in
    (let no_test : true ≡ false = sym passes ∙ fails in cc)
