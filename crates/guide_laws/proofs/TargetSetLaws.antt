-- All sets that label paths lead to can be listed.
use Rattle.std.proofs.Common.{◌≡◌, ◌≢◌, ◌↔◌, ℕ, ◌<◌, inl, inr, List, [], ◌∷◌, ◌++◌, map}
use Rattle.std.proofs.Common.{refl, sym, ap, subst, arith}
use Rattle.std.specs.List.{Contains}
use Rattle.std.proofs.lemmas.List.Elements.{Contains-append_left, Contains-append_right, Contains-append_cases}
use Rattle.lore_base.specs.Walks.{Walk, edge_of}
use Rattle.lore_base.specs.TargetSets.{ListsInOrder, LabelPath, IsTargetSet, IsLedTo, AreTargetSets}
use Rattle.lore_base.proofs.ListLaws.{AllPairs-unique}
use Rattle.lore_base.proofs.MemberLaws.{Contains-none, Contains-cases, Contains-same}
use Rattle.lore_base.proofs.TargetLaws.{ListsInOrder-same}
use Rattle.lore_base.proofs.ToldLaws.{IsTold, told_oid, passing, members_passing}
use Rattle.list_laws.proofs.MemberLaws.{Contains-map, Contains-from_map}
use Rattle.dataguide.specs.Types.{Oid, Label, Edge}
use Rattle.dataguide.proofs.TargetSteps.{step-target}
use Rattle.dataguide.proofs.StopLaws.{target-none}
use Rattle.set_steps.proofs.PairLaws.{some-member}
use Rattle.guide_laws.specs.Laws.{TargetSetsExist}
use Rattle.guide_laws.proofs.ListLaws.{told_list, told_some_in, sublists, some_once}
use Rattle.guide_laws.proofs.ClosedLists.{IsClosed, some_closed}
use Rattle.dataguide.proofs.StepLaws.{children_of, step_of, step_is}
use Rattle.guide_laws.proofs.StepLaws.{step-sublist}

pub told_set : (a b : List Oid) → IsTold (a ≡ b)
told_set = told_list told_oid

-- a member of the set walks the word to the object
record IsWalkedFrom (edges : List Edge) (set : List Oid) (word : List Label) (oid : Oid) : Type 0 where
  pub from : Oid
  pub member : Contains set from
  pub walked : Walk edges from word oid

-- who walks a longer word from a set walks its rest from the step
walked_by_step : (edges : List Edge) (set : List Oid) (label : Label) (word : List Label) (oid : Oid)
    → IsWalkedFrom edges set (label ∷ word) oid ↔ IsWalkedFrom edges (step_of edges set label) word oid
walked_by_step edges set label word oid = (
  λ is. record {
    from = is.walked.0;
    member = ((step_is edges set label).exact is.walked.0).1
        (record { from = is.from; member = is.member; edge = is.walked.1 });
    walked = is.walked.2;
  },
  λ is.
      let leaves = ((step_is edges set label).exact is.from).0 is.member in
      record { from = leaves.from; member = leaves.member; walked = (is.from, leaves.edge, is.walked) },
)

walked_from_start : (edges : List Edge) (start : Oid) (word : List Label) (oid : Oid)
    → Walk edges start word oid ↔ IsWalkedFrom edges (start ∷ []) word oid
walked_from_start edges start word oid = (
  λ walked. record { from = start; member = ((target-none edges start).exact start).1 refl; walked = walked },
  λ is. subst (λ (x : Oid). Walk edges x word oid)
      (sym (((target-none edges start).exact is.from).0 is.member)) is.walked,
)

module _ (names : List (List ℕ × Oid)) (edges : List Edge) where
  -- the named objects, each alone
  abbrev starts : List (List Oid)
  starts = map (λ named. named.1 ∷ []) names

  -- finitely many lists, target sets among them
  abbrev candidates : List (List Oid)
  candidates = starts ++ sublists (children_of edges)

  -- the candidate is the target set of a label path, or it is empty
  record IsTarget (set : List Oid) : Type 0 where
    pub path : LabelPath
    pub start : Oid
    pub named : Contains names (path.name, start)
    pub target : IsTargetSet edges start path.word set
    pub candidate : Contains candidates set

  start_target : (set : List Oid) → Contains starts set → IsTarget set
  start_target set at =
      let from = Contains-from_map (λ (named : List ℕ × Oid). named.1 ∷ []) names set at in
      record {
        path = record { name = from.0.0; word = [] };
        start = from.0.1;
        named = from.1;
        target = subst (IsTargetSet edges from.0.1 []) from.2 (target-none edges from.0.1);
        candidate = Contains-append_left starts (sublists (children_of edges)) set at;
      }

  step_target : (set : List Oid) (label : Label) → IsTarget set → IsTarget (step_of edges set label)
  step_target set label is = record {
    path = record { name = is.path.name; word = is.path.word ++ label ∷ [] };
    start = is.start;
    named = is.named;
    target = step-target edges is.start is.path.word label set (step_of edges set label) is.target
        (step_is edges set label);
    candidate = Contains-append_right starts (sublists (children_of edges)) (step_of edges set label)
        (step-sublist edges set label);
  }

  -- the steps of a set by the labels of edges, and those of some sets
  abbrev arc_of : List Oid → Edge → List Oid × List Oid
  arc_of set edge = (set, step_of edges set edge.label)

  abbrev arcs_of : List (List Oid) → List (List Oid × List Oid)
  arcs_of [] = []
  arcs_of (set ∷ sets) = map (arc_of set) edges ++ arcs_of sets

  arcs_keep : (sets : List (List Oid)) (arc : List Oid × List Oid) → Contains (arcs_of sets) arc
      → IsTarget arc.0 → IsTarget arc.1
  arcs_keep [] arc at target = absurd (Contains-none arc at)
  arcs_keep (set ∷ sets) arc at target = elim
      (Contains-append_cases (map (arc_of set) edges) (arcs_of sets) arc at) [
        | inl here ↦ (
            let from = Contains-from_map (arc_of set) edges arc here in
            let front : set ≡ arc.0 = ap (λ (a : List Oid × List Oid). a.0) from.2 in
            let end : step_of edges set from.0.label ≡ arc.1 = ap (λ (a : List Oid × List Oid). a.1) from.2 in
            subst IsTarget end (step_target set from.0.label (subst IsTarget (sym front) target)))
        | inr later ↦ arcs_keep sets arc later target
      ]

  arcs_have : (sets : List (List Oid)) (set : List Oid) (edge : Edge) → Contains sets set
      → Contains edges edge → Contains (arcs_of sets) (arc_of set edge)
  arcs_have [] set edge at there = absurd (Contains-none set at)
  arcs_have (first ∷ sets) set edge at there = elim (Contains-cases first sets set at) [
    | inl same ↦ subst (λ (s : List Oid). Contains (arcs_of (first ∷ sets)) (arc_of s edge)) same
        (Contains-append_left (map (arc_of first) edges) (arcs_of sets) (arc_of first edge)
        (Contains-map (arc_of first) edges edge there))
    | inr later ↦ Contains-append_right (map (arc_of first) edges) (arcs_of sets) (arc_of set edge)
        (arcs_have sets set edge later there)
  ]

  module _ (found : List (List Oid)) (is : IsClosed IsTarget (arcs_of candidates) starts found) where
    -- what a word is walked to from a set that was found
    walked_found : (word : List Label) (set next : List Oid) (oid : Oid)
        → Contains found set → Contains next oid → ListsInOrder (IsWalkedFrom edges set word) next
        → Contains found next
    walked_found [] set next oid at some lists =
        let same : set ≡ next =
        AllPairs-unique (λ (a b : Oid). a.0 < b.0) (λ a b below above. omega (arith, below, above))
        set next (is.sound set at).target.ascending lists.ascending
        (λ one. (
          λ there. (lists.exact one).1 (record { from = one; member = there; walked = refl }),
          λ there. (
              let from = (lists.exact one).0 there in
              Contains-same set from.from one from.walked from.member),
        )) in
        Contains-same found set next same at
    walked_found (label ∷ word) set next oid at some lists =
        let first = (lists.exact oid).0 some in
        let arc = arcs_have candidates set (edge_of first.from label first.walked.0)
        (is.sound set at).candidate first.walked.1 in
        walked_found word (step_of edges set label) next oid
        (is.closed (set, step_of edges set label) arc at) some
        (ListsInOrder-same (IsWalkedFrom edges set (label ∷ word))
        (IsWalkedFrom edges (step_of edges set label) word) next
        (walked_by_step edges set label word) lists)

    led_found : (set : List Oid) → IsLedTo names edges set → Contains found set
    led_found set led =
        let leads = led.1 in
        let some = some-member set leads.some in
        walked_found led.0.word (leads.start ∷ []) set some.0
        (is.started (leads.start ∷ [])
        (Contains-map (λ (named : List ℕ × Oid). named.1 ∷ []) names (led.0.name, leads.start)
        leads.named))
        some.1
        (ListsInOrder-same (Walk edges leads.start led.0.word)
        (IsWalkedFrom edges (leads.start ∷ []) led.0.word) set
        (walked_from_start edges leads.start led.0.word) leads.target)

    found_led : (set : List Oid) → Contains found set → set ≢ [] → IsLedTo names edges set
    found_led set at some =
        let target = is.sound set at in (
          target.path,
          record { start = target.start; named = target.named; target = target.target; some = some },
        )

    all_found : (sets : List (List Oid)) × AreTargetSets names edges sets
    all_found =
        let once = some_once told_set (passing (λ (set : List Oid). set ≢ []) told_some_in found) in (
          once.0,
          record {
            apart = once.1.apart;
            exact = λ set.
                let both = members_passing (λ (set : List Oid). set ≢ []) told_some_in found set in (
                  λ at. (let here = both.0 ((once.1.same set).0 at) in found_led set here.0 here.1),
                  λ led. (once.1.same set).1 (both.1 (led_found set led, led.1.some)),
                );
          },
        )

pub target_sets_exist : TargetSetsExist
target_sets_exist names edges =
    let closed = some_closed told_set (IsTarget names edges) (arcs_of names edges (candidates names edges))
    (arcs_keep names edges (candidates names edges)) (starts names edges) (start_target names edges) in
    all_found names edges closed.0 closed.1
