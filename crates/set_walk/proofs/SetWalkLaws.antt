-- A graph of sets walked by a machine: the edges of a node are followed one by one, and what is met at the end is what
-- the graph tells.
use Rattle.std.proofs.Common.{◌≡◌, ◌↔◌, ℕ, ◌⊎◌, inl, inr, List, [], ◌∷◌, ◌++◌, Some, None, Contains, refl, sym, ap}
use Rattle.std.proofs.Common.{◌∙◌, subst, append_assoc, false, true≢false}
use Rattle.std.specs.Prelude.{Option, MatchOption, is_some}
use Rattle.std.proofs.lemmas.List.{append-nil}
use Rattle.std.proofs.lemmas.List.Elements.{Contains-append_left, Contains-append_right, Contains-append_cases}
use Rattle.std.proofs.lemmas.List.Elements.{Contains-push, Contains-push_cases}
use Rattle.lore_base.specs.Paths.{PathTree}
use Rattle.lore_base.specs.TargetSets.{ListsInOrder}
use Rattle.lore_base.proofs.MemberLaws.{Contains-none}
use Rattle.lore_base.proofs.TargetLaws.{ListsInOrder-same}
use Rattle.graph_search.specs.Closures.{IsMet, LeadAlong, LeadsFromPlace, IsClosure, Lists}
use Rattle.graph_search.proofs.MeetingLaws.{IsMet-none, IsMet-one, IsMet-append_left, IsMet-append_right}
use Rattle.graph_search.proofs.MeetingLaws.{IsMet-append_cases}
use Rattle.path_expr.specs.Machines.{Machine, IsIn, MovesThrough, StepsTo, IsStep, Recognises}
use Rattle.set_walk.specs.Types.{Oid, Label, States, StateMarks, END}
use Rattle.index_traits.specs.Counts.{IsCount}
use Rattle.set_walk.specs.SetPaths.{LeadsAlong, IsReachedBySets}
use Rattle.set_walk.specs.inside.SetWalks.{HasState, marks, Leads, IsNext, AreStarts, IsEnded, NoneEnds, IsOnlyEnd}

-- ---- the edges of a node, one by one
module _ {N : Type 0} (labels : List (List ℕ)) (machine : Machine) (states : States) where
  pub next-none : (out : List (N × StateMarks)) → Lists HasState (IsNext labels machine [] states) out out
  next-none out = record {
    more = [];
    is = sym (append-nil out);
    exact = λ there. (
      λ met. absurd (IsMet-none HasState there met),
      λ next. absurd (Contains-none (next.0, there.0) next.1),
    );
  }

  pub next-more : (edges : List (Label × N)) (edge : Label × N) (after : States)
      (old middle new : List (N × StateMarks)) → IsStep labels machine states edge.0 after
      → Lists HasState (IsNext labels machine edges states) old middle
      → Lists HasState (λ there. (there.0 ≡ edge.1) × IsIn after there.1) middle new
      → Lists HasState (IsNext labels machine (edges ++ edge ∷ []) states) old new
  next-more edges edge after old middle new step earlier now = record {
    more = earlier.more ++ now.more;
    is = now.is ∙ ap (λ l. l ++ now.more) earlier.is ∙ append_assoc old earlier.more now.more;
    exact = λ there. (
      λ met. elim (IsMet-append_cases HasState earlier.more now.more there met) [
        | inl front ↦ (let next = (earlier.exact there).0 front in
            (next.0, Contains-append_left edges (edge ∷ []) (next.0, there.0) next.1, next.2))
        | inr back ↦ (
            let one = (now.exact there).0 back in (
              edge.0,
              subst (λ (n : N). Contains (edges ++ edge ∷ []) (edge.0, n)) (sym one.0) (Contains-push edges edge),
              (step there.1).0 one.1,
            ))
      ],
      λ next. elim (Contains-push_cases edges edge (next.0, there.0) next.1) [
        | inl before ↦ IsMet-append_left HasState earlier.more now.more there
            ((earlier.exact there).1 (next.0, before, next.2))
        | inr last ↦ IsMet-append_right HasState earlier.more now.more there ((now.exact there).1 (
          ap (λ (e : Label × N). e.1) (sym last),
          (step there.1).1 (subst (λ (l : Label). StepsTo labels machine states l there.1)
              (ap (λ (e : Label × N). e.0) (sym last)) next.2),
        ))
      ],
    );
  }

  -- the edges of a node lead to all that the node leads to
  pub next-all : (goes : N → Label → N → Type 0) (from : N) (edges : List (Label × N))
      (old new : List (N × StateMarks))
      → ((label : Label) (next : N) → Contains edges (label, next) ↔ goes from label next)
      → Lists HasState (IsNext labels machine edges states) old new
      → Lists HasState (LeadsFromPlace HasState (Leads goes labels machine) (from, marks states)) old new
  next-all goes from edges old new shown lists = record {
    more = lists.more;
    is = lists.is;
    exact = λ there. (
      λ met. (let next = (lists.exact there).0 met in
          (next.2.0, next.2.1, (next.0, (shown next.0 there.0).0 next.1, next.2.2))),
      λ leads. (
          let label = leads.2.0 in
          (lists.exact there).1 (label, (shown label there.0).1 leads.2.1, (leads.0, leads.1, leads.2.2))),
    );
  }

-- ---- the objects of the nodes that are met at the end
module _ {N : Type 0} (has : N → Oid → Type 0) where
  pub ended-none : (oid : Oid) → Contains [] oid ↔ IsEnded has [] oid
  ended-none oid = (
    λ at. absurd (Contains-none oid at),
    λ ended. absurd (IsMet-none HasState (ended.0, END) ended.1),
  )

  pub ended-more : (places : List (N × StateMarks)) (place : N × StateMarks) (old new : List Oid)
      → ((oid : Oid) → Contains old oid ↔ IsEnded has places oid)
      → ((oid : Oid) → Contains new oid ↔ (Contains old oid ⊎ (IsIn (place.1).0 END × has place.0 oid)))
      → (oid : Oid) → Contains new oid ↔ IsEnded has (places ++ place ∷ []) oid
  ended-more places place old new earlier now oid = (
    λ h. elim ((now oid).0 h) [
      | inl front ↦ (let ended = (earlier oid).0 front in
          (ended.0, IsMet-append_left HasState places (place ∷ []) (ended.0, END) ended.1, ended.2))
      | inr back ↦ (
        place.0,
        IsMet-append_right HasState places (place ∷ []) (place.0, END)
            ((IsMet-one HasState place (place.0, END)).1 (refl, back.0)),
        back.1,
      )
    ],
    λ ended. (now oid).1 (elim (IsMet-append_cases HasState places (place ∷ []) (ended.0, END) ended.1) [
      | inl front ↦ inl ((earlier oid).1 (ended.0, front, ended.2))
      | inr back ↦ (
          let one = (IsMet-one HasState place (ended.0, END)).0 back in
          inr (one.1, subst (λ (n : N). has n oid) one.0 ended.2))
    ]),
  )

  -- the members of a node behind the objects that were there
  pub members-added : (node : N) (set old : List Oid) (Is : Type 0) → Is → ListsInOrder (has node) set → (oid : Oid)
      → Contains (old ++ set) oid ↔ (Contains old oid ⊎ (Is × has node oid))
  members-added node set old Is is lists oid = (
    λ h. elim (Contains-append_cases old set oid h) [
      | inl front ↦ inl front
      | inr back ↦ inr (is, (lists.exact oid).0 back)
    ],
    λ h. elim h [
      | inl front ↦ Contains-append_left old set oid front
      | inr back ↦ Contains-append_right old set oid ((lists.exact oid).1 back.1)
    ],
  )

  -- the objects of the only node at the end are those of the nodes that are met at the end
  pub only-ended : (met : List (N × StateMarks)) (only : N) → IsOnlyEnd met only → (oid : Oid)
      → has only oid ↔ IsEnded has met oid
  only-ended met only is oid = (
    λ member. (only, (is only).1 refl, member),
    λ ended. subst (λ (n : N). has n oid) ((is ended.0).0 ended.1) ended.2,
  )

-- ---- two tests that pass the same objects count them alike
pub count-same : (P Q : Oid → Type 0) → ((oid : Oid) → P oid ↔ Q oid) → (count : ℕ) → IsCount P count → IsCount Q count
count-same P Q same count is = (is.0, ListsInOrder-same P Q is.0 same is.1, is.2)

-- ---- a node that alone is met at the end
module _ {N : Type 0} (places : List (N × StateMarks)) (place : N × StateMarks) where
  pub only-first : NoneEnds places → IsIn (place.1).0 END → IsOnlyEnd (places ++ place ∷ []) place.0
  only-first none ends node = (
    λ met. elim (IsMet-append_cases HasState places (place ∷ []) (node, END) met) [
      | inl front ↦ absurd (none node front)
      | inr back ↦ ((IsMet-one HasState place (node, END)).0 back).0
    ],
    λ is. IsMet-append_right HasState places (place ∷ []) (node, END) ((IsMet-one HasState place (node, END)).1 (is, ends)),
  )

  -- a place that is not at the end changes nothing
  skipped : (IsIn (place.1).0 END → ⊥) → (node : N)
      → IsMet HasState (places ++ place ∷ []) (node, END) ↔ IsMet HasState places (node, END)
  skipped not_end node = (
    λ met. elim (IsMet-append_cases HasState places (place ∷ []) (node, END) met) [
      | inl front ↦ front
      | inr back ↦ absurd (not_end ((IsMet-one HasState place (node, END)).0 back).1)
    ],
    λ met. IsMet-append_left HasState places (place ∷ []) (node, END) met,
  )

  pub only-still : (only : Option N) → (IsIn (place.1).0 END → ⊥)
      → MatchOption only (NoneEnds places) (IsOnlyEnd places)
      → MatchOption only (NoneEnds (places ++ place ∷ [])) (IsOnlyEnd (places ++ place ∷ []))
  only-still None not_end none = λ node met. none node ((skipped not_end node).0 met)
  only-still (Some only) not_end is = λ node.
      let same = skipped not_end node in
      (λ met. (is node).0 (same.0 met), λ here. same.1 ((is node).1 here))

pub none-so-far : {N : Type 0} (places : List (N × StateMarks)) (only : Option N) → false ≡ is_some only
    → MatchOption only (NoneEnds places) (IsOnlyEnd places) → NoneEnds places
none-so-far places None is none = none
none-so-far places (Some only) is ends = absurd (true≢false (sym is))

-- ---- a way through the product is a word that leads along the edges and is read
module _ {N : Type 0} (goes : N → Label → N → Type 0) (labels : List (List ℕ)) (machine : Machine) where
  word-of : (way : List (N × ℕ)) (here there : N × ℕ) → LeadAlong (Leads goes labels machine) here way there
      → (word : List Label) × MovesThrough labels machine here.1 word there.1 × LeadsAlong goes here.0 word there.0
  word-of [] here there same = ([], ap (λ p. p.1) same, ap (λ p. p.0) same)
  word-of (next ∷ way) here there along =
      let step = along.0 in
      let rest = word-of way next there along.1 in
      (step.0 ∷ rest.0, (next.1, step.2, rest.1), (next.0, step.1, rest.2))

  way-of : (word : List Label) (here there : N × ℕ) → MovesThrough labels machine here.1 word there.1
      → LeadsAlong goes here.0 word there.0
      → (way : List (N × ℕ)) × LeadAlong (Leads goes labels machine) here way there
  way-of [] here there runs leads = ([], λ i. (leads i, runs i))
  way-of (label ∷ word) here there runs leads =
      let next : N × ℕ = (leads.0, runs.0) in
      let rest = way-of word next there runs.2 leads.2 in
      (next ∷ rest.0, ((label, leads.1, runs.1), rest.1))

  -- so what is met at the end is what the graph of sets tells
  pub ended-reached : (has : N → Oid → Type 0) (path : PathTree) (start : Option N) (starts met : List (N × StateMarks))
      → Recognises machine path → AreStarts start machine.start starts
      → IsClosure HasState (Leads goes labels machine) starts met → (oid : Oid)
      → IsEnded has met oid ↔ IsReachedBySets labels goes has path start oid
  ended-reached has path start starts met stands begin closure oid = (
    λ ended. (
        let led = (closure.exact (ended.0, END)).0 ended.1 in
        let first = (begin (led.0).0 (led.0).1).0 led.2 in
        let word = word-of led.1 led.0 (ended.0, END) led.3 in
        record {
          entry = (led.0).0;
          enters = first.0;
          word = word.0;
          spelled = (stands labels word.0).0 ((led.0).1, first.1, word.1);
          last = ended.0;
          leads = word.2;
          member = ended.2;
        }),
    λ told. (
        let accepted = (stands labels told.word).1 told.spelled in
        let way = way-of told.word (told.entry, accepted.0) (told.last, END) accepted.2 told.leads in (
          told.last,
          (closure.exact (told.last, END)).1 (
            (told.entry, accepted.0),
            way.0,
            (begin told.entry accepted.0).1 (told.enters, accepted.1),
            way.1,
          ),
          told.member,
        )),
  )
