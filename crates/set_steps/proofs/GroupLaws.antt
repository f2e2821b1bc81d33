-- Arcs in order are grouped by label: one group after another is cut from their front.
use Rattle.std.proofs.Common.{◌≡◌, ◌≢◌, ℕ, ◌+◌, ◌<◌, ◌≤◌, Less, inl, inr, List, [], ◌∷◌, ◌++◌, length, get_or, take}
use Rattle.std.proofs.Common.{drop, map, Some, None, AllPairs, Contains, refl, sym, ap, ◌∙◌, subst, append_assoc, arith}
use Rattle.std.proofs.Common.{length-drop}
use Rattle.std.specs.List.{AllWithin, HoldsAt, slice_get}
use Rattle.std.proofs.lemmas.Bool.{cases_lt}
use Rattle.std.proofs.lemmas.List.{append-nil, get_or-take, get_or-drop, length-take, length-map, take-append-drop}
use Rattle.std.proofs.lemmas.Option.{get_or_from_slice_get, slice_get_within}
use Rattle.std.proofs.lemmas.List.Elements.{All-push, All-weaker, All-contains, Contains-get_or, Contains-push}
use Rattle.std.proofs.lemmas.List.Elements.{Contains-append_left, Contains-append_right, Contains-append_cases}
use Rattle.lore_base.specs.TargetSets.{ListsInOrder, LeavesTo, IsStep}
use Rattle.lore_base.proofs.MemberLaws.{Contains-none}
use Rattle.lore_base.proofs.TargetLaws.{ListsInOrder-same}
use Rattle.list_laws.proofs.PairLaws.{AllPairs-back}
use Rattle.list_laws.proofs.MemberLaws.{All-from_members, Contains-map, Contains-from_map}
use Rattle.set_steps.specs.Types.{Oid, Label, Edge}
use Rattle.set_steps.specs.SetSteps.{AreSteps}
use Rattle.set_steps.specs.inside.Arcs.{arc_cmp, AscendAsArcs, AreArcs, AreGroups}
use Rattle.set_steps.proofs.PairLaws.{some-member, AllPairs-map, AllPairs-push}
use Rattle.set_steps.proofs.ArcLaws.{labels-rise, oids-rise}

-- some arcs are grouped, the rest isn't yet
pub record IsGrouping (arcs rest : List (Label × Oid)) (groups : List (Label × List Oid)) : Type 0 where
  pub done : List (Label × Oid)
  pub is : arcs ≡ done ++ rest
  pub grouped : AreGroups done groups
  pub apart : (a b : Label × Oid) → Contains done a → Contains rest b → a.0.0 < b.0.0

pub grouping-start : (arcs : List (Label × Oid)) → IsGrouping arcs arcs []
grouping-start arcs = record {
  done = [];
  is = refl;
  grouped = record {
    ascend = λ i j d less within. absurd (omega (arith, within));
    sets = λ k d within. absurd (omega (arith, within));
    some = λ k d within. absurd (omega (arith, within));
    all = λ label oid there. absurd (Contains-none (label, oid) there);
  };
  apart = λ a b there. absurd (Contains-none a there);
}

pub grouping-end : (arcs : List (Label × Oid)) (groups : List (Label × List Oid)) → IsGrouping arcs [] groups
    → AreGroups arcs groups
grouping-end arcs groups grouping =
    subst (λ (l : List (Label × Oid)). AreGroups l groups) (sym (grouping.is ∙ append-nil grouping.done))
    grouping.grouped

abbrev pub child_of : Label × Oid → Oid
child_of arc = arc.1

-- the arcs of a group have its label
pub record IsGroup (rest : List (Label × Oid)) (label : Label) (len : ℕ) : Type 0 where
  pub first : (d : Label × Oid) → (get_or rest 0 d).0 ≡ label
  pub some : 0 < length rest
  pub inside : len ≤ length rest
  pub group : AllWithin (λ arc. arc.0.0 ≡ label.0) rest 0 len
  pub end : len < length rest → HoldsAt (λ arc. arc.0.0 ≢ label.0) rest len

-- what stands before the rest is a group by itself
pub group-is : (rest : List (Label × Oid)) (first : Label × Oid) (len : ℕ) → Some first ≡ slice_get rest 0
    → len ≤ length rest
    → AllWithin (λ arc. arc.0.0 ≡ first.0.0) rest 0 len
    → (len < length rest → HoldsAt (λ arc. arc.0.0 ≢ first.0.0) rest len) → IsGroup rest first.0 len
group-is rest first len at inside group end = record {
  first = λ d. ap (λ (a : Label × Oid). a.0) (get_or_from_slice_get rest 0 first d (sym at));
  some = slice_get_within rest 0 first (sym at);
  inside = inside;
  group = group;
  end = end;
}

module _ (rest : List (Label × Oid)) (label : Label) (len : ℕ) (ascend : AscendAsArcs rest)
    (is : IsGroup rest label len) where
  pub group-ascends : AllPairs (λ a b. a.1.0 < b.1.0) (take len rest)
  group-ascends i j d less within =
      let at_j : j < len = omega (arith, within, length-take len rest) in
      let in_rest : j < length rest = omega (arith, within, length-take len rest) in
      let labels : (get_or rest i d).0.0 ≡ (get_or rest j d).0.0 =
      is.group i d (omega arith) (omega (arith, less, at_j)) ∙ sym (is.group j d (omega arith) at_j) in
      rw (get_or-take len rest i d (omega (arith, less, at_j)), get_or-take len rest j d at_j)
      (oids-rise (get_or rest i d) (get_or rest j d) (ascend i j d less in_rest) labels)

  pub some-first : 0 < len
  some-first = elim (cases_lt 0 len) [
    | inl some ↦ some
    | inr none ↦ (
        let empty : len ≡ 0 = omega (arith, none) in
        let d : Label × Oid = (label, record { 0 = 0 }) in
        let other = is.end (omega (arith, empty, is.some)) d in
        absurd (other (ap (λ (k : ℕ). (get_or rest k d).0.0) empty ∙ ap (λ (l : Label). l.0) (is.first d))))
  ]

  in-group : (arc : Label × Oid) → Contains (take len rest) arc → arc.0 ≡ label
  in-group arc there =
      let at : there.0 < len = omega (arith, there.1, length-take len rest) in
      let number : arc.0.0 ≡ label.0 =
      sym (ap (λ (a : Label × Oid). a.0.0) (sym (get_or-take len rest there.0 arc at) ∙ there.2))
      ∙ is.group there.0 arc (omega arith) at in
      ap (λ (n : ℕ). record { 0 = n }) number

  behind-group : (arc : Label × Oid) → Contains (drop len rest) arc → label.0 < arc.0.0
  behind-group arc there =
      let at : len + there.0 < length rest = omega (arith, there.1, length-drop len rest) in
      let read : get_or rest (len + there.0) arc ≡ arc = sym (get_or-drop len rest there.0 arc) ∙ there.2 in
      let begins : (get_or rest 0 arc).0.0 ≡ label.0 = ap (λ (l : Label). l.0) (is.first arc) in
      let up : (get_or rest 0 arc).0.0 ≤ (get_or rest len arc).0.0 =
      labels-rise (get_or rest 0 arc) (get_or rest len arc) (ascend 0 len arc some-first (omega (arith, at))) in
      let other : (get_or rest len arc).0.0 ≢ label.0 = is.end (omega (arith, at)) arc in
      let more : (get_or rest len arc).0.0 ≤ (get_or rest (len + there.0) arc).0.0 = (elim (cases_lt 0 there.0) [
        | inl later ↦ labels-rise (get_or rest len arc) (get_or rest (len + there.0) arc)
            (ascend len (len + there.0) arc (omega (arith, later)) at)
        | inr here ↦ (let same : len + there.0 ≡ len = omega (arith, here) in omega
            (arith, ap (λ (k : ℕ). (get_or rest k arc).0.0) same))
      ]) in
      let last : (get_or rest (len + there.0) arc).0.0 ≡ arc.0.0 = ap (λ (a : Label × Oid). a.0.0) read in
      omega (arith, begins, up, other, more, last)

  parts : rest ≡ take len rest ++ drop len rest
  parts = sym (take-append-drop len rest)

  module _ (arcs : List (Label × Oid)) (groups : List (Label × List Oid)) (before : IsGrouping arcs rest groups) where
    abbrev first_arc : Label × Oid
    first_arc = get_or rest 0 (label, record { 0 = 0 })

    first-there : Contains rest first_arc
    first-there = Contains-get_or rest 0 (label, record { 0 = 0 }) is.some

    first-label : first_arc.0.0 ≡ label.0
    first-label = ap (λ (l : Label). l.0) (is.first (label, record { 0 = 0 }))

    -- what was grouped has lower labels
    grouped-below : (group : Label × List Oid) → Contains groups group → group.0.0 < label.0
    grouped-below group there =
        let one =
        some-member group.1 (All-contains (λ (g : Label × List Oid). (g.1 ≡ []) → ⊥) groups group before.grouped.some
        there) in
        let arc =
        ((All-contains (λ (g : Label × List Oid). ListsInOrder (λ oid. Contains before.done (g.0, oid)) g.1) groups
        group before.grouped.sets there).exact one.0).0 one.1 in
        omega (arith, before.apart (group.0, one.0) first_arc arc first-there, first-label)

    done-below : (arc : Label × Oid) → Contains before.done arc → arc.0.0 < label.0
    done-below arc there = omega (arith, before.apart arc first_arc there first-there, first-label)

    old-set : (group : Label × List Oid) → Contains groups group
        → ListsInOrder (λ oid. Contains (before.done ++ take len rest) (group.0, oid)) group.1
    old-set group there =
        ListsInOrder-same (λ oid. Contains before.done (group.0, oid))
        (λ oid. Contains (before.done ++ take len rest) (group.0, oid)) group.1
        (λ oid. (
          λ at. Contains-append_left before.done (take len rest) (group.0, oid) at,
          λ at. elim (Contains-append_cases before.done (take len rest) (group.0, oid) at) [
            | inl old ↦ old
            | inr new ↦ absurd (omega (
              arith,
              grouped-below group there,
              ap (λ (l : Label). l.0)
                  (in-group (group.0, oid) new),
            ))
          ],
        ))
        (All-contains (λ (g : Label × List Oid). ListsInOrder (λ oid. Contains before.done (g.0, oid)) g.1) groups
        group before.grouped.sets there)

    new-set : ListsInOrder (λ oid. Contains (before.done ++ take len rest) (label, oid)) (map child_of (take len rest))
    new-set = record {
      ascending =
          AllPairs-map child_of (λ (a b : Label × Oid). a.1.0 < b.1.0) (λ (a b : Oid). a.0 < b.0) (λ a b less. less)
          (take len rest) group-ascends;
      exact = λ oid. (
        λ there. (
            let arc = Contains-from_map child_of (take len rest) oid there in
            let labelled : arc.0.0 ≡ label = in-group arc.0 arc.1 in
            let child : arc.0.1 ≡ oid = arc.2 in
            let same : arc.0 ≡ (label, oid) = λ i. (labelled i, child i) in
            Contains-append_right before.done (take len rest) (label, oid)
            (subst (λ (a : Label × Oid). Contains (take len rest) a) same arc.1)),
        λ there. elim (Contains-append_cases before.done (take len rest) (label, oid) there) [
          | inl old ↦ absurd (omega (arith, done-below (label, oid) old))
          | inr new ↦ Contains-map child_of (take len rest) (label, oid) new
        ],
      );
    }

    some-children : (map child_of (take len rest) ≡ []) → ⊥
    some-children none =
        let sizes : length (map child_of (take len rest)) ≡ 0 = ap length none in
        omega (arith, sizes, length-map (take len rest) child_of, length-take len rest, some-first, is.some)

    abbrev group_now : Label × List Oid
    group_now = (label, map child_of (take len rest))

    groups-more : AreGroups (before.done ++ take len rest) (groups ++ group_now ∷ [])
    groups-more = record {
      ascend =
          AllPairs-push (λ (a b : Label × List Oid). a.0.0 < b.0.0) groups group_now before.grouped.ascend
          grouped-below;
      sets =
          All-push (λ (g : Label × List Oid). ListsInOrder (λ oid. Contains (before.done ++ take len rest) (g.0, oid))
          g.1) groups group_now
          (All-from_members (λ (g : Label × List Oid). ListsInOrder (λ oid. Contains (before.done ++ take len rest) (g.0, oid))
          g.1) groups old-set) new-set;
      some = All-push (λ (g : Label × List Oid). (g.1 ≡ []) → ⊥) groups group_now before.grouped.some some-children;
      all = λ l oid there. elim (Contains-append_cases before.done (take len rest) (l, oid) there) [
        | inl old ↦ (let from = before.grouped.all l oid old in
            (from.0, Contains-append_left groups (group_now ∷ []) (l, from.0) from.1))
        | inr new ↦ (
          map child_of (take len rest),
          subst (λ (m : Label). Contains (groups ++ group_now ∷ []) (m, map child_of (take len rest)))
              (sym (in-group (l, oid) new)) (Contains-push groups group_now),
        )
      ];
    }

    pub grouping-more : IsGrouping arcs (drop len rest) (groups ++ group_now ∷ [])
    grouping-more = record {
      done = before.done ++ take len rest;
      is =
          before.is ∙ ap (λ (l : List (Label × Oid)). before.done ++ l) parts
          ∙ sym (append_assoc before.done (take len rest) (drop len rest));
      grouped = groups-more;
      apart = λ a b there behind. elim (Contains-append_cases before.done (take len rest) a there) [
        | inl old ↦ before.apart a b old (subst (λ (l : List (Label × Oid)). Contains l b) (sym parts)
            (Contains-append_right (take len rest) (drop len rest) b behind))
        | inr new ↦ omega (arith, ap (λ (l : Label). l.0) (in-group a new), behind-group b behind)
      ];
    }

pub rest-ascends : (arcs rest : List (Label × Oid)) (groups : List (Label × List Oid)) → AscendAsArcs arcs
    → IsGrouping arcs rest groups → AscendAsArcs rest
rest-ascends arcs rest groups ascend grouping =
    AllPairs-back (λ (a b : Label × Oid). arc_cmp a b ≡ Less) grouping.done rest
    (subst (λ (l : List (Label × Oid)). AscendAsArcs l) grouping.is ascend)

-- the groups of a set's arcs are its steps
pub steps-from : (edges : List Edge) (set : List Oid) (arcs : List (Label × Oid)) (groups : List (Label × List Oid))
    → AreArcs edges set arcs → AreGroups arcs groups → AreSteps edges set groups
steps-from edges set arcs groups are grouped = record {
  ascend = grouped.ascend;
  sets =
      All-weaker (λ (g : Label × List Oid). ListsInOrder (λ oid. Contains arcs (g.0, oid)) g.1)
      (λ (g : Label × List Oid). IsStep edges set g.0 g.1)
      (λ g lists. ListsInOrder-same (λ oid. Contains arcs (g.0, oid)) (LeavesTo edges set g.0) g.1 (are.exact g.0)
      lists) groups grouped.sets;
  some = grouped.some;
  all = λ label oid leaves. grouped.all label oid ((are.exact label oid).1 leaves);
}

pub no-first : {X : Type 0} (xs : List X) → slice_get xs 0 ≡ None → xs ≡ []
no-first [] none = refl
no-first (x ∷ xs) none = cc
