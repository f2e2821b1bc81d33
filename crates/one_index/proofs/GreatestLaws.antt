-- Of the backward bisimulations of a graph one has the pairs of all others, so it can be told which objects belong
-- together; and objects that belong together with one belong together.
use Rattle.std.proofs.Common.{◌≡◌, ◌⊎◌, ℕ, zero, suc, ◌+◌, ◌<◌, ◌≤◌, ◌==◌, inl, inr, Bool, true, false, not, List, [], ◌∷◌, length, map, filter, refl, sym, ap, ◌∙◌, subst, arith}
use Rattle.std.specs.List.{Contains, flat_map}
use Rattle.std.proofs.lemmas.Bool.Decides.{Decides-eqb}
use Rattle.std.proofs.lemmas.List.Filters.{length-filter_both}
use Rattle.lore_base.specs.Walks.{edge_of}
use Rattle.lore_base.proofs.MemberLaws.{Contains-filter}
use Rattle.lore_base.proofs.ToldLaws.{IsTold, told_by, told_same, told_not, told_both, told_either, told_member, told_oid, told_some, passes_told, passing, members_passing}
use Rattle.list_laws.proofs.MemberLaws.{Contains-map, Contains-from_map}
use Rattle.block_rounds.proofs.MapLaws.{Contains-flat_map, Contains-from_flat_map}
use Rattle.one_index.specs.Types.{Oid, Label, Edge}
use Rattle.one_index.specs.Blocks.{NamedGraph, IsSound, HaveSameNames, IsBackward, BelongTogether}

abbrev Pair : Type 0
Pair = Oid × Oid

-- whether all members pass
pub told_all : {X : Type 0} (Q : X → Type 0) → ((x : X) → IsTold (Q x)) → (xs : List X)
    → IsTold ((x : X) → Contains xs x → Q x)
told_all Q told xs = elim (told_some (λ x. Q x → ⊥) (λ x. told_not (told x)) xs) [
  | inl bad ↦ inr (λ all. bad.2 (all bad.0 bad.1))
  | inr none ↦ inl (λ x at. elim (told x) [ inl holds ↦ holds | inr fails ↦ absurd (none (x, at, fails)) ])
]

-- where a member doesn't pass, fewer do
fails_told : {P : Type 0} (told : IsTold P) → (P → ⊥) → not (passes_told told) ≡ true
fails_told (inl p) fails = absurd (fails p)
fails_told (inr none) fails = refl

fewer_pass : {X : Type 0} (P : X → Type 0) (told : (x : X) → IsTold (P x)) (xs : List X) (x : X) → Contains xs x
    → (P x → ⊥) → length (passing P told xs) < length xs
fewer_pass P told xs x at fails =
    let other : Contains (filter (λ y. not (passes_told (told y))) xs) x =
    Contains-filter (λ y. not (passes_told (told y))) xs x at (fails_told (told x) fails) in
    let all : length (filter (λ y. passes_told (told y)) xs) + length (filter (λ y. not (passes_told (told y))) xs) ≡ length xs =
    length-filter_both (λ y. passes_told (told y)) (λ y. not (passes_told (told y))) (λ y. refl) xs in
    let some : 0 < length (filter (λ y. not (passes_told (told y))) xs) = omega (arith, other.1) in
    let less : length (filter (λ y. passes_told (told y)) xs) < length xs = omega (arith, all, some) in
    less

told_label : (a b : Label) → IsTold (a ≡ b)
told_label a b =
    told_same (λ (same : a.0 ≡ b.0). λ i. record { 0 = same i }) (ap (λ (label : Label). label.0))
    (told_by (a.0 == b.0) (Decides-eqb a.0 b.0))

told_pair : (a b : Pair) → IsTold (a ≡ b)
told_pair a b =
    told_same (λ (same : (a.0 ≡ b.0) × (a.1 ≡ b.1)). λ i. (same.0 i, same.1 i))
    (λ same. (ap (λ (p : Pair). p.0) same, ap (λ (p : Pair). p.1) same))
    (told_both (told_oid a.0 b.0) (told_oid a.1 b.1))

module _ (graph : NamedGraph) where
  -- an edge like this one enters the object, and their parents are a pair
  abbrev IsLike : List Pair → Oid → Edge → Edge → Type 0
  IsLike pairs y edge other = (other.label ≡ edge.label) × ((other.child ≡ y) × Contains pairs (edge.parent, other.parent))

  abbrev IsMatched : List Pair → Oid → Oid → Edge → Type 0
  IsMatched pairs x y edge = (edge.child ≡ x → ⊥) ⊎ ((other : Edge) × Contains graph.edges other × IsLike pairs y edge other)

  -- each edge that enters the one is matched by one that enters the other, both ways
  abbrev Follows : List Pair → Oid → Oid → Type 0
  Follows pairs x y = (edge : Edge) → Contains graph.edges edge → IsMatched pairs x y edge

  abbrev Stays : List Pair → Pair → Type 0
  Stays pairs pair = Follows pairs pair.0 pair.1 × Follows pairs pair.1 pair.0

  told_matched : (pairs : List Pair) (x y : Oid) (edge : Edge) → IsTold (IsMatched pairs x y edge)
  told_matched pairs x y edge =
      told_either (told_not (told_oid edge.child x))
      (told_some (IsLike pairs y edge) (λ other.
      told_both (told_label other.label edge.label)
      (told_both (told_oid other.child y) (told_member told_pair pairs (edge.parent, other.parent)))) graph.edges)

  told_stays : (pairs : List Pair) (pair : Pair) → IsTold (Stays pairs pair)
  told_stays pairs pair =
      told_both (told_all (IsMatched pairs pair.0 pair.1) (told_matched pairs pair.0 pair.1) graph.edges)
      (told_all (IsMatched pairs pair.1 pair.0) (told_matched pairs pair.1 pair.0) graph.edges)

  -- the pairs of a bisimulation follow one another in any list that has them all
  followed : (more pairs : List Pair) → IsBackward graph more → ((x y : Oid) → Contains more (x, y) → Contains pairs (x, y))
      → (x y : Oid) → Contains more (x, y) → Follows pairs x y
  followed more pairs backward above x y held edge at = elim (told_oid edge.child x) [
    | inr apart ↦ inl apart
    | inl here ↦ inr (
        let is : edge ≡ edge_of edge.parent edge.label x =
        λ i. record { parent = edge.parent; label = edge.label; child = here i } in
        let step = backward.entered x y edge.parent edge.label held (subst (λ (e : Edge). Contains graph.edges e) is at) in
        (edge_of step.0 edge.label y, step.1, (refl, (refl, above edge.parent step.0 step.2))))
  ]

  -- ---- pairs that no bisimulation goes beyond
  record IsAbove (pairs : List Pair) : Type 0 where
    live : (x y : Oid) → Contains pairs (x, y) → Contains graph.objects x × Contains graph.objects y
    symmetric : (x y : Oid) → Contains pairs (x, y) → Contains pairs (y, x)
    named : (x y : Oid) → Contains pairs (x, y) → HaveSameNames graph x y
    above : (more : List Pair) → IsBackward graph more → (x y : Oid) → Contains more (x, y) → Contains pairs (x, y)

  pub record IsGreatest (pairs : List Pair) : Type 0 where
    pub backward : IsBackward graph pairs
    pub above : (more : List Pair) → IsBackward graph more → (x y : Oid) → Contains more (x, y) → Contains pairs (x, y)

  -- those that stay are so too
  IsAbove-next : (pairs : List Pair) → IsAbove pairs → IsAbove (passing (Stays pairs) (told_stays pairs) pairs)
  IsAbove-next pairs is = record {
    live = λ x y at. is.live x y ((members_passing (Stays pairs) (told_stays pairs) pairs (x, y)).0 at).0;
    symmetric = λ x y at.
        let kept = (members_passing (Stays pairs) (told_stays pairs) pairs (x, y)).0 at in
        (members_passing (Stays pairs) (told_stays pairs) pairs (y, x)).1 (is.symmetric x y kept.0, (kept.1.1, kept.1.0));
    named = λ x y at. is.named x y ((members_passing (Stays pairs) (told_stays pairs) pairs (x, y)).0 at).0;
    above = λ more backward x y held.
        (members_passing (Stays pairs) (told_stays pairs) pairs (x, y)).1 (
          is.above more backward x y held,
          (
            followed more pairs backward (is.above more backward) x y held,
            followed more pairs backward (is.above more backward) y x (backward.symmetric x y held),
          ),
        );
  }

  -- where all stay they are a bisimulation
  IsGreatest-stayed : (pairs : List Pair) → IsAbove pairs → ((pair : Pair) → Contains pairs pair → Stays pairs pair)
      → IsGreatest pairs
  IsGreatest-stayed pairs is stay = record {
    backward = record {
      live = is.live;
      symmetric = is.symmetric;
      named = is.named;
      entered = λ x y parent label held edge. elim ((stay (x, y) held).0 (edge_of parent label x) edge) [
        | inl apart ↦ absurd (apart refl)
        | inr like ↦ (
            let other = like.0 in
            let matches : IsLike pairs y (edge_of parent label x) other = like.2 in
            let same : other ≡ edge_of other.parent label y =
            λ i. record { parent = other.parent; label = matches.0 i; child = matches.1.0 i } in
            (other.parent, subst (λ (e : Edge). Contains graph.edges e) same like.1, matches.1.1))
      ];
    };
    above = is.above;
  }

  greatest : (fuel : ℕ) (pairs : List Pair) → length pairs ≤ fuel → IsAbove pairs → (found : List Pair) × IsGreatest found
  greatest zero pairs few is = (pairs, IsGreatest-stayed pairs is (λ pair at. absurd (omega (arith, few, at.1))))
  greatest (suc fuel) pairs few is =
      elim (told_some (λ pair. Stays pairs pair → ⊥) (λ pair. told_not (told_stays pairs pair)) pairs) [
        | inl bad ↦ (
            let less : length (passing (Stays pairs) (told_stays pairs) pairs) < length pairs =
            fewer_pass (Stays pairs) (told_stays pairs) pairs bad.0 bad.1 bad.2 in
            greatest fuel (passing (Stays pairs) (told_stays pairs) pairs) (omega (arith, few, less)) (IsAbove-next pairs is))
        | inr none ↦ (
          pairs,
          IsGreatest-stayed pairs is (λ pair at. elim (told_stays pairs pair) [
            | inl stays ↦ stays
            | inr fails ↦ absurd (none (pair, at, fails))
          ]),
        )
      ]

  -- ---- the first pairs: of one object, or of objects without a name
  abbrev IsUnnamed : Oid → Type 0
  IsUnnamed x = (entry : List ℕ × Oid) → Contains graph.names entry → entry.1 ≡ x → ⊥

  abbrev MayPair : Pair → Type 0
  MayPair pair = (pair.0 ≡ pair.1) ⊎ (IsUnnamed pair.0 × IsUnnamed pair.1)

  told_unnamed : (x : Oid) → IsTold (IsUnnamed x)
  told_unnamed x =
      told_all (λ (entry : List ℕ × Oid). entry.1 ≡ x → ⊥) (λ entry. told_not (told_oid entry.1 x)) graph.names

  told_may : (pair : Pair) → IsTold (MayPair pair)
  told_may pair = told_either (told_oid pair.0 pair.1) (told_both (told_unnamed pair.0) (told_unnamed pair.1))

  abbrev pairs_with : Oid → List Pair
  pairs_with x = map (λ y. (x, y)) graph.objects

  abbrev all_pairs : List Pair
  all_pairs = flat_map pairs_with graph.objects

  in_all : (x y : Oid) → Contains graph.objects x → Contains graph.objects y → Contains all_pairs (x, y)
  in_all x y x_live y_live =
      Contains-flat_map pairs_with graph.objects x (x, y) x_live (Contains-map (λ (z : Oid). (x, z)) graph.objects y y_live)

  from_all : (x y : Oid) → Contains all_pairs (x, y) → Contains graph.objects x × Contains graph.objects y
  from_all x y at =
      let outer = Contains-from_flat_map pairs_with graph.objects (x, y) at in
      let inner = Contains-from_map (λ (z : Oid). (outer.0, z)) graph.objects (x, y) outer.2 in
      let x_is : outer.0 ≡ x = ap (λ (p : Pair). p.0) inner.2 in
      let y_is : inner.0 ≡ y = ap (λ (p : Pair). p.1) inner.2 in (
        subst (λ (z : Oid). Contains graph.objects z) x_is outer.1,
        subst (λ (z : Oid). Contains graph.objects z) y_is inner.1,
      )

  may_pair : IsSound graph → (x y : Oid) → HaveSameNames graph x y → MayPair (x, y)
  may_pair sound x y names = elim (told_some (λ (entry : List ℕ × Oid). entry.1 ≡ x) (λ entry. told_oid entry.1 x) graph.names) [
    | inl named ↦ (
        let here = subst (λ (z : Oid). Contains graph.names (named.0.0, z)) named.2 named.1 in
        inl (sound.one named.0.0 x y here ((names named.0.0).0 here)))
    | inr none ↦ inr (
      λ entry at same. none (entry, at, same),
      λ entry at same. none (
        (entry.0, x),
        (names entry.0).1 (subst (λ (z : Oid). Contains graph.names (entry.0, z)) same at),
        refl,
      ),
    )
  ]

  same_names : (x y : Oid) → MayPair (x, y) → HaveSameNames graph x y
  same_names x y (inl one) name = (
    λ at. subst (λ (z : Oid). Contains graph.names (name, z)) one at,
    λ at. subst (λ (z : Oid). Contains graph.names (name, z)) (sym one) at,
  )
  same_names x y (inr neither) name = (
    λ at. absurd (neither.0 (name, x) at refl),
    λ at. absurd (neither.1 (name, y) at refl),
  )

  swapped : (x y : Oid) → MayPair (x, y) → MayPair (y, x)
  swapped x y (inl one) = inl (sym one)
  swapped x y (inr neither) = inr (neither.1, neither.0)

  IsAbove-first : IsSound graph → IsAbove (passing MayPair told_may all_pairs)
  IsAbove-first sound = record {
    live = λ x y at. from_all x y ((members_passing MayPair told_may all_pairs (x, y)).0 at).0;
    symmetric = λ x y at.
        let kept = (members_passing MayPair told_may all_pairs (x, y)).0 at in
        let live = from_all x y kept.0 in
        (members_passing MayPair told_may all_pairs (y, x)).1 (in_all y x live.1 live.0, swapped x y kept.1);
    named = λ x y at. same_names x y ((members_passing MayPair told_may all_pairs (x, y)).0 at).1;
    above = λ more backward x y held.
        let live = backward.live x y held in
        (members_passing MayPair told_may all_pairs (x, y)).1
        (in_all x y live.0 live.1, may_pair sound x y (backward.named x y held));
  }

  pub some_greatest : IsSound graph → (found : List Pair) × IsGreatest found
  some_greatest sound =
      greatest (length (passing MayPair told_may all_pairs)) (passing MayPair told_may all_pairs) (omega arith) (IsAbove-first sound)

  -- ---- so it is told which objects belong together
  module _ (pairs : List Pair) (is : IsGreatest pairs) where
    pub told_together : (x y : Oid) → IsTold (BelongTogether graph x y)
    told_together x y =
        told_same
        (λ either. elim either [ inl one ↦ inl one | inr at ↦ inr (pairs, is.backward, at) ])
        (λ together. elim together [ inl one ↦ inl one | inr held ↦ inr (is.above held.0 held.1 x y held.2) ])
        (told_either (told_oid x y) (told_member told_pair pairs (x, y)))

    -- a pair and one that begins where it ends
    abbrev joined_with : Pair → List Pair
    joined_with first = map (λ second. (first.0, second.1))
        (passing (λ (second : Pair). second.0 ≡ first.1) (λ second. told_oid second.0 first.1) pairs)

    abbrev joined : List Pair
    joined = flat_map joined_with pairs

    in_joined : (x y z : Oid) → Contains pairs (x, y) → Contains pairs (y, z) → Contains joined (x, z)
    in_joined x y z first second =
        Contains-flat_map joined_with pairs (x, y) (x, z) first
        (Contains-map (λ (p : Pair). (x, p.1))
        (passing (λ (p : Pair). p.0 ≡ y) (λ p. told_oid p.0 y) pairs) (y, z)
        ((members_passing (λ (p : Pair). p.0 ≡ y) (λ p. told_oid p.0 y) pairs (y, z)).1 (second, refl)))

    record IsJoined (x z : Oid) : Type 0 where
      middle : Oid
      first : Contains pairs (x, middle)
      second : Contains pairs (middle, z)

    from_joined : (x z : Oid) → Contains joined (x, z) → IsJoined x z
    from_joined x z at =
        let outer = Contains-from_flat_map joined_with pairs (x, z) at in
        let some = passing (λ (p : Pair). p.0 ≡ outer.0.1) (λ p. told_oid p.0 outer.0.1) pairs in
        let inner = Contains-from_map (λ (p : Pair). (outer.0.0, p.1)) some (x, z) outer.2 in
        let kept = (members_passing (λ (p : Pair). p.0 ≡ outer.0.1) (λ p. told_oid p.0 outer.0.1) pairs inner.0).0 inner.1 in
        let front : outer.0.0 ≡ x = ap (λ (p : Pair). p.0) inner.2 in
        let back : inner.0.1 ≡ z = ap (λ (p : Pair). p.1) inner.2 in
        let begins : inner.0 ≡ (outer.0.1, z) = λ i. (kept.1 i, back i) in
        record {
          middle = outer.0.1;
          first = subst (λ (o : Oid). Contains pairs (o, outer.0.1)) front outer.1;
          second = subst (λ (p : Pair). Contains pairs p) begins kept.0;
        }

    IsBackward-joined : IsBackward graph joined
    IsBackward-joined = record {
      live = λ x z at.
          let join = from_joined x z at in
          ((is.backward.live x join.middle join.first).0, (is.backward.live join.middle z join.second).1);
      symmetric = λ x z at.
          let join = from_joined x z at in
          in_joined z join.middle x (is.backward.symmetric join.middle z join.second)
          (is.backward.symmetric x join.middle join.first);
      named = λ x z at name.
          let join = from_joined x z at in
          let first = is.backward.named x join.middle join.first name in
          let second = is.backward.named join.middle z join.second name in
          (λ held. second.0 (first.0 held), λ held. first.1 (second.1 held));
      entered = λ x z parent label at edge.
          let join = from_joined x z at in
          let first = is.backward.entered x join.middle parent label join.first edge in
          let second = is.backward.entered join.middle z first.0 label join.second first.1 in
          (second.0, second.1, in_joined parent first.0 second.0 first.2 second.2);
    }

    pub together_through : (x y z : Oid) → BelongTogether graph x y → BelongTogether graph y z → BelongTogether graph x z
    together_through x y z (inl one) together = subst (λ (o : Oid). BelongTogether graph o z) (sym one) together
    together_through x y z (inr held) (inl one) = subst (λ (o : Oid). BelongTogether graph x o) one (inr held)
    together_through x y z (inr held) (inr other) =
        inr (
          joined,
          IsBackward-joined,
          in_joined x y z (is.above held.0 held.1 x y held.2) (is.above other.0 other.1 y z other.2),
        )

  pub together_back : (x y : Oid) → BelongTogether graph x y → BelongTogether graph y x
  together_back x y (inl one) = inl (sym one)
  together_back x y (inr held) = inr (held.0, held.1, held.1.symmetric x y held.2)
