-- Edges that go: those that are lost, and those that leave dead objects.
use Rattle.std.proofs.Common.{◌≡◌, ◌⊎◌, ◌↔◌, ℕ, ◌+◌, ◌<◌, Less, List, [], ◌∷◌, length, get_or, take, drop, Contains, sym, ap, ◌∙◌, inl, inr, subst, arith}
use Rattle.std.proofs.lemmas.Bool.Decides.{nat_tests}
use Rattle.std.proofs.lemmas.List.{take_more, length-take, take-append-drop, get_or_append_left, get_or_default}
use Rattle.std.proofs.lemmas.List.Elements.{Contains-get_or, Contains-append_cases, Contains-append_left, Contains-append_right}
use Rattle.slab.specs.Slab.{Slab}
use Rattle.strand_sort.specs.StrandSorts.{AreJoined}
use Rattle.lore_base.specs.Walks.{edge_cmp}
use Rattle.lore_base.specs.Databases.{AreAscendingEdges}
use Rattle.lore_base.proofs.ListLaws.{AllPairs-append}
use Rattle.lore_base.proofs.MemberLaws.{Contains-none, Contains-head, Contains-cases, Contains-same}
use Rattle.edge_lists.specs.Runs.{ListsRun}
use Rattle.edge_lists.specs.Views.{edges_of}
use Rattle.edge_lists.proofs.ViewLaws.{edges_lie}
use Rattle.graph_changes.specs.Types.{Oid, Edge, Out, EdgeRecord}
use Rattle.edge_layers.specs.EdgeTests.{edge_eq}
use Rattle.graph_changes.specs.Left.{AreAscendingOids, AreGone}
use Rattle.graph_changes.specs.inside.Leaving.{AreLeaving}
use Rattle.edge_layers.proofs.EdgeLaws.{edge_same}

-- where nothing is dead the lost edges go
pub gone-none : (records : Slab EdgeRecord) (lost : List Edge) (dead : List Oid) → dead ≡ [] → AreAscendingEdges lost → AreGone records lost dead lost
gone-none records lost dead none ascend = record {
  ascend = ascend;
  exact = λ edge. (
    λ at. inl at,
    λ either. elim either [
      | inl at ↦ at
      | inr leaves ↦ absurd (Contains-none edge.parent (subst (λ (l : List Oid). Contains l edge.parent) none leaves.1))
    ],
  );
}

pub gone-joined : (records : Slab EdgeRecord) (lost leaving gone : List Edge) (dead : List Oid) → AreLeaving records dead leaving → AreJoined edge_cmp edge_eq lost leaving gone
    → AreGone records lost dead gone
gone-joined records lost leaving gone dead are joined = record {
  ascend = joined.ascend;
  exact = λ edge. (
    λ at. elim ((joined.members edge_same edge).0 at) [
      | inl loses ↦ inl loses
      | inr leaves ↦ inr ((are.exact edge).0 leaves)
    ],
    λ either. (joined.members edge_same edge).1 (elim either [
      | inl loses ↦ inl loses
      | inr leaves ↦ inr ((are.exact edge).1 leaves)
    ]),
  );
}

-- ---- the edges that leave objects, one object after another
pub leaving-none : (records : Slab EdgeRecord) → AreLeaving records [] []
leaving-none records = record {
  ascend = λ i j d lt len. absurd (omega (arith, len));
  exact = λ edge. (λ at. absurd (Contains-none edge at), λ both. absurd (Contains-none edge.parent both.1));
}

lower_parent : (a b : Edge) → a.parent.0 < b.parent.0 → edge_cmp a b ≡ Less
lower_parent a b less = grind (arith, nat_tests)

pub below_at : (oids : List Oid) → AreAscendingOids oids → (i : ℕ) (d : Oid) → i < length oids → (o : Oid) → Contains (take i oids) o → o.0 < (get_or oids i d).0
below_at oids ascend i d lt o at =
    let k = at.0 in
    let lt_k : k < i = omega (arith, at.1, length-take i oids) in
    let read : get_or oids k o ≡ o =
    ap (λ (xs : List Oid). get_or xs k o) (sym (take-append-drop i oids)) ∙ get_or_append_left (take i oids) (drop i oids) o k at.1 ∙ at.2 in
    let here : get_or oids i o ≡ get_or oids i d = get_or_default oids i o d lt in
    omega (arith, ascend k i o lt_k lt, ap (λ (x : Oid). x.0) read, ap (λ (x : Oid). x.0) here)

pub leaving-more : (records : Slab EdgeRecord) (oids : List Oid) → AreAscendingOids oids → (i : ℕ) (d : Oid) → i < length oids → (old new : List Edge) → AreLeaving records (take i oids) old
    → ListsRun Out records (get_or oids i d) old new → AreLeaving records (take (i + 1) oids) new
leaving-more records oids ascend i d lt old new leaving lists = record {
  ascend = subst AreAscendingEdges (sym lists.is)
      (AllPairs-append (λ a b. edge_cmp a b ≡ Less) old lists.run leaving.ascend lists.ascends (λ j k e lt_j lt_k.
      let first = ((leaving.exact (get_or old j e)).0 (Contains-get_or old j e lt_j)).1 in
      let second = ((lists.exact (get_or lists.run k e)).0 (Contains-get_or lists.run k e lt_k)).1 in
      let below = below_at oids ascend i d lt (get_or old j e).parent first in
      lower_parent (get_or old j e) (get_or lists.run k e) (omega (arith, below, ap (λ (x : Oid). x.0) second))));
  exact = λ edge. (
    λ at. elim (Contains-append_cases old lists.run edge (subst (λ (l : List Edge). Contains l edge) lists.is at)) [
      | inl earlier ↦ (let both = (leaving.exact edge).0 earlier in (both.0, in_more edge.parent (inl both.1)))
      | inr now ↦ (let both = (lists.exact edge).0 now in (both.0, in_more edge.parent (inr (sym both.1))))
    ],
    λ both. subst (λ (l : List Edge). Contains l edge) (sym lists.is) (elim (of_more edge.parent both.1) [
      | inl earlier ↦ Contains-append_left old lists.run edge ((leaving.exact edge).1 (both.0, earlier))
      | inr now ↦ Contains-append_right old lists.run edge ((lists.exact edge).1 (both.0, sym now))
    ]),
  );
}
  where
    one : Oid
    one = get_or oids i d

    in_more : (o : Oid) → Contains (take i oids) o ⊎ (one ≡ o) → Contains (take (i + 1) oids) o
    in_more o either = subst (λ (l : List Oid). Contains l o) (sym (take_more oids i d lt)) (elim either [
      | inl earlier ↦ Contains-append_left (take i oids) (one ∷ []) o earlier
      | inr now ↦ Contains-append_right (take i oids) (one ∷ []) o (Contains-same (one ∷ []) one o now (Contains-head one []))
    ])

    of_more : (o : Oid) → Contains (take (i + 1) oids) o → Contains (take i oids) o ⊎ (one ≡ o)
    of_more o at = elim (Contains-append_cases (take i oids) (one ∷ []) o (subst (λ (l : List Oid). Contains l o) (take_more oids i d lt) at)) [
      | inl earlier ↦ inl earlier
      | inr last ↦ elim (Contains-cases one [] o last) [ inl same ↦ inr same | inr none ↦ absurd (Contains-none o none) ]
    ]

-- what goes, as it is seen
pub going : (records : Slab EdgeRecord) (lost gone : List Edge) (dead : List Oid) → AreGone records lost dead gone
    → (edge : Edge) → Contains gone edge ↔ (Contains lost edge ⊎ (Contains (edges_of records) edge × Contains dead edge.parent))
going records lost gone dead are edge = (
  λ at. elim ((are.exact edge).0 at) [ inl loses ↦ inl loses | inr leaves ↦ inr ((edges_lie records edge).1 leaves.0, leaves.1) ],
  λ either. (are.exact edge).1 (elim either [ inl loses ↦ inl loses | inr leaves ↦ inr ((edges_lie records edge).0 leaves.0, leaves.1) ]),
)
