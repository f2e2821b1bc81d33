-- Arcs: those of the edges that leave a set, and when they ascend.
use Rattle.std.proofs.Common.{◌≡◌, ◌↔◌, ℕ, ◌+◌, ◌<◌, ◌≤◌, ◌==◌, Less, inl, inr, List, [], ◌∷◌, ◌++◌}
use Rattle.std.proofs.Common.{length, get_or, take, Contains, sym, ap, ◌∙◌, subst, arith}
use Rattle.std.specs.List.{flat_map}
use Rattle.std.specs.Cmp.{IsTotalOrder}
use Rattle.std.proofs.lemmas.Bool.Decides.{nat_tests}
use Rattle.std.proofs.lemmas.Cmp.{nat_cmp_total, on_total, then_total}
use Rattle.std.proofs.lemmas.List.{take_more, flat_map_more}
use Rattle.std.proofs.lemmas.List.Elements.{Contains-append_left, Contains-append_right, Contains-append_cases}
use Rattle.lore_base.specs.Walks.{edge_of, out_of}
use Rattle.lore_base.proofs.MemberLaws.{Contains-none, Contains-head, Contains-tail, Contains-cases, Contains-same}
use Rattle.lore_base.proofs.MemberLaws.{Contains-filter, unfiltered}
use Rattle.list_laws.proofs.OrderLaws.{eqb_itself}
use Rattle.list_laws.proofs.MemberLaws.{Contains-map, Contains-from_map}
use Rattle.index_traits.proofs.ObjectLaws.{same_oid}
use Rattle.set_steps.specs.Types.{Oid, Label, Edge}
use Rattle.lore_base.specs.TargetSets.{LeavesTo}
use Rattle.set_steps.proofs.PairLaws.{AllPairs-from_next}
use Rattle.set_steps.specs.inside.Arcs.{arc_cmp, AscendAsArcs, leaving, arcs_of, AreArcs}

-- ---- the edges that leave a set
pub leaving-more : (edges : List Edge) (set : List Oid) (i : ℕ) (d : Oid) → i < length set
    → leaving edges (take (i + 1) set) ≡ leaving edges (take i set) ++ out_of (get_or set i d) edges
leaving-more edges set i d within =
    ap (leaving edges) (take_more set i d within)
    ∙ sym (flat_map_more (λ (oid : Oid). out_of oid edges) [] (take i set) (get_or set i d))

in-flat_map : {X Y : Type 0} (f : X → List Y) (xs : List X) (y : Y) → Contains (flat_map f xs) y
    → (x : X) × Contains xs x × Contains (f x) y
in-flat_map f [] y there = absurd (Contains-none y there)
in-flat_map f (x ∷ xs) y there = elim (Contains-append_cases (f x) (flat_map f xs) y there) [
  | inl here ↦ (x, Contains-head x xs, here)
  | inr later ↦ (let rest = in-flat_map f xs y later in (rest.0, Contains-tail x xs rest.0 rest.1, rest.2))
]

to-flat_map : {X Y : Type 0} (f : X → List Y) (xs : List X) (x : X) (y : Y) → Contains xs x → Contains (f x) y
    → Contains (flat_map f xs) y
to-flat_map f [] x y there in_f = absurd (Contains-none x there)
to-flat_map {X} {Y} f (first ∷ xs) x y there in_f = elim (Contains-cases first xs x there) [
  | inl same ↦ Contains-append_left (f first) (flat_map f xs) y (subst (λ (z : X). Contains (f z) y) (sym same) in_f)
  | inr later ↦ Contains-append_right (f first) (flat_map f xs) y (to-flat_map f xs x y later in_f)
]

-- the arcs of these edges are what leaves the set
pub arcs-leave : (edges : List Edge) (set : List Oid) (label : Label) (oid : Oid)
    → Contains (arcs_of (leaving edges set)) (label, oid) ↔ LeavesTo edges set label oid
arcs-leave edges set label oid = (
  λ there. (
      let arc = Contains-from_map (λ (edge : Edge). (edge.label, edge.child)) (leaving edges set) (label, oid) there in
      let from = in-flat_map (λ (o : Oid). out_of o edges) set arc.0 arc.1 in
      let kept = unfiltered (λ (edge : Edge). edge.parent.0 == from.0.0) edges arc.0 from.2 in
      let parent : arc.0.parent ≡ from.0 = same_oid arc.0.parent from.0 kept.1 in
      let labels : arc.0.label ≡ label = ap (λ (p : Label × Oid). p.0) arc.2 in
      let child : arc.0.child ≡ oid = ap (λ (p : Label × Oid). p.1) arc.2 in
      let same : arc.0 ≡ edge_of from.0 label oid =
      λ i. record { parent = parent i; label = labels i; child = child i } in
      record {
        from = from.0;
        member = from.1;
        edge = Contains-same edges arc.0 (edge_of from.0 label oid) same kept.0;
      }),
  λ leaves. (
      let out =
      Contains-filter (λ (edge : Edge). edge.parent.0 == leaves.from.0) edges (edge_of leaves.from label oid)
      leaves.edge (eqb_itself leaves.from.0) in
      Contains-map (λ (edge : Edge). (edge.label, edge.child)) (leaving edges set) (edge_of leaves.from label oid)
      (to-flat_map (λ (o : Oid). out_of o edges) set leaves.from (edge_of leaves.from label oid) leaves.member out)),
)

-- arcs that were put in order
pub are-arcs : (edges : List Edge) (set : List Oid) (found arcs : List (Label × Oid))
    → found ≡ arcs_of (leaving edges set) → AscendAsArcs arcs
    → ((arc : Label × Oid) → Contains arcs arc ↔ Contains found arc) → AreArcs edges set arcs
are-arcs edges set found arcs is ascend members = record {
  ascend = ascend;
  exact = λ label oid. (
    λ there. (arcs-leave edges set label oid).0 (subst (λ (l : List (Label × Oid)). Contains l (label, oid)) is
        ((members (label, oid)).0 there)),
    λ leaves. (members (label, oid)).1 (subst (λ (l : List (Label × Oid)). Contains l (label, oid)) (sym is)
        ((arcs-leave edges set label oid).1 leaves)),
  );
}

-- ---- order
arc_total : IsTotalOrder arc_cmp
arc_total =
    then_total (on_total (λ (a : Label × Oid). a.0.0) nat_cmp_total)
    (on_total (λ (a : Label × Oid). a.1.0) nat_cmp_total)

pub labels-rise : (a b : Label × Oid) → arc_cmp a b ≡ Less → a.0.0 ≤ b.0.0
labels-rise a b less = grind (arith, nat_tests)

pub oids-rise : (a b : Label × Oid) → arc_cmp a b ≡ Less → a.0.0 ≡ b.0.0 → a.1.0 < b.1.0
oids-rise a b less same = grind (arith, nat_tests)

-- where each arc comes before the next one all ascend
pub ascend-from_next : (arcs : List (Label × Oid))
    → ((k : ℕ) (d : Label × Oid) → k + 1 < length arcs → arc_cmp (get_or arcs k d) (get_or arcs (k + 1) d) ≡ Less)
    → AscendAsArcs arcs
ascend-from_next arcs next = AllPairs-from_next (λ (a b : Label × Oid). arc_cmp a b ≡ Less) arc_total.trans arcs next
