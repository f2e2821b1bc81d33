-- The small graph of the tests is in order, before and after its change.
use Rattle.std.proofs.Common.{◌≡◌, ℕ, zero, suc, ◌<◌, Less, List, [], ◌∷◌, length, get_or, All, AllPairs, Contains, refl, sym, ap, inl, inr, subst, ◌≤◌, arith}
use Rattle.std.specs.List.Sorted.{IsStrictlySortedBy}
use Rattle.lore_base.specs.Walks.{edge_cmp}
use Rattle.lore_base.specs.Databases.{IsLive, AreAscendingObjects, AreAscendingEdges}
use Rattle.lore_base.proofs.MemberLaws.{Contains-none, Contains-head, Contains-tail, Contains-cases}
use Rattle.list_laws.proofs.MemberLaws.{none_in}
use Rattle.edge_lists.specs.Commits.{ArePlaces}
use Rattle.oem_graph.specs.Types.{Oid, Value, Complex, Edge}
use Rattle.oem_graph.specs.Graphs.{IsIndexable, HasEnds}
use Rattle.oem_graph.specs.Plans.{PlannedGraph, graph_then}
use Rattle.graph_changes.specs.Puts.{with_objects, put_edges}
use Rattle.edge_layers.specs.Layers.{staying}
use Rattle.graph_changes.specs.Left.{AreAscendingOids, not_dead}
use Rattle.oem_graph.specs.inside.Planned.{IsPlan}
use Rattle.edge_layers.proofs.EdgeLaws.{ascend-one}
use Rattle.oem_graph.specs.inside.Samples.{numbered, sample, sample_objects, edges_before, edges_after}

all-cons : {X : Type 0} (P : X → Type 0) (x : X) (xs : List X) → P x → All P xs → All P (x ∷ xs)
all-cons P x xs first others zero d lt = first
all-cons P x xs first others (suc k) d lt = others k d (omega arith)

all-none : {X : Type 0} (P : X → Type 0) → All P []
all-none P k d lt = absurd (omega arith)

pairs-cons : {X : Type 0} (R : X → X → Type 0) (x : X) (xs : List X) → All (R x) xs → AllPairs R xs → AllPairs R (x ∷ xs)
pairs-cons R x xs first others i zero d lt len = absurd (omega arith)
pairs-cons R x xs first others zero (suc j) d lt len = first j d (omega arith)
pairs-cons R x xs first others (suc i) (suc j) d lt len = others i j d (omega arith) (omega arith)

pairs-none : {X : Type 0} (R : X → X → Type 0) → AllPairs R []
pairs-none R i j d lt len = absurd (omega arith)

abbrev first : Oid
first = record { 0 = 1 }

abbrev second : Oid
second = record { 0 = 2 }

abbrev Lower : Oid × Value → Oid × Value → Type 0
Lower a b = a.0.0 < b.0.0

abbrev Numbered : Oid × Value → Type 0
Numbered o = (1 ≤ o.0.0) × (o.0.0 < 3)

abbrev Before : Edge → Edge → Type 0
Before a b = edge_cmp a b ≡ Less

live-first : IsLive sample_objects first
live-first = (Complex, Contains-head (first, Complex) ((second, Complex) ∷ []))

live-second : IsLive sample_objects second
live-second = (Complex, Contains-tail (first, Complex) ((second, Complex) ∷ []) (second, Complex) (Contains-head (second, Complex) []))

pub sample-indexable : (a b c : Edge) → edge_cmp a b ≡ Less → edge_cmp a c ≡ Less → edge_cmp b c ≡ Less → HasEnds sample_objects a → HasEnds sample_objects b → HasEnds sample_objects c
    → IsIndexable (sample (a ∷ b ∷ c ∷ []))
unfolding IsStrictlySortedBy
sample-indexable a b c ab ac bc a_ends b_ends c_ends = record {
  ordered = record {
    names_ascend = tt;
    objects_ascend = pairs-cons Lower (first, Complex) ((second, Complex) ∷ [])
        (all-cons (Lower (first, Complex)) (second, Complex) [] (omega arith) (all-none (Lower (first, Complex))))
        (pairs-cons Lower (second, Complex) [] (all-none (Lower (second, Complex))) (pairs-none Lower));
    objects_numbered = all-cons Numbered (first, Complex) ((second, Complex) ∷ []) (omega arith, omega arith)
        (all-cons Numbered (second, Complex) [] (omega arith, omega arith) (all-none Numbered));
    edges_ascend = pairs-cons Before a (b ∷ c ∷ []) (all-cons (Before a) b (c ∷ []) ab (all-cons (Before a) c [] ac (all-none (Before a))))
        (pairs-cons Before b (c ∷ []) (all-cons (Before b) c [] bc (all-none (Before b))) (pairs-cons Before c [] (all-none (Before c)) (pairs-none Before)));
    next_numbered = (omega arith, omega arith);
  };
  linked = all-cons (HasEnds sample_objects) a (b ∷ c ∷ []) a_ends
      (all-cons (HasEnds sample_objects) b (c ∷ []) b_ends (all-cons (HasEnds sample_objects) c [] c_ends (all-none (HasEnds sample_objects))));
  few_edges = omega arith;
}

pub before-indexable : IsIndexable (sample edges_before)
before-indexable = sample-indexable (numbered 1 1 1) (numbered 1 2 2) (numbered 2 0 1) refl refl refl
    (record { parent = live-first; child = live-first }) (record { parent = live-first; child = live-second }) (record { parent = live-second; child = live-first })

pub after-indexable : IsIndexable (sample edges_after)
after-indexable = sample-indexable (numbered 1 0 2) (numbered 1 1 1) (numbered 2 0 1) refl refl refl
    (record { parent = live-first; child = live-second }) (record { parent = live-first; child = live-first }) (record { parent = live-second; child = live-first })

-- the plan of the change
pub sample-plan : (dead : List Oid) (given : List (Oid × Value)) (gone come : List Edge) (by_child keys : List ℕ) (room : ℕ) → dead ≡ [] → given ≡ [] → gone ≡ numbered 1 2 2 ∷ []
    → come ≡ numbered 1 0 2 ∷ [] → ArePlaces (length come) by_child → keys ≡ [] → length come ≤ room → IsPlan dead given gone come by_child keys room
sample-plan dead given gone come by_child keys room no_dead no_given one_goes one_comes places no_keys key_room = record {
  dead_ascend = subst AreAscendingOids (sym no_dead) (pairs-none (λ (a b : Oid). a.0 < b.0));
  given_ascend = subst AreAscendingObjects (sym no_given) (pairs-none Lower);
  given_live = λ k d lt at. none_in dead (get_or given k d).0 no_dead at;
  gone_ascend = subst AreAscendingEdges (sym one_goes) (ascend-one (numbered 1 2 2));
  come_ascend = subst AreAscendingEdges (sym one_comes) (ascend-one (numbered 1 0 2));
  apart = subst (λ (c : List Edge). All (λ edge. ¬ Contains gone edge) c) (sym one_comes) (subst (λ (g : List Edge). All (λ edge. ¬ Contains g edge) (numbered 1 0 2 ∷ [])) (sym one_goes)
      (all-cons (λ (e : Edge). ¬ Contains (numbered 1 2 2 ∷ []) e) (numbered 1 0 2) [] other (all-none (λ (e : Edge). ¬ Contains (numbered 1 2 2 ∷ []) e))));
  places = places;
  no_keys = no_keys;
  key_room = key_room;
}
  where
    other : Contains (numbered 1 2 2 ∷ []) (numbered 1 0 2) → ⊥
    other at = elim (Contains-cases (numbered 1 2 2) [] (numbered 1 0 2) at) [
      | inl same ↦ omega (arith, ap (λ (e : Edge). e.label.0) same)
      | inr none ↦ Contains-none (numbered 1 0 2) none
    ]

pub sample-then : (plan : PlannedGraph) → plan.names ≡ [] → plan.dead ≡ [] → plan.delta.objects_come ≡ [] → plan.delta.edges_gone ≡ numbered 1 2 2 ∷ []
    → plan.delta.edges_come ≡ numbered 1 0 2 ∷ [] → plan.next ≡ 3 → graph_then (sample edges_before) plan ≡ sample edges_after
sample-then plan no_names no_dead no_given one_goes one_comes same_next = λ i. record {
  names = no_names i;
  objects = with_objects (not_dead (no_dead i) sample_objects) (no_given i);
  edges = put_edges (staying (one_goes i) edges_before) (one_comes i);
  next = same_next i;
}
