-- Objects that come without edges, and objects without edges that go: the heads of all lists are as they were.
use Rattle.std.proofs.Common.{◌≡◌, ◌≢◌, ℕ, suc, ◌<◌, Bool, true, false, None, cond, List, [], ◌∷◌, ◌++◌, All, Contains, refl, sym, ◌∙◌, inl, inr, arith}
use Rattle.std.specs.List.{filter}
use Rattle.std.proofs.lemmas.Bool.{cases_eq}
use Rattle.slab.specs.Slab.{Slab}
use Rattle.edge_lists.specs.Types.{Oid, Side, Before, After, EdgeRecord, ObjectRecord}
use Rattle.edge_lists.specs.Edges.{owner_of, Precedes}
use Rattle.edge_lists.specs.Records.{link_at}
use Rattle.edge_lists.specs.Objects.{first_of, head_of, AreAscendingObjects}
use Rattle.edge_lists.specs.Chains.{StandsAt, AreChained}
use Rattle.edge_lists.proofs.ObjectLaws.{head-past, head-here}
use Rattle.edge_lists.proofs.ChangeLaws.{linked-same}
use Rattle.lore_lists.proofs.ListLaws.{AllPairs-tail, AllPairs-head}
use Rattle.lore_lists.proofs.MemberLaws.{Contains-head, Contains-tail}

head_alone : (side : Side) (made : List ObjectRecord) → All (λ o. first_of side o ≡ None) made → (oid : Oid) → head_of side made oid ≡ None
head_alone side [] none oid = refl
head_alone side (o ∷ made) none oid = elim (cases_eq o.oid.0 oid.0) [
  | inl same ↦ head-here side o made oid same ∙ none 0 o (omega arith)
  | inr other ↦ head-past side o made oid other ∙ head_alone side made (λ k d lt. none (suc k) d (omega arith)) oid
]

-- objects without lists that come behind
pub heads_made : (side : Side) (objects made : List ObjectRecord) → All (λ o. first_of side o ≡ None) made → (oid : Oid)
    → head_of side (objects ++ made) oid ≡ head_of side objects oid
heads_made side [] made none oid = head_alone side made none oid
heads_made side (o ∷ objects) made none oid = elim (cases_eq o.oid.0 oid.0) [
  | inl same ↦ head-here side o (objects ++ made) oid same ∙ sym (head-here side o objects oid same)
  | inr other ↦ head-past side o (objects ++ made) oid other ∙ heads_made side objects made none oid ∙ sym (head-past side o objects oid other)
]

not_later : (o : ObjectRecord) (objects : List ObjectRecord) → AreAscendingObjects (o ∷ objects) → (test : ObjectRecord → Bool) (oid : Oid) → o.oid.0 ≡ oid.0
    → (side : Side) → head_of side (filter test objects) oid ≡ None
not_later o objects ascend test oid same side = go objects (λ x at. AllPairs-head (λ (a b : ObjectRecord). a.oid.0 < b.oid.0) o objects ascend x at)
  where
    go : (xs : List ObjectRecord) → ((x : ObjectRecord) → Contains xs x → o.oid.0 < x.oid.0) → head_of side (filter test xs) oid ≡ None
    go [] above = refl
    go (x ∷ xs) above =
        let later = go xs (λ y at. above y (Contains-tail x xs y at)) in
        let more = above x (Contains-head x xs) in
        let other : x.oid.0 ≢ oid.0 = omega (arith, more, same) in
        elim (test x) as (λ b. head_of side (cond b (x ∷ filter test xs) (filter test xs)) oid ≡ None) [
          | true ↦ head-past side x (filter test xs) oid other ∙ later
          | false ↦ later
        ]

-- objects without lists that go
pub heads_left : (side : Side) (objects : List ObjectRecord) → AreAscendingObjects objects → (test : ObjectRecord → Bool)
    → All (λ o. test o ≡ false → first_of side o ≡ None) objects → (oid : Oid) → head_of side (filter test objects) oid ≡ head_of side objects oid
heads_left side [] ascend test none oid = refl
heads_left side (o ∷ objects) ascend test none oid =
    let later = heads_left side objects (AllPairs-tail (λ (a b : ObjectRecord). a.oid.0 < b.oid.0) o objects ascend) test (λ k d lt. none (suc k) d (omega arith)) oid in
    elim (test o) as (λ b. test o ≡ b → head_of side (cond b (o ∷ filter test objects) (filter test objects)) oid ≡ head_of side (o ∷ objects) oid) [
      | true ↦ λ stays. elim (cases_eq o.oid.0 oid.0) [
        | inl same ↦ head-here side o (filter test objects) oid same ∙ sym (head-here side o objects oid same)
        | inr other ↦ head-past side o (filter test objects) oid other ∙ later ∙ sym (head-past side o objects oid other)
      ]
      | false ↦ λ goes. elim (cases_eq o.oid.0 oid.0) [
        | inl same ↦ not_later o objects ascend test oid same side ∙ sym (none 0 o (omega arith) goes) ∙ sym (head-here side o objects oid same)
        | inr other ↦ later ∙ sym (head-past side o objects oid other)
      ]
    ] refl

-- the lists are right where the heads are as they were
pub heads_chain : (side : Side) (old new : List ObjectRecord) (records : Slab EdgeRecord) (waiting : List ℕ) → ((oid : Oid) → head_of side new oid ≡ head_of side old oid)
    → AreChained side old records waiting → AreChained side new records waiting
heads_chain side old new records waiting same chained =
    linked-same (owner_of side) (Precedes side) (StandsAt records waiting) (StandsAt records waiting) (λ k x at. at) (λ k x at. at)
    (link_at side After records) (link_at side Before records) (head_of side old) (link_at side After records) (link_at side Before records) (head_of side new)
    (λ k x _. refl) (λ k x _. refl) same chained
