-- What changes leave is determined: lists in order with the same members are one.
use Rattle.std.proofs.Common.{◌≡◌, ℕ, ◌<◌, inl, inr, List, subst, sym, ◌∙◌, arith}
use Rattle.std.specs.List.{Contains}
use Rattle.oem_changes.specs.Types.{Oid, Edge, Value, Changes}
use Rattle.lore_base.specs.Databases.{OemGraph, Database}
use Rattle.lore_base.specs.ChangeSets.{AreEdgesThen, IsReachedThen, IsGraphAfter, IsAfter}
use Rattle.lore_base.specs.ChangeSets.{AreDead}
use Rattle.lore_base.proofs.ListLaws.{AllPairs-unique}
use Rattle.oem_changes.proofs.EdgeOrderLaws.{one_edge_list}
use Rattle.oem_changes.proofs.TableLaws.{one_table}

-- the edges then are one list
pub one_between : (edges : List Edge) (changes : Changes) (between other : List Edge)
    → AreEdgesThen edges changes between → AreEdgesThen edges changes other → between ≡ other
one_between edges changes between other h k = one_edge_list between other h.ascend k.ascend (λ edge. (
  λ at. (k.exact edge).1 ((h.exact edge).0 at),
  λ at. (h.exact edge).1 ((k.exact edge).0 at),
))

-- so what is reached along the one is reached along the other
pub IsReachedThen-between : (edges : List Edge) (names : List (List ℕ × Oid)) (changes : Changes)
    (between other : List Edge)
    → AreEdgesThen edges changes between → AreEdgesThen edges changes other → (oid : Oid)
    → IsReachedThen names changes between oid → IsReachedThen names changes other oid
IsReachedThen-between edges names changes between other h k oid reached =
    subst (λ (list : List Edge). IsReachedThen names changes list oid)
    (one_between edges changes between other h k) reached

module _ (before : OemGraph) (changes : Changes) where
  members_left : (after other : OemGraph) → IsGraphAfter before changes after → IsGraphAfter before changes other
      → ((object : Oid × Value) → Contains after.objects object → Contains other.objects object)
      × ((edge : Edge) → Contains after.edges edge → Contains other.edges edge)
  members_left after other h k =
      let same = one_between before.edges changes h.between k.between h.linked k.linked in
      let reached = λ (oid : Oid). subst (λ (list : List Edge). IsReachedThen before.names changes list oid) same in (
        λ object at. let left = (h.objects object).0 at in (k.objects object).1 (left.0, reached object.0 left.1),
        λ edge at.
            let left = (h.edges edge).0 at in
            (k.edges edge).1
            (subst (λ (list : List Edge). Contains list edge) same left.0, reached edge.parent left.1),
      )

  -- changes leave one graph
  pub one_after : (after other : OemGraph) → IsGraphAfter before changes after → IsGraphAfter before changes other
      → after ≡ other
  one_after after other h k =
      let there = members_left after other h k in
      let back = members_left other after k h in
      let names = one_table after.names other.names h.names_ascend k.names_ascend (λ entry. (
        λ at. (k.names entry).1 ((h.names entry).0 at),
        λ at. (h.names entry).1 ((k.names entry).0 at),
      )) in
      let objects = AllPairs-unique (λ (a b : Oid × Value). a.0.0 < b.0.0)
      (λ a b below above. omega (arith, below, above))
      after.objects other.objects h.objects_ascend k.objects_ascend (λ object. (there.0 object, back.0 object)) in
      let edges = one_edge_list after.edges other.edges h.edges_ascend k.edges_ascend
      (λ edge. (there.1 edge, back.1 edge)) in
      let next : after.next ≡ other.next = h.next ∙ sym k.next in
      λ i. record { names = names i; objects = objects i; edges = edges i; next = next i }

  dead_among : (dead other : List Oid) → AreDead before changes dead → AreDead before changes other
      → (oid : Oid) → Contains dead oid → Contains other oid
  dead_among dead other h k oid at =
      let lost = h.vanish oid at in
      elim (k.stay oid lost.0) [
        | inl there ↦ there
        | inr reached ↦ absurd
            (lost.1
            (IsReachedThen-between before.edges before.names changes k.between h.between k.linked h.linked oid reached))
      ]

  -- and one list of objects vanishes
  pub one_dead : (dead other : List Oid) → AreDead before changes dead → AreDead before changes other → dead ≡ other
  one_dead dead other h k =
      AllPairs-unique (λ (a b : Oid). a.0 < b.0)
      (λ a b below above. omega (arith, below, above)) dead other h.ascend k.ascend
      (λ oid. (dead_among dead other h k oid, dead_among other dead k h oid))

-- changes leave one database
pub one_database_after : (before : Database) (changes : Changes) (after other : Database)
    → IsAfter before changes after → IsAfter before changes other → after ≡ other
one_database_after before changes after other h k =
    let labels : after.labels ≡ other.labels = h.labels ∙ sym k.labels in
    let graph = one_after before.graph changes after.graph other.graph h.graph k.graph in
    let nodes : after.nodes ≡ other.nodes = h.nodes ∙ sym k.nodes in
    let mode : after.mode ≡ other.mode = h.mode ∙ sym k.mode in
    λ i. record { labels = labels i; graph = graph i; nodes = nodes i; mode = mode i }
