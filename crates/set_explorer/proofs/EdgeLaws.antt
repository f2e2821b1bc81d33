-- A node of the guide to come gets its edges.
use Rattle.std.proofs.Common.{◌≡◌, ℕ, ◌<◌, List, Some, length, get_or, map, All, Contains, inl, inr, refl, sym, ap}
use Rattle.std.proofs.Common.{◌∙◌, subst}
use Rattle.std.specs.List.{slice_get, sum_by}
use Rattle.std.specs.Prelude.{slice_set}
use Rattle.std.proofs.lemmas.List.Elements.{All-set, All-contains}
use Rattle.std.proofs.lemmas.Option.{slice_get-get_or}
use Rattle.std.proofs.lemmas.Bool.{cases_eq}
use Rattle.list_laws.proofs.PlaceLaws.{Contains-from_place}
use Rattle.set_explorer.specs.Types.{Oid, Label, Node, GuideNode, DeltaNode}
use Rattle.set_explorer.specs.declared.found.Found.{Found}
use Rattle.set_explorer.specs.Nodes.{node_number}
use Rattle.oem_set.specs.Sets.{hash_of}
use Rattle.set_explorer.specs.inside.HashLists.{listed}
use Rattle.set_explorer.specs.PlannedNodes.{origin_set, IsOrigin, node_then, nodes_then}
use Rattle.set_explorer.specs.inside.Founds.{IsFound, found_nodes, found_sets}
use Rattle.set_steps.proofs.PlaceLaws.{at-map}
use Rattle.set_explorer.proofs.FoundLaws.{put-at, put-there, put-other, put-same, map-put, sets-then}

module _ (kept : List GuideNode) (old : Found) (place : ℕ) (within : place < length old.nodes.items) (was : DeltaNode)
    (read : was ≡ get_or old.nodes.items place was) (edges : List (Label × Node)) (new : Found)
    (put : new.nodes.items ≡ slice_set old.nodes.items place (record { origin = was.origin; edges = edges })) where
  abbrev now : DeltaNode
  now = record { origin = was.origin; edges = edges }

  was-at : slice_get old.nodes.items place ≡ Some was
  was-at = slice_get-get_or old.nodes.items place was within ∙ ap Some (sym read)

  abbrev planned_set : DeltaNode → List Oid
  planned_set planned = origin_set kept planned.origin

  pub edges-sets : found_sets kept new ≡ found_sets kept old
  edges-sets =
      sets-then kept new.nodes.items ∙ ap (map planned_set) put
      ∙ map-put planned_set old.nodes.items place now
      ∙ put-same (map planned_set old.nodes.items) place (planned_set was)
      (at-map planned_set old.nodes.items place was was-at)
      ∙ sym (sets-then kept old.nodes.items)

  pub edges-put : (node : GuideNode) → slice_get (found_nodes kept new) place ≡ Some node → node.edges ≡ edges
  edges-put node at =
      let whole = subst (λ (l : List DeltaNode). slice_get (nodes_then kept l) place ≡ Some node) put at in
      let mapped = subst (λ (l : List GuideNode). slice_get l place ≡ Some node)
      (map-put (node_then kept) old.nodes.items place now) whole in
      ap (λ (n : GuideNode). n.edges) (put-at (map (node_then kept) old.nodes.items) place (node_then kept now) node
      mapped)

  pub edges-others : (other : ℕ) → (other ≡ place → ⊥) → slice_get (found_nodes kept new) other ≡ slice_get
      (found_nodes kept old) other
  edges-others other apart =
      ap (λ (l : List DeltaNode). slice_get (nodes_then kept l) other) put
      ∙ ap (λ (l : List GuideNode). slice_get l other) (map-put (node_then kept) old.nodes.items place now)
      ∙ put-other (map (node_then kept) old.nodes.items) place (node_then kept now) other apart

  -- a node there was there with the same origin
  same-origin : (k : ℕ) (planned : DeltaNode) → slice_get new.nodes.items k ≡ Some planned
      → (before : DeltaNode) × (slice_get old.nodes.items k ≡ Some before) × (before.origin ≡ planned.origin)
  same-origin k planned at =
      let whole = subst (λ (l : List DeltaNode). slice_get l k ≡ Some planned) put at in
      elim (cases_eq k place) [
        | inl one ↦ (
            let got = put-at old.nodes.items place now planned
            (subst (λ (j : ℕ). slice_get (slice_set old.nodes.items place now) j ≡ Some planned) one whole) in
            (was, ap (slice_get old.nodes.items) one ∙ was-at, ap (λ (p : DeltaNode). p.origin) (sym got)))
        | inr other ↦ (planned, sym (put-other old.nodes.items place now k other) ∙ whole, refl)
      ]

  pub edges-found : new.places ≡ old.places → new.fresh ≡ old.fresh → new.cells ≡ old.cells → IsFound kept old
      → IsFound kept new
  edges-found places fresh cells before = record {
    apart = before.apart;
    many = ap (λ p. length p.items) places ∙ before.many;
    origins = subst (λ (l : List DeltaNode). All (λ (p : DeltaNode). IsOrigin kept p.origin) l) (sym put)
        (All-set (λ (p : DeltaNode). IsOrigin kept p.origin) old.nodes.items place now
        (All-contains (λ (p : DeltaNode). IsOrigin kept p.origin) old.nodes.items was before.origins
        (Contains-from_place old.nodes.items place was was-at))
        before.origins);
    placed = λ k planned node at origin. (
        let from = same-origin k planned at in
        ap (λ p. slice_get p.items node.0) places ∙ before.placed k from.0 node from.1 (from.2 ∙ origin));
    there = λ k node at. (
        let was_there = before.there k node (sym (ap (λ p. slice_get p.items k) places) ∙ at) in
        elim (cases_eq node.0 place) [
          | inl one ↦ (
              let both : Some was_there.0 ≡ Some was = sym was_there.1 ∙ ap (slice_get old.nodes.items) one ∙ was-at in
              let same : was_there.0 ≡ was = cc in (
                now,
                subst (λ (l : List DeltaNode). slice_get l node.0 ≡ Some now) (sym put)
                    (subst (λ (j : ℕ). slice_get (slice_set old.nodes.items place now) j ≡ Some now) (sym one)
                    (put-there old.nodes.items place now within)),
                ap (λ (p : DeltaNode). p.origin) (sym same) ∙ was_there.2,
              ))
          | inr other ↦ (
            was_there.0,
            subst (λ (l : List DeltaNode). slice_get l node.0 ≡ Some was_there.0) (sym put)
                (put-other old.nodes.items place now node.0 other ∙ was_there.1),
            was_there.2,
          )
        ]);
    hashed = λ k planned set at origin. (
        let from = same-origin k planned at in
        subst (λ f. Contains (listed f (hash_of set)) (node_number k)) (sym fresh)
        (before.hashed k from.0 set from.1 (from.2 ∙ origin)));
    fresh = λ k planned set at origin. (
        let from = same-origin k planned at in before.fresh k from.0 set from.1 (from.2 ∙ origin));
    counted = cells ∙ before.counted ∙ ap (sum_by length) (sym edges-sets);
  }
