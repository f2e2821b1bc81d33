-- Nodes of the guide to come: one is entered where its set is not there, and gets its edges.
use Rattle.std.proofs.Common.{◌≡◌, ℕ, ◌+◌, ◌<◌, ◌≤◌, ◌⊎◌, inl, inr, List, [], ◌∷◌, ◌++◌, length, map, zero, suc}
use Rattle.std.proofs.Common.{Option, Some, None, All, Contains, refl, sym, ap, ◌∙◌, subst, arith, length-append}
use Rattle.std.specs.List.{slice_get, sum_by}
use Rattle.std.specs.Prelude.{slice_set}
use Rattle.std.proofs.lemmas.Bool.{cases_lt, cases_eq}
use Rattle.std.proofs.lemmas.List.{length-map, length-set, map_push, append-nil}
use Rattle.std.proofs.lemmas.List.Sums.{sum_by_push}
use Rattle.std.proofs.lemmas.List.Elements.{All-push, All-contains}
use Rattle.std.proofs.lemmas.Option.{slice_get_within, slice_get-get_or}
use Rattle.list_laws.proofs.PlaceLaws.{Contains-from_place, place_of_member, slice_get-append_left, slice_get-push}
use Rattle.list_laws.proofs.PartLaws.{map-map}
use Rattle.set_explorer.specs.Types.{Oid, Node, GuideNode, Origin, Kept, Fresh, DeltaNode, GuideFault, Nodes, Cells}
use Rattle.set_explorer.specs.Types.{NoMemory}
use Rattle.set_explorer.specs.declared.found.Found.{Found}
use Rattle.lore_base.specs.declared.limits.TheConstants.{CELLS}
use Rattle.oem_set.specs.Sets.{hash_of}
use Rattle.set_explorer.specs.Nodes.{sets_of, HasSet, node_number}
use Rattle.set_explorer.specs.PlannedNodes.{origin_set, IsOrigin, node_then, nodes_then}
use Rattle.lore_base.specs.GuideLimits.{KeepLimits}
use Rattle.set_explorer.specs.inside.HashLists.{listed}
use Rattle.set_explorer.specs.inside.Founds.{IsFound, found_nodes, found_sets, IsFreshAt, IsRoomFault, Stops, Enters}
use Rattle.set_steps.proofs.PlaceLaws.{at-front, at-map, at-unmap}
use Rattle.set_steps.proofs.PlaceLaws.{one-place}

-- ---- lists in which one item was put
pub put-at : {X : Type 0} (xs : List X) (place : ℕ) (new x : X) → slice_get (slice_set xs place new) place ≡ Some x
    → x ≡ new
put-at [] place new x at = cc
put-at (first ∷ xs) zero new x at = cc
put-at (first ∷ xs) (suc place) new x at = put-at xs place new x at

pub put-there : {X : Type 0} (xs : List X) (place : ℕ) (new : X) → place < length xs → slice_get
    (slice_set xs place new) place ≡ Some new
put-there [] place new less = absurd (omega (arith, less))
put-there (first ∷ xs) zero new less = refl
put-there (first ∷ xs) (suc place) new less = put-there xs place new (omega (arith, less))

pub put-other : {X : Type 0} (xs : List X) (place : ℕ) (new : X) (other : ℕ) → (other ≡ place → ⊥)
    → slice_get (slice_set xs place new) other ≡ slice_get xs other
put-other [] place new other apart = refl
put-other (first ∷ xs) zero new zero apart = absurd (apart refl)
put-other (first ∷ xs) zero new (suc other) apart = refl
put-other (first ∷ xs) (suc place) new zero apart = refl
put-other (first ∷ xs) (suc place) new (suc other) apart = put-other xs place new other (λ same. apart (ap suc same))

pub map-put : {X Y : Type 0} (f : X → Y) (xs : List X) (place : ℕ) (new : X)
    → map f (slice_set xs place new) ≡ slice_set (map f xs) place (f new)
map-put f [] place new = refl
map-put f (first ∷ xs) zero new = refl
map-put f (first ∷ xs) (suc place) new = ap (λ l. f first ∷ l) (map-put f xs place new)

pub put-same : {X : Type 0} (xs : List X) (place : ℕ) (x : X) → slice_get xs place ≡ Some x → slice_set xs place x ≡ xs
put-same [] place x at = cc
put-same (first ∷ xs) zero x at = (let same : first ≡ x = cc in ap (λ y. y ∷ xs) (sym same))
put-same (first ∷ xs) (suc place) x at = ap (λ l. first ∷ l) (put-same xs place x at)

-- ---- the sets of origins
pub kept-set : (kept : List GuideNode) (node : Node) → node.0 < length kept
    → slice_get (sets_of kept) node.0 ≡ Some (origin_set kept (Kept node))
kept-set kept node within =
    slice_get-get_or (sets_of kept) node.0 [] (omega (arith, within, length-map kept (λ (n : GuideNode). n.set)))

pub sets-then : (kept : List GuideNode) (nodes : List DeltaNode)
    → sets_of (nodes_then kept nodes) ≡ map (λ planned. origin_set kept planned.origin) nodes
sets-then kept nodes = map-map (node_then kept) (λ (n : GuideNode). n.set) nodes

module _ (kept : List GuideNode) (found : Found) (is : IsFound kept found) where
  abbrev planned_set : DeltaNode → List Oid
  planned_set planned = origin_set kept planned.origin

  -- a set that is there is that of a planned node
  planned-at : (set : List Oid) → Contains (found_sets kept found) set
      → (place : ℕ) × (planned : DeltaNode) × (slice_get found.nodes.items place ≡ Some planned)
      × (planned_set planned ≡ set)
  planned-at set there =
      let at = place_of_member (map planned_set found.nodes.items) set
      (subst (λ (l : List (List Oid)). Contains l set) (sets-then kept found.nodes.items) there) in
      let from = at-unmap planned_set found.nodes.items at.0 set at.1 in
      (at.0, from.0, from.1, from.2)

  origin-at : (place : ℕ) (planned : DeltaNode) → slice_get found.nodes.items place ≡ Some planned
      → IsOrigin kept planned.origin
  origin-at place planned at =
      All-contains (λ (p : DeltaNode). IsOrigin kept p.origin) found.nodes.items planned is.origins
      (Contains-from_place found.nodes.items place planned at)

  pub set-at : (place : Node) (planned : DeltaNode) → slice_get found.nodes.items place.0 ≡ Some planned
      → HasSet (found_nodes kept found) place (planned_set planned)
  set-at place planned at =
      subst (λ (l : List (List Oid)). slice_get l place.0 ≡ Some (planned_set planned))
      (sym (sets-then kept found.nodes.items))
      (at-map planned_set found.nodes.items place.0 planned at)

  -- where a node before has no place its set is not there
  pub absent-kept : (node : Node) → node.0 < length kept → slice_get found.places.items node.0 ≡ Some None
      → Contains (found_sets kept found) (origin_set kept (Kept node)) → ⊥
  absent-kept node within none there =
      let from = planned-at (origin_set kept (Kept node)) there in
      elim from.1.origin as (λ o. from.1.origin ≡ o → origin_set kept o ≡ origin_set kept (Kept node) → ⊥) [
        | Kept other ↦ λ kept_is same. (
            let inside = subst (IsOrigin kept) kept_is (origin-at from.0 from.1 from.2) in
            let place : other.0 ≡ node.0 = one-place (sets_of kept) is.apart other.0 node.0
            (origin_set kept (Kept node))
            (kept-set kept other inside ∙ ap Some same) (kept-set kept node within) in
            let put = is.placed from.0 from.1 other from.2 kept_is in
            let both : Some (Some (node_number from.0)) ≡ Some None =
            sym put ∙ ap (slice_get found.places.items) place ∙ none in
            cc)
        | Fresh set ↦ λ fresh_is same. is.fresh from.0 from.1 set from.2 fresh_is
            (Contains-from_place (sets_of kept) node.0 set (kept-set kept node within ∙ ap Some (sym same)))
      ] refl from.3

  -- where no fresh node under its hash has the set, and no node before, it is not there
  pub absent-fresh : (set : List Oid) → All (λ node. ¬ IsFreshAt found.nodes.items node set)
      (listed found.fresh (hash_of set))
      → (¬ Contains (sets_of kept) set) → Contains (found_sets kept found) set → ⊥
  absent-fresh set none new there =
      let from = planned-at set there in
      elim from.1.origin as (λ o. from.1.origin ≡ o → origin_set kept o ≡ set → ⊥) [
        | Kept other ↦ λ kept_is same. (
            let inside = subst (IsOrigin kept) kept_is (origin-at from.0 from.1 from.2) in
            new (Contains-from_place (sets_of kept) other.0 set (kept-set kept other inside ∙ ap Some same)))
        | Fresh own ↦ λ fresh_is same. (
            let own_is : from.1.origin ≡ Fresh set = fresh_is ∙ ap Fresh same in
            All-contains (λ (n : Node). ¬ IsFreshAt found.nodes.items n set) (listed found.fresh (hash_of set))
            (node_number from.0) none
            (is.hashed from.0 from.1 set from.2 own_is) (from.1, from.2, own_is))
      ] refl from.3

  -- a set that is there is entered by itself
  pub enters-there : (limit : ℕ) (origin : Origin) (place : Node) (planned : DeltaNode) → KeepLimits limit
      (found_sets kept found)
      → slice_get found.nodes.items place.0 ≡ Some planned → planned_set planned ≡ origin_set kept origin
      → Enters kept limit found origin place found
  enters-there limit origin place planned fit at same =
      let has = subst (HasSet (found_nodes kept found) place) same (set-at place planned at) in
      record {
        found = is;
        fit = fit;
        entered = inl (Contains-from_place (found_sets kept found) place.0 (origin_set kept origin) has, refl);
        has = has;
        grown = ([], sym (append-nil (found_nodes kept found)));
      }

-- ---- a node is put behind
module _ (kept : List GuideNode) (old new : Found) (planned : DeltaNode) (limit : ℕ)
    (pushed : new.nodes.items ≡ old.nodes.items ++ planned ∷ []) where
  sets-pushed : found_sets kept new ≡ found_sets kept old ++ origin_set kept planned.origin ∷ []
  sets-pushed =
      ap (λ (l : List DeltaNode). sets_of (nodes_then kept l)) pushed
      ∙ ap sets_of (map_push (node_then kept) old.nodes.items planned)
      ∙ map_push (λ (n : GuideNode). n.set) (found_nodes kept old) (node_then kept planned)

  pub sum-pushed : old.cells ≡ sum_by length (found_sets kept old)
      → new.cells ≡ old.cells + length (origin_set kept planned.origin) → new.cells ≡ sum_by length
      (found_sets kept new)
  sum-pushed before more =
      more ∙ ap (λ n. n + length (origin_set kept planned.origin)) before
      ∙ sym (ap (sum_by length) sets-pushed ∙ sum_by_push length (found_sets kept old) (origin_set kept planned.origin))

  pub enters-new : IsFound kept old → IsFound kept new → length old.nodes.items < limit
      → old.cells + length (origin_set kept planned.origin) ≤ CELLS
      → (¬ Contains (found_sets kept old) (origin_set kept planned.origin)) → (place : Node)
      → place.0 ≡ length old.nodes.items
      → Enters kept limit old planned.origin place new
  enters-new before is few small fresh place here = record {
    found = is;
    fit = record {
      few = omega (
        arith,
        few,
        ap length sets-pushed,
        length-append (found_sets kept old) (origin_set kept planned.origin ∷ []),
        length-map (found_nodes kept old) (λ (n : GuideNode). n.set),
        length-map old.nodes.items (node_then kept),
      );
      small = omega (
        arith,
        small,
        before.counted,
        ap (sum_by length) sets-pushed,
        sum_by_push length (found_sets kept old) (origin_set kept planned.origin),
      );
    };
    entered = inr (fresh, sets-pushed);
    has = set-at kept new is place planned
        (subst (λ (l : List DeltaNode). slice_get l place.0 ≡ Some planned) (sym pushed)
        (subst (λ (k : ℕ). slice_get (old.nodes.items ++ planned ∷ []) k ≡ Some planned) (sym here)
        (slice_get-push old.nodes.items planned)));
    grown = (
      node_then kept planned ∷ [],
      ap (nodes_then kept) pushed ∙ map_push (node_then kept) old.nodes.items
          planned,
    );
  }

  -- what stands at a place is old, or the new one
  pushed-cases : (place : ℕ) (other : DeltaNode) → slice_get new.nodes.items place ≡ Some other
      → (slice_get old.nodes.items place ≡ Some other) ⊎ ((place ≡ length old.nodes.items) × (planned ≡ other))
  pushed-cases place other at =
      let whole = subst (λ (l : List DeltaNode). slice_get l place ≡ Some other) pushed at in
      elim (cases_lt place (length old.nodes.items)) [
        | inl early ↦ inl (at-front old.nodes.items (planned ∷ []) place other early whole)
        | inr late ↦ (
            let within = slice_get_within (old.nodes.items ++ planned ∷ []) place other whole in
            let here : place ≡ length old.nodes.items = omega (
              arith,
              late,
              within,
              length-append old.nodes.items
                  (planned ∷ []),
            ) in
            let both : Some planned ≡ Some other = sym (slice_get-push old.nodes.items planned)
            ∙ sym (ap (slice_get (old.nodes.items ++ planned ∷ [])) here) ∙ whole in
            inr (here, cc))
      ]

  origins-pushed : IsFound kept old → IsOrigin kept planned.origin → All (λ p. IsOrigin kept p.origin) new.nodes.items
  origins-pushed before inside =
      subst (λ (l : List DeltaNode). All (λ (p : DeltaNode). IsOrigin kept p.origin) l) (sym pushed)
      (All-push (λ (p : DeltaNode). IsOrigin kept p.origin) old.nodes.items planned before.origins inside)

  old-at : (place : ℕ) (other : DeltaNode) → slice_get old.nodes.items place ≡ Some other → slice_get new.nodes.items
      place ≡ Some other
  old-at place other at =
      subst (λ (l : List DeltaNode). slice_get l place ≡ Some other) (sym pushed)
      (slice_get-append_left old.nodes.items (planned ∷ []) place other at)

  new-at : slice_get new.nodes.items (length old.nodes.items) ≡ Some planned
  new-at = subst (λ (l : List DeltaNode). slice_get l (length old.nodes.items) ≡ Some planned) (sym pushed)
      (slice_get-push old.nodes.items planned)

  -- a node before is put
  pub found-kept : (node : Node) → planned.origin ≡ Kept node → node.0 < length kept
      → slice_get old.places.items node.0 ≡ Some None
      → new.places.items ≡ slice_set old.places.items node.0 (Some (node_number (length old.nodes.items)))
      → new.fresh ≡ old.fresh → new.cells ≡ old.cells + length (origin_set kept planned.origin)
      → IsFound kept old → IsFound kept new
  found-kept node is within none put same more before =
      let count : node.0 < length old.places.items = omega (arith, within, before.many) in
      record {
        apart = before.apart;
        many = ap length put ∙ length-set old.places.items node.0 (Some (node_number (length old.nodes.items)))
            ∙ before.many;
        origins = origins-pushed before (subst (IsOrigin kept) (sym is) within);
        placed = λ place other there at origin. (
            let Put : List (Option Node) → Type 0 = λ l. slice_get l there.0 ≡ Some (Some (node_number place)) in
            subst Put (sym put) (elim (pushed-cases place other at) [
              | inl early ↦ (
                  let was = before.placed place other there early origin in
                  put-other old.places.items node.0 (Some (node_number (length old.nodes.items))) there.0
                  (λ one. let both : Some (Some (node_number place)) ≡ Some None = sym was
                  ∙ ap (slice_get old.places.items) one ∙ none in cc)
                  ∙ was)
              | inr late ↦ (
                  let same_node : Kept node ≡ Kept there = sym is ∙ ap (λ (p : DeltaNode). p.origin) late.1 ∙ origin in
                  let one : node ≡ there = cc in
                  subst (λ (n : Node). slice_get (slice_set old.places.items node.0
                  (Some (node_number (length old.nodes.items)))) n.0
                  ≡ Some (Some (node_number place))) one
                  (put-there old.places.items node.0 (Some (node_number (length old.nodes.items))) count
                  ∙ ap (λ (k : ℕ). Some (Some (node_number k))) (sym late.0)))
            ]));
        there = λ k place at. (
            let whole = subst (λ (l : List (Option Node)). slice_get l k ≡ Some (Some place)) put at in
            elim (cases_eq k node.0) [
              | inl one ↦ (
                  let got = put-at old.places.items node.0 (Some (node_number (length old.nodes.items))) (Some place)
                  (subst (λ (j : ℕ). slice_get (slice_set old.places.items node.0
                  (Some (node_number (length old.nodes.items)))) j ≡ Some (Some place)) one whole) in
                  let where_is : place.0 ≡ length old.nodes.items = (let both : Some place ≡ Some
                  (node_number (length old.nodes.items)) = got in cc) in (
                    planned,
                    subst (λ (j : ℕ). slice_get new.nodes.items j ≡ Some planned) (sym where_is) new-at,
                    is ∙ ap (λ (j : ℕ). Kept (node_number j)) (sym one),
                  ))
              | inr other ↦ (
                  let was = before.there k place
                  (sym (put-other old.places.items node.0 (Some (node_number (length old.nodes.items))) k other)
                  ∙ whole) in
                  (was.0, old-at place.0 was.0 was.1, was.2))
            ]);
        hashed = λ place other set at origin. subst (λ (f : List (ℕ × List Node)). Contains (listed f (hash_of set))
            (node_number place)) (sym same)
            (elim (pushed-cases place other at) [
              | inl early ↦ before.hashed place other set early origin
              | inr late ↦ (let clash : Kept node ≡ Fresh set = sym is ∙ ap (λ (p : DeltaNode). p.origin) late.1
                  ∙ origin in cc)
            ]);
        fresh = λ place other set at origin. (elim (pushed-cases place other at) [
          | inl early ↦ before.fresh place other set early origin
          | inr late ↦ (let clash : Kept node ≡ Fresh set = sym is ∙ ap (λ (p : DeltaNode). p.origin) late.1
              ∙ origin in cc)
        ]);
        counted = sum-pushed before.counted more;
      }

  -- a fresh set is put
  pub found-fresh : (set : List Oid) → planned.origin ≡ Fresh set → (¬ Contains (sets_of kept) set)
      → new.places ≡ old.places
      → Contains (listed new.fresh (hash_of set)) (node_number (length old.nodes.items))
      → ((hash : ℕ) (node : Node) → Contains (listed old.fresh hash) node → Contains (listed new.fresh hash) node)
      → new.cells ≡ old.cells + length (origin_set kept planned.origin)
      → IsFound kept old → IsFound kept new
  found-fresh set is unkept same added wider more before = record {
    apart = before.apart;
    many = ap (λ p. length p.items) same ∙ before.many;
    origins = origins-pushed before (subst (IsOrigin kept) (sym is) tt);
    placed = λ place other there at origin. (elim (pushed-cases place other at) [
      | inl early ↦ ap (λ p. slice_get p.items there.0) same ∙ before.placed place other there early origin
      | inr late ↦ (let clash : Fresh set ≡ Kept there = sym is ∙ ap (λ (p : DeltaNode). p.origin) late.1
          ∙ origin in cc)
    ]);
    there = λ k place at. (
        let was = before.there k place (sym (ap (λ p. slice_get p.items k) same) ∙ at) in
        (was.0, old-at place.0 was.0 was.1, was.2));
    hashed = λ place other own at origin. (elim (pushed-cases place other at) [
      | inl early ↦ wider (hash_of own) (node_number place) (before.hashed place other own early origin)
      | inr late ↦ (
          let both : Fresh set ≡ Fresh own = sym is ∙ ap (λ (p : DeltaNode). p.origin) late.1 ∙ origin in
          let one : set ≡ own = cc in
          subst (λ (s : List Oid). Contains (listed new.fresh (hash_of s)) (node_number place)) one
          (subst (λ (k : ℕ). Contains (listed new.fresh (hash_of set)) (node_number k)) (sym late.0) added))
    ]);
    fresh = λ place other own at origin. (elim (pushed-cases place other at) [
      | inl early ↦ before.fresh place other own early origin
      | inr late ↦ (
          let both : Fresh set ≡ Fresh own = sym is ∙ ap (λ (p : DeltaNode). p.origin) late.1 ∙ origin in
          let one : set ≡ own = cc in
          subst (λ (s : List Oid). ¬ Contains (sets_of kept) s) one unkept)
    ]);
    counted = sum-pushed before.counted more;
  }

-- ---- why a set is not entered
pub stops-room : (fault : GuideFault) (limit : ℕ) (sets : List (List Oid)) (set : List Oid) (count cells size : ℕ)
    → (¬ Contains sets set) → count ≡ length sets → cells ≡ sum_by length sets → size ≡ length set
    → IsRoomFault fault limit count cells size → Stops fault limit sets set
stops-room NoMemory limit sets set count cells size fresh a b c room = absurd room
stops-room Nodes limit sets set count cells size fresh a b c room = (fresh, omega (arith, room, a))
stops-room Cells limit sets set count cells size fresh a b c
    room = (fresh, (omega (arith, room.0, a), omega (arith, room.1, b, c)))
