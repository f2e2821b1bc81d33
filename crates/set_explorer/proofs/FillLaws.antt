-- The nodes to come are filled in one after another.
use Rattle.std.proofs.Common.{◌≡◌, ℕ, ◌<◌, ◌≤◌, inl, inr, List, [], ◌∷◌, ◌++◌, length, Some, All, Contains, refl, sym}
use Rattle.std.proofs.Common.{ap, ◌∙◌, subst, append_assoc, arith, length-append}
use Rattle.std.specs.List.{slice_get}
use Rattle.std.specs.Prelude.{slice_set}
use Rattle.std.proofs.lemmas.Bool.{cases_lt}
use Rattle.std.proofs.lemmas.List.{length-map, map_push}
use Rattle.std.proofs.lemmas.List.Elements.{All-contains, All-map, Contains-append_left}
use Rattle.std.proofs.lemmas.List.Elements.{Contains-append_right, Contains-push}
use Rattle.std.proofs.lemmas.Option.{slice_get_within}
use Rattle.set_explorer.specs.Types.{Oid, Edge, Node, GuideNode, Kept, Fresh, DeltaNode}
use Rattle.oem_set.specs.Sets.{hash_of}
use Rattle.set_explorer.specs.Nodes.{sets_of, node_number, AscendByLabel, HasItsSteps}
use Rattle.set_explorer.specs.PlannedNodes.{origin_set, IsOrigin, node_then, nodes_then}
use Rattle.set_explorer.specs.PlannedNodes.{KeepsOnce}
use Rattle.set_explorer.specs.Fills.{CanFill}
use Rattle.set_explorer.specs.HashedNodes.{HaveHashes}
use Rattle.lore_base.proofs.MemberLaws.{Contains-head}
use Rattle.list_laws.proofs.MemberLaws.{All-from_members, Contains-map}
use Rattle.list_laws.proofs.PlaceLaws.{place_of_member, slice_get-append_left, slice_get-push}
use Rattle.set_steps.proofs.PlaceLaws.{at-front}
use Rattle.set_explorer.proofs.FoundLaws.{kept-set, map-put, put-other}

-- what was yielded is filled in, and the sets of other nodes are still there
pub record IsFilling (kept : List GuideNode) (nodes done rest : List DeltaNode) (old room : List GuideNode) (size : ℕ)
    (hashes : List (ℕ × Node)) (hashes_size : ℕ) : Type 0 where
  pub whole : done ++ rest ≡ nodes
  pub keeps : KeepsOnce kept nodes
  pub few : length nodes ≤ 4_294_967_295
  pub filled : room ≡ nodes_then kept done
  pub hashed : HaveHashes hashes room
  pub long : length old ≡ length kept
  pub left : (k : ℕ) → ((planned : DeltaNode) → Contains done planned → planned.origin ≡ Kept (node_number k) → ⊥)
      → slice_get (sets_of old) k ≡ slice_get (sets_of kept) k
  pub fits : length nodes ≤ size
  pub hashes_count : length hashes ≡ length done
  pub hashes_fit : length nodes ≤ hashes_size

pub filling-start : (kept : List GuideNode) (nodes rest : List DeltaNode) (room : List GuideNode) (size : ℕ)
    (hashes : List (ℕ × Node))
    (hashes_size : ℕ) → rest ≡ nodes → CanFill kept nodes room size hashes hashes_size
    → IsFilling kept nodes [] rest kept room size hashes hashes_size
filling-start kept nodes rest room size hashes hashes_size is can = record {
  whole = is;
  keeps = can.keeps;
  few = can.few;
  filled = can.empty;
  hashed = λ place node at. absurd (omega (arith, slice_get_within room place node at, ap length can.empty));
  long = refl;
  left = λ k none. refl;
  fits = can.fits;
  hashes_count = ap length can.bare;
  hashes_fit = can.hashes_fit;
}

module _ (kept : List GuideNode) (nodes done rest others : List DeltaNode) (old room : List GuideNode) (size : ℕ)
    (hashes : List (ℕ × Node))
    (hashes_size : ℕ) (before : IsFilling kept nodes done rest old room size hashes hashes_size) (planned : DeltaNode)
    (next : rest ≡ planned ∷ others) where
  whole-now : done ++ planned ∷ others ≡ nodes
  whole-now = ap (λ (l : List DeltaNode). done ++ l) (sym next) ∙ before.whole

  planned-there : Contains nodes planned
  planned-there = subst (λ (l : List DeltaNode). Contains l planned) whole-now
      (Contains-append_right done (planned ∷ others) planned (Contains-head planned others))

  origin-kept : IsOrigin kept planned.origin
  origin-kept = All-contains (λ (p : DeltaNode). IsOrigin kept p.origin) nodes planned before.keeps.origins
      planned-there

  pub origin-there : IsOrigin old planned.origin
  origin-there = elim planned.origin as (λ o. IsOrigin kept o → IsOrigin old o) [
    | Kept node ↦ λ within. omega (arith, within, before.long)
    | Fresh set ↦ λ u. tt
  ] origin-kept

  at-mid : (front : List DeltaNode) → slice_get (front ++ planned ∷ others) (length front) ≡ Some planned
  at-mid [] = refl
  at-mid (x ∷ front) = at-mid front

  planned-at : slice_get nodes (length done) ≡ Some planned
  planned-at = subst (λ (l : List DeltaNode). slice_get l (length done) ≡ Some planned) whole-now (at-mid done)

  -- no earlier node keeps the same one
  not-done : (node : Node) → planned.origin ≡ Kept node → (earlier : DeltaNode) → Contains done earlier
      → earlier.origin ≡ Kept node → ⊥
  not-done node is earlier there same =
      let at = place_of_member done earlier there in
      let in_all = subst (λ (l : List DeltaNode). slice_get l at.0 ≡ Some earlier) whole-now
      (slice_get-append_left done (planned ∷ others) at.0 earlier at.1) in
      let place : at.0 ≡ length done = before.keeps.once at.0 (length done) earlier planned node in_all planned-at
      same is in
      omega (arith, place, slice_get_within done at.0 earlier at.1)

  -- so its set is still there
  pub set-there : origin_set old planned.origin ≡ origin_set kept planned.origin
  set-there = elim planned.origin as (λ o. planned.origin ≡ o → IsOrigin kept o → origin_set old o ≡ origin_set kept
      o) [
        | Kept node ↦ λ is within. (
            let same = before.left node.0 (not-done node is) in
            let was : slice_get (sets_of kept) node.0 ≡ Some (origin_set kept (Kept node)) = kept-set kept node within in
            let within_old : node.0 < length old = omega (arith, within, before.long) in
            let now : slice_get (sets_of old) node.0 ≡ Some (origin_set old (Kept node)) = kept-set old node within_old in
            let both : Some (origin_set old (Kept node)) ≡ Some (origin_set kept (Kept node)) = sym now ∙ same ∙ was in
            cc)
        | Fresh set ↦ λ is u. refl
      ] refl origin-kept

  pub count-now : length done < length nodes
  count-now = omega (arith, ap length whole-now, length-append done (planned ∷ others))

  pub filling-more : (new room_now : List GuideNode) (hashes_now : List (ℕ × Node)) (set : List Oid) (hash place : ℕ)
      → set ≡ origin_set old planned.origin → hash ≡ hash_of set → place ≡ length room
      → room_now ≡ room ++ (record { set = set; edges = planned.edges }) ∷ []
      → hashes_now ≡ hashes ++ (hash, node_number place) ∷ []
      → length new ≡ length old
      → ((k : ℕ) → (planned.origin ≡ Kept (node_number k) → ⊥) → slice_get (sets_of new) k ≡ slice_get (sets_of old) k)
      → IsFilling kept nodes (done ++ planned ∷ []) others new room_now size hashes_now hashes_size
  filling-more new room_now hashes_now set hash place set_is hash_is place_is room_is hashes_are long others_stay =
      let node : GuideNode = record { set = set; edges = planned.edges } in
      let own : node ≡ node_then kept planned = ap (λ (s : List Oid). record { set = s; edges = planned.edges })
      (set_is ∙ set-there) in
      record {
        whole = append_assoc done (planned ∷ []) others ∙ whole-now;
        keeps = before.keeps;
        few = before.few;
        filled = room_is ∙ ap (λ (l : List GuideNode). l ++ node ∷ []) before.filled
            ∙ ap (λ (n : GuideNode). nodes_then kept done ++ n ∷ []) own ∙ sym (map_push (node_then kept) done planned);
        hashed = λ k there at. (
            let whole = subst (λ (l : List GuideNode). slice_get l k ≡ Some there) room_is at in
            subst (λ (l : List (ℕ × Node)). Contains l (hash_of there.set, node_number k)) (sym hashes_are)
            (elim (cases_lt k (length room)) [
              | inl early ↦ Contains-append_left hashes ((hash, node_number place) ∷ [])
                  (hash_of there.set, node_number k)
                  (before.hashed k there (at-front room (node ∷ []) k there early whole))
              | inr late ↦ (
                  let here : k ≡ length room = omega (
                    arith,
                    late,
                    slice_get_within (room ++ node ∷ []) k there whole,
                    length-append room (node ∷ []),
                  ) in
                  let both : Some node ≡ Some there = sym (slice_get-push room node)
                  ∙ sym (ap (slice_get (room ++ node ∷ [])) here) ∙ whole in
                  let same : node ≡ there = cc in
                  subst (λ (n : GuideNode). Contains (hashes ++ (hash, node_number place) ∷ [])
                  (hash_of n.set, node_number k)) same
                  (subst (λ (j : ℕ). Contains (hashes ++ (hash, node_number place) ∷ []) (hash_of set, node_number j))
                  (place_is ∙ sym here)
                  (subst (λ (h : ℕ). Contains (hashes ++ (hash, node_number place) ∷ []) (h, node_number place)) hash_is
                  (Contains-push hashes (hash, node_number place)))))
            ]));
        long = long ∙ before.long;
        left = λ k none.
            others_stay k (none planned (Contains-push done planned))
            ∙ before.left k (λ earlier there. none earlier (Contains-append_left done (planned ∷ []) earlier there));
        fits = before.fits;
        hashes_count = omega (
          arith,
          ap length hashes_are,
          before.hashes_count,
          length-append hashes
              ((hash, node_number place) ∷ []),
          length-append done (planned ∷ []),
        );
        hashes_fit = before.hashes_fit;
      }

pub filled-count : (kept : List GuideNode) (nodes done rest : List DeltaNode) (old room : List GuideNode) (size : ℕ)
    (hashes : List (ℕ × Node))
    (hashes_size : ℕ) → IsFilling kept nodes done rest old room size hashes hashes_size → length room ≡ length done
filled-count kept nodes done rest old room size hashes hashes_size is = ap length is.filled ∙ length-map done
    (node_then kept)

pub sets-put : (nodes : List GuideNode) (place : ℕ) (new : GuideNode) (k : ℕ) → (k ≡ place → ⊥)
    → slice_get (sets_of (slice_set nodes place new)) k ≡ slice_get (sets_of nodes) k
sets-put nodes place new k apart =
    ap (λ (l : List (List Oid)). slice_get l k) (map-put (λ (n : GuideNode). n.set) nodes place new)
    ∙ put-other (sets_of nodes) place new.set k apart

-- the edges of the nodes that are made ascend
pub filled-ascend : (kept : List GuideNode) (nodes : List DeltaNode) (made : List GuideNode) → made ≡ nodes_then kept
    nodes
    → All (λ planned. AscendByLabel planned.edges) nodes → All (λ node. AscendByLabel node.edges) made
filled-ascend kept nodes made is ascend =
    subst (λ (l : List GuideNode). All (λ (n : GuideNode). AscendByLabel n.edges) l) (sym is)
    (All-map (λ (n : GuideNode). AscendByLabel n.edges) (node_then kept) nodes ascend)

pub filled-few : (kept : List GuideNode) (nodes : List DeltaNode) (made : List GuideNode) → made ≡ nodes_then kept nodes
    → length nodes ≤ 4_294_967_295 → length made ≤ 4_294_967_295
filled-few kept nodes made is few = omega (arith, few, ap length is, length-map nodes (node_then kept))

-- and so do those of planned nodes, where they are steps
pub planned-ascend : (kept : List GuideNode) (edges : List Edge) (nodes : List DeltaNode)
    → All (HasItsSteps edges (nodes_then kept nodes)) (nodes_then kept nodes)
    → All (λ planned. AscendByLabel planned.edges) nodes
planned-ascend kept edges nodes steps = All-from_members (λ (p : DeltaNode). AscendByLabel p.edges) nodes (λ planned there. (
    let own = All-contains (HasItsSteps edges (nodes_then kept nodes)) (nodes_then kept nodes)
    (node_then kept planned) steps
    (Contains-map (node_then kept) nodes planned there) in own.ascending))
