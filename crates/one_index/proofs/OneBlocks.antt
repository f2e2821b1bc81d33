-- A graph has one list of blocks.
use Rattle.std.proofs.Common.{◌≡◌, ◌≢◌, ℕ, zero, suc, ◌<◌, ◌≤◌, inl, inr, Less, None, Some, List, [], ◌∷◌, map, get_or, refl, sym, ap, ◌∙◌, subst, arith}
use Rattle.std.specs.List.{All, AllPairs, Contains, slice_get}
use Rattle.std.specs.Cmp.{IsTotalOrder}
use Rattle.std.proofs.lemmas.Bool.{cases_lt}
use Rattle.std.proofs.lemmas.Cmp.{then_total, on_total, nat_cmp_total}
use Rattle.std.proofs.lemmas.List.Elements.{All-contains}
use Rattle.std.proofs.lemmas.Option.{none-some, same_Some, slice_get-get_or, get_or_from_slice_get}
use Rattle.lore_base.specs.Walks.{oid_of}
use Rattle.lore_base.proofs.ListLaws.{AllPairs-unique}
use Rattle.list_laws.proofs.AscentLaws.{never_less}
use Rattle.list_laws.proofs.MemberLaws.{Contains-map, Contains-from_map}
use Rattle.list_laws.proofs.PlaceLaws.{Contains-from_place, place_of_member, pair_at}
use Rattle.one_index.specs.Types.{Oid, Label, Block}
use Rattle.one_index.specs.Blocks.{NamedGraph, IsMember, HasEdge, IsBefore, IsOrderedBlock, AreBlocksOf, block_edge_cmp}
use Rattle.one_index.specs.BlockLaws.{OneListOfBlocks}

-- lists that have the same at each place are one
same_lists : {X : Type 0} (xs ys : List X) → ((k : ℕ) → slice_get xs k ≡ slice_get ys k) → xs ≡ ys
same_lists [] [] same = refl
same_lists [] (y ∷ ys) same = absurd (none-some y (same 0))
same_lists (x ∷ xs) [] same = absurd (none-some x (sym (same 0)))
same_lists (x ∷ xs) (y ∷ ys) same =
    let first : x ≡ y = same_Some x y (same 0) in
    let rest : xs ≡ ys = same_lists xs ys (λ k. same (suc k)) in
    cc

-- the least object of an ascending list
abbrev pub least : List Oid → ℕ
least oids = (get_or oids 0 (oid_of 0)).0

pub least_below : (oids : List Oid) (x : Oid) → AllPairs (λ a b. a.0 < b.0) oids → Contains oids x → least oids ≤ x.0
least_below oids x ascend at =
    let here : get_or oids at.0 (oid_of 0) ≡ x = get_or_from_slice_get oids at.0 x (oid_of 0) (slice_get-get_or oids at.0 x at.1 ∙ ap (λ (o : Oid). Some o) at.2) in
    let number : (get_or oids at.0 (oid_of 0)).0 ≡ x.0 = ap (λ (o : Oid). o.0) here in
    elim (cases_lt 0 at.0) [
      | inl later ↦ omega (arith, ascend 0 at.0 (oid_of 0) later at.1, number)
      | inr first ↦
          let zeroth : at.0 ≡ 0 = omega (arith, first) in
          omega (arith, number, ap (λ (k : ℕ). (get_or oids k (oid_of 0)).0) zeroth)
    ]

pub least_in : (oids : List Oid) → oids ≢ [] → Contains oids (get_or oids 0 (oid_of 0))
least_in [] some = absurd (some refl)
least_in (x ∷ xs) some = (0, omega arith, refl)

pub row_total : IsTotalOrder block_edge_cmp
row_total = then_total (on_total (λ (e : Label × ℕ). e.0.0) nat_cmp_total) (on_total (λ (e : Label × ℕ). e.1) nat_cmp_total)

abbrev sets_of : List Block → List (List Oid)
sets_of blocks = map (λ block. block.members) blocks

abbrev LeastFirst : List Oid → List Oid → Type 0
LeastFirst a b = least a < least b

oids_once : (x y : Oid) → x.0 < y.0 → y.0 < x.0 → ⊥
oids_once x y less more = omega (arith, less, more)

rows_once : (a b : Label × ℕ) → block_edge_cmp a b ≡ Less → block_edge_cmp b a ≡ Less → ⊥
rows_once a b less more = never_less block_edge_cmp row_total a (row_total.trans a b a less more)

lists_once : (a b : List Oid) → LeastFirst a b → LeastFirst b a → ⊥
lists_once a b less more = omega (arith, less, more)

-- ---- lists by their places
pub pairs_from_places : {X : Type 0} (R : X → X → Type 0) (xs : List X)
    → ((i j : ℕ) (x y : X) → i < j → slice_get xs i ≡ Some x → slice_get xs j ≡ Some y → R x y) → AllPairs R xs
pairs_from_places R xs each i j d less within =
    each i j (get_or xs i d) (get_or xs j d) less (slice_get-get_or xs i d (omega (arith, less, within))) (slice_get-get_or xs j d within)

pub mapped_at : {X Y : Type 0} (f : X → Y) (xs : List X) (k : ℕ) (x : X) → slice_get xs k ≡ Some x → slice_get (map f xs) k ≡ Some (f x)
mapped_at f [] k x at = absurd (none-some x at)
mapped_at {X} {Y} f (first ∷ xs) zero x at = ap (λ (z : X). Some (f z)) (same_Some first x at)
mapped_at f (first ∷ xs) (suc k) x at = mapped_at f xs k x at

pub unmapped_at : {X Y : Type 0} (f : X → Y) (xs : List X) (k : ℕ) (y : Y) → slice_get (map f xs) k ≡ Some y
    → (x : X) × (slice_get xs k ≡ Some x) × (f x ≡ y)
unmapped_at f [] k y at = absurd (none-some y at)
unmapped_at f (first ∷ xs) zero y at = (first, refl, same_Some (f first) y at)
unmapped_at f (first ∷ xs) (suc k) y at = unmapped_at f xs k y at

all_at : {X : Type 0} (P : X → Type 0) (xs : List X) → All P xs → (k : ℕ) (x : X) → slice_get xs k ≡ Some x → P x
all_at P xs all k x at = All-contains P xs x all (Contains-from_place xs k x at)

in_block : (blocks : List Block) (k : ℕ) (block : Block) (x : Oid) → slice_get blocks k ≡ Some block → IsMember blocks k x
    → Contains block.members x
in_block blocks k block x at member =
    let same : member.0 ≡ block = same_Some member.0 block (sym member.1 ∙ at) in
    subst (λ (b : Block). Contains b.members x) same member.2

module _ (graph : NamedGraph) where
  sets_in_order : (blocks : List Block) → AreBlocksOf graph blocks → AllPairs LeastFirst (sets_of blocks)
  sets_in_order blocks are = pairs_from_places LeastFirst (sets_of blocks) (λ i j a b less a_at b_at.
      let one = unmapped_at (λ (block : Block). block.members) blocks i a a_at in
      let other = unmapped_at (λ (block : Block). block.members) blocks j b b_at in
      let before = pair_at IsBefore blocks i j one.0 other.0 are.order less one.1 other.1 in
      let some = all_at (λ (block : Block). block.members ≢ []) blocks are.some j other.0 other.1 in
      let bottom = before (get_or other.0.members 0 (oid_of 0)) (least_in other.0.members some) in
      let ordered = all_at IsOrderedBlock blocks are.ordered i one.0 one.1 in
      let low = least_below one.0.members bottom.0 ordered.members bottom.1 in
      let below : least one.0.members < least other.0.members = omega (arith, low, bottom.2) in
      subst (λ (l : List Oid). least l < least b) one.2 (subst (λ (l : List Oid). least one.0.members < least l) other.2 below))

  -- what is in one block with an object in the one list is so in the other
  member_there : (one other : List Block) → AreBlocksOf graph one → AreBlocksOf graph other → (i j : ℕ) (x y : Oid)
      → IsMember one i x → IsMember other j x → IsMember one i y → IsMember other j y
  member_there one other first second i j x y here there also =
      let together = (first.exact i i x y here also).0 refl in
      let found = second.every y (first.live i y also) in
      let is : j ≡ found.0 = (second.exact j found.0 x y there found.1).1 together in
      subst (λ (k : ℕ). IsMember other k y) (sym is) found.1

  set_there : (one other : List Block) → AreBlocksOf graph one → AreBlocksOf graph other → (set : List Oid)
      → Contains (sets_of one) set → Contains (sets_of other) set
  set_there one other first second set at =
      let from = Contains-from_map (λ (block : Block). block.members) one set at in
      let place = place_of_member one from.0 from.1 in
      let some = all_at (λ (block : Block). block.members ≢ []) one first.some place.0 from.0 place.1 in
      let x : Oid = get_or from.0.members 0 (oid_of 0) in
      let here : IsMember one place.0 x = (from.0, place.1, least_in from.0.members some) in
      let there = second.every x (first.live place.0 x here) in
      let ordered = all_at IsOrderedBlock one first.ordered place.0 from.0 place.1 in
      let ordered_there = all_at IsOrderedBlock other second.ordered there.0 there.1.0 there.1.1 in
      let same : there.1.0.members ≡ from.0.members =
      AllPairs-unique (λ (a b : Oid). a.0 < b.0) oids_once there.1.0.members from.0.members ordered_there.members ordered.members (λ y. (
        λ held. in_block one place.0 from.0 y place.1
            (member_there other one second first there.0 place.0 x y there.1 here (there.1.0, there.1.1, held)),
        λ held. in_block other there.0 there.1.0 y there.1.1
            (member_there one other first second place.0 there.0 x y here there.1 (from.0, place.1, held)),
      )) in
      subst (λ (l : List Oid). Contains (sets_of other) l) (same ∙ from.2)
      (Contains-map (λ (block : Block). block.members) other there.1.0 (Contains-from_place other there.0 there.1.0 there.1.1))

  same_sets : (one other : List Block) → AreBlocksOf graph one → AreBlocksOf graph other → sets_of one ≡ sets_of other
  same_sets one other first second =
      AllPairs-unique LeastFirst lists_once (sets_of one) (sets_of other) (sets_in_order one first) (sets_in_order other second)
      (λ set. (set_there one other first second set, set_there other one second first set))

  -- so blocks have the same numbers
  record IsSameBlock (other : List Block) (k : ℕ) (block : Block) : Type 0 where
    there : Block
    at : slice_get other k ≡ Some there
    members : there.members ≡ block.members

  same_block : (one other : List Block) → AreBlocksOf graph one → AreBlocksOf graph other → (k : ℕ) (block : Block)
      → slice_get one k ≡ Some block → IsSameBlock other k block
  same_block one other first second k block at =
      let set : slice_get (sets_of other) k ≡ Some block.members =
      ap (λ (l : List (List Oid)). slice_get l k) (sym (same_sets one other first second)) ∙ mapped_at (λ (b : Block). b.members) one k block at in
      let found = unmapped_at (λ (b : Block). b.members) other k block.members set in
      record { there = found.0; at = found.1; members = found.2 }

  same_member : (one other : List Block) → AreBlocksOf graph one → AreBlocksOf graph other → (k : ℕ) (x : Oid)
      → IsMember one k x → IsMember other k x
  same_member one other first second k x member =
      let found = same_block one other first second k member.0 member.1 in
      (found.there, found.at, subst (λ (l : List Oid). Contains l x) (sym found.members) member.2)

  same_edge : (one other : List Block) → AreBlocksOf graph one → AreBlocksOf graph other → (from : ℕ) (label : Label) (to : ℕ)
      → HasEdge one from label to → HasEdge other from label to
  same_edge one other first second from label to edge =
      let linked = (first.linked from label to).0 edge in
      (second.linked from label to).1 (record {
        parent = linked.parent;
        child = linked.child;
        parent_in = same_member one other first second from linked.parent linked.parent_in;
        child_in = same_member one other first second to linked.child linked.child_in;
        edge = linked.edge;
      })

  edge_in : (blocks : List Block) (k : ℕ) (block : Block) (edge : Label × ℕ) → slice_get blocks k ≡ Some block
      → HasEdge blocks k edge.0 edge.1 → Contains block.edges edge
  edge_in blocks k block edge at has =
      let same : has.0 ≡ block = same_Some has.0 block (sym has.1 ∙ at) in
      subst (λ (b : Block). Contains b.edges edge) same has.2

  block_there : (one other : List Block) → AreBlocksOf graph one → AreBlocksOf graph other → (k : ℕ) (block : Block)
      → slice_get one k ≡ Some block → slice_get other k ≡ Some block
  block_there one other first second k block at =
      let found = same_block one other first second k block at in
      let ordered = all_at IsOrderedBlock one first.ordered k block at in
      let ordered_there = all_at IsOrderedBlock other second.ordered k found.there found.at in
      let edges : found.there.edges ≡ block.edges =
      AllPairs-unique (λ (a b : Label × ℕ). block_edge_cmp a b ≡ Less) rows_once found.there.edges block.edges ordered_there.edges ordered.edges (λ edge. (
        λ held. edge_in one k block edge at (same_edge other one second first k edge.0 edge.1 (found.there, found.at, held)),
        λ held. edge_in other k found.there edge found.at (same_edge one other first second k edge.0 edge.1 (block, at, held)),
      )) in
      let is : found.there ≡ block = λ i. record { members = found.members i; edges = edges i } in
      found.at ∙ ap (λ (b : Block). Some b) is

pub one_list : OneListOfBlocks
one_list graph one other first second = same_lists one other (λ k.
    elim (slice_get one k) as (λ o. slice_get one k ≡ o → o ≡ slice_get other k) [
      | Some block ↦ λ at. sym (block_there graph one other first second k block at)
      | None ↦ λ none. elim (slice_get other k) as (λ o. slice_get other k ≡ o → None ≡ o) [
        | None ↦ λ also. refl
        | Some block ↦ λ at. absurd (none-some block (sym none ∙ block_there graph other one second first k block at))
      ] refl
    ] refl)
