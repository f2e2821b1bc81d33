-- What was read, parted and gathered are the blocks of the graph.
use Rattle.std.proofs.Common.{◌≡◌, ◌≢◌, ◌↔◌, ℕ, ◌+◌, ◌<◌, ◌≤◌, Some, List, [], ◌∷◌, length, get_or, refl, sym, ap, ◌∙◌, subst, arith}
use Rattle.std.specs.List.{All, AllPairs, Contains, slice_get, sum_by, range_with_len}
use Rattle.std.specs.Prelude.{slice_index}
use Rattle.std.proofs.lemmas.List.FromFn.{length-range_with_len}
use Rattle.std.proofs.lemmas.List.Sums.{sum_by-cons}
use Rattle.std.proofs.lemmas.Option.{same_Some, slice_get_within, slice_get-get_or}
use Rattle.lore_base.specs.Walks.{edge_of, oid_of, out_of}
use Rattle.list_laws.proofs.MemberLaws.{none_in}
use Rattle.list_laws.proofs.PlaceLaws.{Contains-from_place, place_of_member, pair_at}
use Rattle.list_laws.proofs.SumLaws.{distinct_no_longer}
use Rattle.block_rounds.specs.Partitions.{IsNumbered, IsInOrder}
use Rattle.block_rounds.proofs.MapLaws.{Contains-count}
use Rattle.one_index.specs.Types.{Oid, Label, Edge, Block}
use Rattle.one_index.specs.Blocks.{NamedGraph, IsSound, BelongTogether, IsMember, HasEdge, IsLinkedTo, IsBefore, IsOrderedBlock, AreBlocksOf, cost_of}
use Rattle.read_costs.specs.ReadCosts.{out_reads, in_reads}
use Rattle.one_index.specs.inside.Places.{IsAt}
use Rattle.one_index.specs.inside.Linked.{IsEdgeAt}
use Rattle.one_index.specs.inside.Parted.{IsParted}

module _ (graph : NamedGraph) (numbers heads : List ℕ) (blocks : List Block) (sound : IsSound graph)
    (parted : IsParted graph numbers) (numbered : IsNumbered (length graph.objects) numbers heads)
    (order : IsInOrder numbers heads) (every : length blocks ≡ length heads)
    (members : (number : ℕ) (x : Oid) → IsMember blocks number x ↔ IsAt graph.objects numbers x number) where
  -- the head of a block is the first of its objects
  record HasHead (number : ℕ) : Type 0 where
    head : Oid
    at : slice_get graph.objects (slice_index heads number) ≡ Some head
    own : slice_index numbers (slice_index heads number) ≡ number

  head_of : (number : ℕ) → number < length blocks → HasHead number
  head_of number below =
      let within : number < length heads = omega (arith, below, every) in
      let place : slice_index heads number < length graph.objects = numbered.headed number 0 within in
      record {
        head = get_or graph.objects (slice_index heads number) (oid_of 0);
        at = slice_get-get_or graph.objects (slice_index heads number) (oid_of 0) place;
        own = order.own number within;
      }

  in_block : (number : ℕ) (block : Block) (x : Oid) → slice_get blocks number ≡ Some block → IsAt graph.objects numbers x number
      → Contains block.members x
  in_block number block x found at =
      let member = (members number x).1 at in
      let same : member.0 ≡ block = same_Some member.0 block (sym member.1 ∙ found) in
      subst (λ (b : Block). Contains b.members x) same member.2

  none_is_empty : All (λ block. block.members ≢ []) blocks
  none_is_empty k d below none =
      let first = head_of k below in
      let block : Block = get_or blocks k d in
      let held = in_block k block first.head (slice_get-get_or blocks k d below) (slice_index heads k, first.at, first.own) in
      none_in block.members first.head none held

  blocks_in_order : AllPairs IsBefore blocks
  blocks_in_order i j d less below y held =
      let later = (members j y).0 (get_or blocks j d, slice_get-get_or blocks j d below, held) in
      let first = head_of i (omega (arith, less, below)) in
      let low : i < length heads = omega (arith, less, below, every) in
      let high : j < length heads = omega (arith, below, every) in
      let rises : slice_index heads i < slice_index heads j = order.ascend i j 0 less high in
      let within : later.0 < length numbers = omega (arith, slice_get_within graph.objects later.0 y later.1, numbered.every) in
      let behind : slice_index heads (slice_index numbers later.0) ≤ later.0 = order.first later.0 within in
      let same : slice_index heads (slice_index numbers later.0) ≡ slice_index heads j = ap (slice_index heads) later.2 in
      let before : slice_index heads i < later.0 = omega (arith, rises, behind, same) in (
        first.head,
        in_block i (get_or blocks i d) first.head (slice_get-get_or blocks i d (omega (arith, less, below))) (slice_index heads i, first.at, first.own),
        pair_at (λ (a b : Oid). a.0 < b.0) graph.objects (slice_index heads i) later.0 first.head y sound.ascend before first.at later.1,
      )

  every_object : (x : Oid) → Contains graph.objects x → (number : ℕ) × IsMember blocks number x
  every_object x at =
      let place = place_of_member graph.objects x at in
      let number = slice_index numbers place.0 in
      (number, (members number x).1 (place.0, place.1, refl))

  exact_blocks : (a b : ℕ) (x y : Oid) → IsMember blocks a x → IsMember blocks b y → (a ≡ b) ↔ BelongTogether graph x y
  exact_blocks a b x y in_a in_b =
      let first = (members a x).0 in_a in
      let second = (members b y).0 in_b in
      let told = parted first.0 second.0 x y first.1 second.1 in
      (λ same. told.0 (first.2 ∙ same ∙ sym second.2), λ together. sym first.2 ∙ told.1 together ∙ second.2)

  linked_blocks : ((from : ℕ) (label : Label) (to : ℕ) → HasEdge blocks from label to ↔ IsEdgeAt graph.edges graph.objects numbers from label to)
      → (from : ℕ) (label : Label) (to : ℕ) → HasEdge blocks from label to ↔ IsLinkedTo graph blocks from label to
  linked_blocks edges from label to = (
    λ has.
        let is = (edges from label to).0 has in
        record {
          parent = is.edge.parent;
          child = is.edge.child;
          parent_in = (members from is.edge.parent).1 is.parent;
          child_in = (members to is.edge.child).1 is.child;
          edge = subst (λ (l : Label). Contains graph.edges (edge_of is.edge.parent l is.edge.child)) is.by is.member;
        },
    λ linked. (edges from label to).1 (record {
      edge = edge_of linked.parent label linked.child;
      member = linked.edge;
      parent = (members from linked.parent).0 linked.parent_in;
      by = refl;
      child = (members to linked.child).0 linked.child_in;
    }),
  )

  pub AreBlocksOf-built : All IsOrderedBlock blocks
      → ((from : ℕ) (label : Label) (to : ℕ) → HasEdge blocks from label to ↔ IsEdgeAt graph.edges graph.objects numbers from label to)
      → AreBlocksOf graph blocks
  AreBlocksOf-built ordered edges = record {
    some = none_is_empty;
    ordered = ordered;
    order = blocks_in_order;
    every = every_object;
    live = λ number x at. let place = (members number x).0 at in Contains-from_place graph.objects place.0 x place.1;
    exact = exact_blocks;
    linked = linked_blocks edges;
  }

-- facts of slices are facts of the lists that they show
pub members-shown : (shown objects : List Oid) (listed numbers : List ℕ) (blocks : List Block) → shown ≡ objects → listed ≡ numbers
    → ((number : ℕ) (x : Oid) → IsMember blocks number x ↔ IsAt shown listed x number)
    → (number : ℕ) (x : Oid) → IsMember blocks number x ↔ IsAt objects numbers x number
members-shown shown objects listed numbers blocks first second are =
    subst (λ (n : List ℕ). (number : ℕ) (x : Oid) → IsMember blocks number x ↔ IsAt objects n x number) second
    (subst (λ (o : List Oid). (number : ℕ) (x : Oid) → IsMember blocks number x ↔ IsAt o listed x number) first are)

pub edges-shown : (edges : List Edge) (shown objects : List Oid) (listed numbers : List ℕ) (blocks : List Block) → shown ≡ objects → listed ≡ numbers
    → ((from : ℕ) (label : Label) (to : ℕ) → HasEdge blocks from label to ↔ IsEdgeAt edges shown listed from label to)
    → (from : ℕ) (label : Label) (to : ℕ) → HasEdge blocks from label to ↔ IsEdgeAt edges objects numbers from label to
edges-shown edges shown objects listed numbers blocks first second are =
    subst (λ (n : List ℕ). (from : ℕ) (label : Label) (to : ℕ) → HasEdge blocks from label to ↔ IsEdgeAt edges objects n from label to) second
    (subst (λ (o : List Oid). (from : ℕ) (label : Label) (to : ℕ) → HasEdge blocks from label to ↔ IsEdgeAt edges o listed from label to) first are)

-- ascending numbers below a count are no more than that
few_below : (count : ℕ) (heads : List ℕ) → AllPairs (λ a b. a < b) heads → All (λ head. head < count) heads → length heads ≤ count
few_below count heads ascend below =
    let few : length heads ≤ length (range_with_len 0 count) =
    distinct_no_longer heads (range_with_len 0 count)
    (λ i j d less within same.
    let rises : get_or heads i d < get_or heads j d = ascend i j d less within in omega (arith, rises, same))
    (λ head at.
    let low : get_or heads at.0 head < count = below at.0 head at.1 in
    Contains-count count head (omega (arith, low, at.2))) in
    omega (arith, few, length-range_with_len 0 count)

pub few_blocks : (numbers heads : List ℕ) (count : ℕ) → IsNumbered count numbers heads → IsInOrder numbers heads → length heads ≤ count
few_blocks numbers heads count numbered order = few_below count heads order.ascend numbered.headed

-- ---- reads
sum_by-both : {X : Type 0} (f g h : X → ℕ) (xs : List X) → ((x : X) → h x ≡ f x + g x) → sum_by h xs ≡ sum_by f xs + sum_by g xs
sum_by-both f g h [] both = refl
sum_by-both f g h (x ∷ xs) both =
    omega (arith, sum_by-cons f x xs, sum_by-cons g x xs, sum_by-cons h x xs, both x, sum_by-both f g h xs both)

pub cost_both : (edges : List Edge) (objects : List Oid)
    → sum_by (cost_of edges) objects ≡ sum_by (in_reads edges) objects + sum_by (out_reads edges) objects
cost_both edges objects = sum_by-both (in_reads edges) (out_reads edges) (cost_of edges) objects (λ oid. omega arith)
