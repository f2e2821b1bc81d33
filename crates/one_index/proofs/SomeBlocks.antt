-- A sound graph has a list of blocks: of the objects that belong together the least one stands for the others.
use Rattle.std.proofs.Common.{◌≡◌, ◌≢◌, ◌↔◌, ◌⊎◌, ℕ, ◌+◌, ◌<◌, ◌≤◌, inl, inr, Less, Equal, Some, List, [], length, map, get_or, refl, sym, ap, ◌∙◌, subst, arith}
use Rattle.std.specs.List.{All, AllPairs, Contains, slice_get}
use Rattle.std.proofs.lemmas.Bool.{cases_lt}
use Rattle.std.proofs.lemmas.Bool.Decides.{nat_tests}
use Rattle.std.proofs.lemmas.Option.{same_Some}
use Rattle.lore_base.specs.Walks.{edge_of, oid_of}
use Rattle.lore_base.proofs.ToldLaws.{IsTold, told_not, told_either, told_oid, told_below, told_member, passing, members_passing, AllPairs-passing}
use Rattle.list_laws.proofs.AscentLaws.{IsOrder, IsSetOf, total_ordered, some_ordered}
use Rattle.list_laws.proofs.MemberLaws.{Contains-map, Contains-from_map, none_in, All-from_members}
use Rattle.list_laws.proofs.PlaceLaws.{Contains-from_place, place_of_member, pair_at}
use Rattle.one_index.specs.Types.{Oid, Label, Edge, Block}
use Rattle.one_index.specs.Blocks.{NamedGraph, IsSound, BelongTogether, IsMember, HasEdge, IsLinkedTo, IsBefore, IsOrderedBlock, AreBlocksOf, block_edge_cmp}
use Rattle.one_index.specs.BlockLaws.{BlocksExist}
use Rattle.one_index.proofs.PlaceLaws.{place_once, position, position_at, position_is}
use Rattle.one_index.proofs.OneBlocks.{least, least_below, least_in, row_total, pairs_from_places, mapped_at, unmapped_at}
use Rattle.one_index.proofs.GreatestLaws.{IsGreatest, told_all, some_greatest, told_together, together_through, together_back}

equal_rows : (a b : Label × ℕ) → block_edge_cmp a b ≡ Equal → a ≡ b
equal_rows a b level =
    let label : a.0.0 ≡ b.0.0 = grind (arith, nat_tests) in
    let number : a.1 ≡ b.1 = grind (arith, nat_tests) in
    λ i. (record { 0 = label i }, number i)

abbrev RowLess : Label × ℕ → Label × ℕ → Type 0
RowLess a b = block_edge_cmp a b ≡ Less

rows_ordered : IsOrder RowLess
rows_ordered = total_ordered block_edge_cmp row_total equal_rows

one_oid : (a b : Oid) → (a.0 < b.0 → ⊥) → (b.0 < a.0 → ⊥) → a ≡ b
one_oid a b below above = elim (cases_lt a.0 b.0) [
  | inl less ↦ absurd (below less)
  | inr rest ↦ elim (cases_lt b.0 a.0) [
    | inl more ↦ absurd (above more)
    | inr other ↦ (let number : a.0 ≡ b.0 = omega (arith, rest, other) in λ i. record { 0 = number i })
  ]
]

below_not_after : (a b c : ℕ) → a < b → (c < b → ⊥) → a < c
below_not_after a b c less later = elim (cases_lt c b) [
  | inl earlier ↦ absurd (later earlier)
  | inr rest ↦ omega (arith, less, rest)
]

module _ (graph : NamedGraph) (sound : IsSound graph) (pairs : List (Oid × Oid)) (greatest : IsGreatest graph pairs) where
  told : (x y : Oid) → IsTold (BelongTogether graph x y)
  told x y = told_together graph pairs greatest x y

  through : (x y z : Oid) → BelongTogether graph x y → BelongTogether graph y z → BelongTogether graph x z
  through x y z first second = together_through graph pairs greatest x y z first second

  back : (x y : Oid) → BelongTogether graph x y → BelongTogether graph y x
  back x y together = together_back graph x y together

  -- ---- the objects that belong together with one
  abbrev group : Oid → List Oid
  group x = passing (BelongTogether graph x) (told x) graph.objects

  in_group : (x y : Oid) → Contains (group x) y ↔ (Contains graph.objects y × BelongTogether graph x y)
  in_group x y = members_passing (BelongTogether graph x) (told x) graph.objects y

  group_ascends : (x : Oid) → AllPairs (λ a b. a.0 < b.0) (group x)
  group_ascends x = AllPairs-passing (BelongTogether graph x) (told x) (λ a b. a.0 < b.0) graph.objects sound.ascend

  group_some : (x : Oid) → Contains graph.objects x → group x ≢ []
  group_some x live none = none_in (group x) x none ((in_group x x).1 (live, inl refl))

  -- ---- of them the least one leads
  abbrev IsNotAfter : Oid → Oid → Type 0
  IsNotAfter x y = (BelongTogether graph x y → ⊥) ⊎ (y.0 < x.0 → ⊥)

  abbrev IsLeader : Oid → Type 0
  IsLeader x = (y : Oid) → Contains graph.objects y → IsNotAfter x y

  told_leader : (x : Oid) → IsTold (IsLeader x)
  told_leader x = told_all (IsNotAfter x) (λ y. told_either (told_not (told x y)) (told_not (told_below y.0 x.0))) graph.objects

  abbrev leaders : List Oid
  leaders = passing IsLeader told_leader graph.objects

  in_leaders : (x : Oid) → Contains leaders x ↔ (Contains graph.objects x × IsLeader x)
  in_leaders x = members_passing IsLeader told_leader graph.objects x

  leaders_ascend : AllPairs (λ a b. a.0 < b.0) leaders
  leaders_ascend = AllPairs-passing IsLeader told_leader (λ a b. a.0 < b.0) graph.objects sound.ascend

  abbrev leader : Oid → Oid
  leader x = get_or (group x) 0 (oid_of 0)

  led : (x : Oid) → Contains graph.objects x → Contains graph.objects (leader x) × BelongTogether graph x (leader x)
  led x live = (in_group x (leader x)).0 (least_in (group x) (group_some x live))

  leader_leads : (x : Oid) → Contains graph.objects x → Contains leaders (leader x)
  leader_leads x live = (in_leaders (leader x)).1 (
    (led x live).0,
    λ y y_live. elim (told (leader x) y) [
      | inr apart ↦ inl apart
      | inl together ↦ inr (λ less.
          let held = (in_group x y).1 (y_live, through x (leader x) y (led x live).1 together) in
          let low : (leader x).0 ≤ y.0 = least_below (group x) y (group_ascends x) held in
          omega (arith, low, less))
    ],
  )

  not_after : (x y : Oid) → Contains leaders x → Contains graph.objects y → BelongTogether graph x y → y.0 < x.0 → ⊥
  not_after x y leads live together = elim (((in_leaders x).0 leads).1 y live) [
    | inl apart ↦ absurd (apart together)
    | inr not_less ↦ not_less
  ]

  one_leader : (x y : Oid) → Contains leaders x → Contains leaders y → BelongTogether graph x y → x ≡ y
  one_leader x y first second together =
      one_oid x y (not_after y x second ((in_leaders x).0 first).0 (back x y together))
      (not_after x y first ((in_leaders y).0 second).0 together)

  -- ---- its block
  abbrev link : Edge → Label × ℕ
  link edge = (edge.label, position leaders (leader edge.child))

  abbrev from_group : Oid → List Edge
  from_group x = passing (λ edge. Contains (group x) edge.parent) (λ edge. told_member told_oid (group x) edge.parent) graph.edges

  in_from_group : (x : Oid) (edge : Edge) → Contains (from_group x) edge ↔ (Contains graph.edges edge × Contains (group x) edge.parent)
  in_from_group x edge =
      members_passing (λ (e : Edge). Contains (group x) e.parent) (λ e. told_member told_oid (group x) e.parent) graph.edges edge

  links : (x : Oid) → (row : List (Label × ℕ)) × IsSetOf RowLess (map link (from_group x)) row
  links x = some_ordered RowLess rows_ordered (map link (from_group x))

  abbrev block_of : Oid → Block
  block_of x = record { members = group x; edges = (links x).0 }

  abbrev blocks : List Block
  blocks = map block_of leaders

  -- the leader of the block that an object is in
  record IsLed (number : ℕ) (x : Oid) : Type 0 where
    head : Oid
    at : slice_get leaders number ≡ Some head
    live : Contains graph.objects x
    together : BelongTogether graph head x

  seen : (number : ℕ) (x : Oid) → IsMember blocks number x → IsLed number x
  seen number x member =
      let from = unmapped_at block_of leaders number member.0 member.1 in
      let held = (in_group from.0 x).0 (subst (λ (b : Block). Contains b.members x) (sym from.2) member.2) in
      record { head = from.0; at = from.1; live = held.0; together = held.1 }

  shown : (number : ℕ) (x : Oid) → IsLed number x → IsMember blocks number x
  shown number x is = (
    block_of is.head,
    mapped_at block_of leaders number is.head is.at,
    (in_group is.head x).1 (is.live, is.together),
  )

  head_leads : (number : ℕ) (x : Oid) (is : IsLed number x) → Contains leaders is.head
  head_leads number x is = Contains-from_place leaders number is.head is.at

  numbered : (x : Oid) → Contains graph.objects x → IsLed (position leaders (leader x)) x
  numbered x live = record {
    head = leader x;
    at = position_at leaders (leader x) (leader_leads x live);
    live = live;
    together = back x (leader x) (led x live).1;
  }

  -- an object has the number of its leader
  number_is : (number : ℕ) (x : Oid) → IsLed number x → position leaders (leader x) ≡ number
  number_is number x is =
      let same : is.head ≡ leader x =
      one_leader is.head (leader x) (head_leads number x is) (leader_leads x is.live)
      (through is.head x (leader x) is.together (led x is.live).1) in
      ap (position leaders) (sym same) ∙ position_is leaders leaders_ascend number is.head is.at

  blocks_some : All (λ block. block.members ≢ []) blocks
  blocks_some = All-from_members (λ (block : Block). block.members ≢ []) blocks (λ block at.
      let from = Contains-from_map block_of leaders block at in
      subst (λ (b : Block). b.members ≢ []) from.2 (group_some from.0 ((in_leaders from.0).0 from.1).0))

  blocks_ordered : All IsOrderedBlock blocks
  blocks_ordered = All-from_members IsOrderedBlock blocks (λ block at.
      let from = Contains-from_map block_of leaders block at in
      subst (λ (b : Block). IsOrderedBlock b) from.2
      (record { members = group_ascends from.0; edges = (links from.0).1.ascend }))

  blocks_in_order : AllPairs IsBefore blocks
  blocks_in_order = pairs_from_places IsBefore blocks (λ i j a b less a_at b_at y held.
      let one = unmapped_at block_of leaders i a a_at in
      let other = unmapped_at block_of leaders j b b_at in
      let rises : one.0.0 < other.0.0 =
      pair_at (λ (x y : Oid). x.0 < y.0) leaders i j one.0 other.0 leaders_ascend less one.1 other.1 in
      let inside = (in_group other.0 y).0 (subst (λ (block : Block). Contains block.members y) (sym other.2) held) in
      let leads = Contains-from_place leaders j other.0 other.1 in
      let later = not_after other.0 y leads inside.0 inside.1 in
      let live = ((in_leaders one.0).0 (Contains-from_place leaders i one.0 one.1)).0 in (
        one.0,
        subst (λ (block : Block). Contains block.members one.0) one.2 ((in_group one.0 one.0).1 (live, inl refl)),
        below_not_after one.0.0 other.0.0 y.0 rises later,
      ))

  exact_blocks : (a b : ℕ) (x y : Oid) → IsMember blocks a x → IsMember blocks b y → (a ≡ b) ↔ BelongTogether graph x y
  exact_blocks a b x y in_a in_b =
      let first = seen a x in_a in
      let second = seen b y in_b in (
        λ same.
            let one : first.head ≡ second.head =
            same_Some first.head second.head (sym first.at ∙ ap (slice_get leaders) same ∙ second.at) in
            through x first.head y (back first.head x first.together)
            (subst (λ (o : Oid). BelongTogether graph o y) (sym one) second.together),
        λ together.
            let one : first.head ≡ second.head =
            one_leader first.head second.head (head_leads a x first) (head_leads b y second)
            (through first.head x second.head first.together
            (through x y second.head together (back second.head y second.together))) in
            place_once leaders leaders_ascend a b first.head first.at (second.at ∙ ap (λ (o : Oid). Some o) (sym one)),
      )

  linked_from : (from : ℕ) (label : Label) (to : ℕ) → HasEdge blocks from label to → IsLinkedTo graph blocks from label to
  linked_from from label to has =
      let head = unmapped_at block_of leaders from has.0 has.1 in
      let held : Contains (links head.0).0 (label, to) =
      subst (λ (b : Block). Contains b.edges (label, to)) (sym head.2) has.2 in
      let made = Contains-from_map link (from_group head.0) (label, to) ((links head.0).1.only (label, to) held) in
      let edge = made.0 in
      let inside = (in_from_group head.0 edge).0 made.1 in
      let parent = (in_group head.0 edge.parent).0 inside.1 in
      let child = (sound.linked edge inside.0).1 in
      let by : edge.label ≡ label = ap (λ (l : Label × ℕ). l.0) made.2 in
      let number : position leaders (leader edge.child) ≡ to = ap (λ (l : Label × ℕ). l.1) made.2 in
      record {
        parent = edge.parent;
        child = edge.child;
        parent_in = shown from edge.parent (record { head = head.0; at = head.1; live = parent.0; together = parent.1 });
        child_in = subst (λ (n : ℕ). IsMember blocks n edge.child) number
            (shown (position leaders (leader edge.child)) edge.child (numbered edge.child child));
        edge = subst (λ (l : Label). Contains graph.edges (edge_of edge.parent l edge.child)) by inside.0;
      }

  linked_to : (from : ℕ) (label : Label) (to : ℕ) → IsLinkedTo graph blocks from label to → HasEdge blocks from label to
  linked_to from label to linked =
      let parent = seen from linked.parent linked.parent_in in
      let child = seen to linked.child linked.child_in in
      let edge = edge_of linked.parent label linked.child in
      let inside = (in_from_group parent.head edge).1 (linked.edge, (in_group parent.head linked.parent).1 (parent.live, parent.together)) in
      let made = Contains-map link (from_group parent.head) edge inside in
      let is : link edge ≡ (label, to) = λ i. (label, number_is to linked.child child i) in (
        block_of parent.head,
        mapped_at block_of leaders from parent.head parent.at,
        (links parent.head).1.kept (label, to)
            (subst (λ (l : Label × ℕ). Contains (map link (from_group parent.head)) l) is made),
      )

  are_blocks : AreBlocksOf graph blocks
  are_blocks = record {
    some = blocks_some;
    ordered = blocks_ordered;
    order = blocks_in_order;
    every = λ x live. (position leaders (leader x), shown (position leaders (leader x)) x (numbered x live));
    live = λ number x member. (seen number x member).live;
    exact = exact_blocks;
    linked = λ from label to. (linked_from from label to, linked_to from label to);
  }

pub blocks_exist : BlocksExist
blocks_exist graph sound =
    let found = some_greatest graph sound in
    (blocks graph sound found.0 found.1, are_blocks graph sound found.0 found.1)
