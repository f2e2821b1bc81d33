-- What the search from the cuts meets is what lies below them; an object outside keeps its walk from a name; and of the
-- objects in doubt those are dead that nothing holds.
use Rattle.std.proofs.Common.{◌↔◌, ℕ, ◌⊎◌, inl, inr, not, List, [], ◌∷◌, ◌++◌, Contains, refl, sym, ap, ◌∙◌, subst, true≢false}
use Rattle.std.proofs.lemmas.List.Elements.{All-contains}
use Rattle.lore_base.specs.Walks.{Walk, edge_of}
use Rattle.lore_base.specs.Databases.{OemGraph, IsRooted, IsLive, IsLinked, IsReached}
use Rattle.lore_base.specs.ChangeSets.{IsComplexThen, IsReachedThen, IsAtHand, FitsGraph, IsOverlay, AreDead}
use Rattle.lore_base.proofs.MemberLaws.{Contains-same, Contains-filter, unfiltered}
use Rattle.lore_base.proofs.ToldLaws.{told_member, told_edge, told_oid}
use Rattle.lore_base.proofs.WalkLaws.{Walk-within, Walk-push, Walk-append}
use Rattle.object_search.specs.Reached.{IsWalkedFrom}
use Rattle.object_search.specs.EdgeTests.{is_edge_in}
use Rattle.object_search.proofs.EdgeLaws as tests
use Rattle.read_costs.specs.Concerned.{IsCut, IsBelow, IsInDoubt}
use Rattle.read_costs.specs.Entering.{AreEntering}
use Rattle.oem_reach.specs.Types.{Oid, Label, Edge, Value, Changes}
use Rattle.oem_reach.specs.inside.Doubts.{IsParted, old_of, IsNamedThen, is_listed, IsHeld, inner_of, IsStaying, AreLeft}
use Rattle.oem_reach.proofs.ListedLaws.{listed-Decides, listed}
use Rattle.oem_reach.proofs.CutLaws.{told_renamed, live_then, live_before, child_before}

module _ (before : OemGraph) (changes : Changes) (between lost fresh : List Edge)
    (rooted : IsRooted before) (fits : FitsGraph before changes) (overlay : IsOverlay before.edges changes between lost fresh) where
  -- the cuts that lists tell are those of the definition
  pub parted_cut : (oid : Oid) → IsParted before.names lost changes oid ↔ IsCut before changes between oid
  parted_cut oid = (
    λ parted. elim parted [
      | inl child ↦ inl (child.0, (overlay.lost_exact child.0).0 child.1, child.2)
      | inr named ↦ inr named
    ],
    λ cut. elim cut [
      | inl child ↦ inl (child.0, (overlay.lost_exact child.0).1 child.1, child.2)
      | inr named ↦ inr named
    ],
  )

  -- edges then that aren't fresh were there before
  old_exact : (edge : Edge) → Contains (old_of fresh between) edge ↔ (Contains before.edges edge × Contains between edge)
  old_exact edge = (
    λ at.
        let passed = unfiltered (λ e. not (is_edge_in fresh e)) between edge at in (
          elim (told_member told_edge before.edges edge) [
            | inl there ↦ there
            | inr new ↦ absurd (true≢false (sym passed.1 ∙ ap not (tests.listed fresh edge ((overlay.fresh_exact edge).1 (passed.0, new)))))
          ],
          passed.0,
        ),
    λ both. Contains-filter (λ e. not (is_edge_in fresh e)) between edge both.1
        (ap not (tests.not_listed fresh edge (λ new. ((overlay.fresh_exact edge).0 new).1 both.0))),
  )

  old_before : (x : Oid) (word : List Label) (y : Oid) → Walk (old_of fresh between) x word y → Walk before.edges x word y
  old_before x word y walked = Walk-within (old_of fresh between) before.edges (λ edge at. ((old_exact edge).0 at).0) x word y walked

  -- a walk of before is one of such edges, or its last part is, from right below a cut
  old_walk : (word : List Label) (x y : Oid) → Walk before.edges x word y
      → Walk (old_of fresh between) x word y
      ⊎ ((start : Oid) × (left : List Label) × IsCut before changes between start × Walk (old_of fresh between) start left y)
  old_walk [] x y same = inl same
  old_walk (label ∷ word) x y walked =
      let edge = edge_of x label walked.0 in
      elim (old_walk word walked.0 y walked.2) [
        | inr later ↦ inr later
        | inl on ↦ elim (told_member told_edge between edge) [
          | inl there ↦ inl (walked.0, (old_exact edge).1 (walked.1, there), on)
          | inr gone ↦ inr (walked.0, word, inl (edge, (walked.1, gone), refl), on)
        ]
      ]

  -- what such walks reach from the cuts is what lies below them
  pub below_met : (cuts : List Oid) → ((oid : Oid) → Contains cuts oid ↔ IsCut before changes between oid)
      → (oid : Oid) → IsWalkedFrom (old_of fresh between) cuts oid ↔ IsBelow before changes between oid
  below_met cuts exact oid = (
    λ walked. (walked.0, walked.1, (exact walked.0).0 walked.2, old_before walked.0 walked.1 oid walked.3),
    λ below. elim (old_walk below.1 below.0 oid below.3) [
      | inl on ↦ (below.0, below.1, (exact below.0).1 below.2, on)
      | inr later ↦ (later.0, later.1, (exact later.0).1 later.2, later.3)
    ],
  )

  -- an object of before keeps a walk from a name, or it lies below a cut
  pub told_reached : (oid : Oid) → IsLive before.objects oid → IsReachedThen before.names changes between oid ⊎ IsBelow before changes between oid
  told_reached oid live =
      let reached = All-contains (λ (object : Oid × Value). IsReached before.names before.edges object.0) before.objects (oid, live.0) rooted.reached live.1 in
      elim (old_walk reached.word reached.start oid reached.walked) [
        | inr later ↦ inr (later.0, later.1, later.2, old_before later.0 later.1 oid later.3)
        | inl on ↦ elim (told_renamed changes reached.name) [
          | inl renamed ↦ inr (reached.start, reached.word, inr (reached.name, reached.named, renamed), reached.walked)
          | inr kept ↦ inl record {
            name = reached.name;
            start = reached.start;
            word = reached.word;
            named = inr (reached.named, kept);
            walked = Walk-within (old_of fresh between) between (λ edge at. ((old_exact edge).0 at).1) reached.start reached.word oid on;
          }
        ]
      ]

  outside_reached : (oid : Oid) → IsLive before.objects oid → (IsBelow before changes between oid → ⊥)
      → IsReachedThen before.names changes between oid
  outside_reached oid live outside = elim (told_reached oid live) [ inl reached ↦ reached | inr below ↦ absurd (outside below) ]

  -- what lies below a cut was there before
  cut_live : (oid : Oid) → IsCut before changes between oid → IsLive before.objects oid
  cut_live oid (inl child) =
      subst (λ (o : Oid). IsLive before.objects o) child.2 (child_before before changes rooted fits child.0 child.1.0)
  cut_live oid (inr named) =
      All-contains (λ (entry : List ℕ × Oid). IsLive before.objects entry.1) before.names (named.0, oid) rooted.well_formed.names_live named.1

  walked_live : (word : List Label) (x y : Oid) → IsLive before.objects x → Walk before.edges x word y → IsLive before.objects y
  walked_live [] x y live same = subst (λ (o : Oid). IsLive before.objects o) same live
  walked_live (label ∷ word) x y live walked =
      walked_live word walked.0 y (child_before before changes rooted fits (edge_of x label walked.0) walked.1) walked.2

  doubt_at_hand : (oid : Oid) → IsInDoubt before changes between oid → IsAtHand before changes oid
  doubt_at_hand oid (inl below) = inl (walked_live below.1 below.0 oid (cut_live below.0 below.2) below.3)
  doubt_at_hand oid (inr made) = inr made

  -- the parent of an edge then that isn't in doubt was there before, below no cut
  parent_reached : (edge : Edge) → Contains between edge → (IsInDoubt before changes between edge.parent → ⊥)
      → IsReachedThen before.names changes between edge.parent
  parent_reached edge at sure =
      let live : IsLive before.objects edge.parent = elim ((overlay.linked.exact edge).0 at) [
        | inl added ↦
            let ends = All-contains (λ (e : Edge). IsComplexThen before.objects changes e.parent × IsAtHand before changes e.child) changes.added edge fits.added added in
            elim (live_before before changes rooted fits edge.parent (_, ends.0)) [
              | inl made ↦ absurd (sure (inr made))
              | inr old ↦ old
            ]
        | inr kept ↦ (_, (All-contains (IsLinked before.objects) before.edges edge rooted.well_formed.edges_linked kept.0).parent)
      ] in
      outside_reached edge.parent live (λ below. sure (inl below))

  -- Of a list of the objects in doubt, with all edges then that enter them.

  module _ (doubts named : List Oid) (edges : List Edge)
      (in_doubt : (oid : Oid) → Contains doubts oid ↔ IsInDoubt before changes between oid)
      (are_named : (oid : Oid) → Contains named oid ↔ IsNamedThen before.names changes oid)
      (enters : AreEntering between doubts edges) where
    held_reached : (oid : Oid) → IsHeld doubts named edges oid → IsReachedThen before.names changes between oid
    held_reached oid held = elim held.1 [
      | inl by_name ↦ (let name = (are_named oid).0 by_name in record {
        name = name.0;
        start = oid;
        word = [];
        named = name.1;
        walked = refl;
      })
      | inr child ↦
          let edge = child.0 in
          let there = ((enters.exact edge).0 child.1).0 in
          let parent = parent_reached edge there (λ doubt. child.3 ((in_doubt edge.parent).1 doubt)) in
          record {
            name = parent.name;
            start = parent.start;
            word = parent.word ++ edge.label ∷ [];
            named = parent.named;
            walked = Walk-push between parent.start parent.word edge.parent edge.label oid parent.walked
                (Contains-same between edge (edge_of edge.parent edge.label oid) (let is = child.2 in λ i. record { parent = edge.parent; label = edge.label; child = is i }) there);
          }
    ]

    -- edges within the objects in doubt
    inner_exact : (edge : Edge) → Contains (inner_of doubts edges) edge ↔ (Contains between edge × Contains doubts edge.child × Contains doubts edge.parent)
    inner_exact edge = (
      λ at.
          let passed = unfiltered (λ (e : Edge). is_listed doubts e.parent) edges edge at in
          let there = (enters.exact edge).0 passed.0 in
          (there.0, there.1, (listed-Decides doubts edge.parent).0 passed.1),
      λ ends. Contains-filter (λ (e : Edge). is_listed doubts e.parent) edges edge
          ((enters.exact edge).1 (ends.0, ends.1)) (listed doubts edge.parent ends.2),
    )

    -- what is walked to from what is held, among the objects in doubt, is reached then
    staying_reached : (oid : Oid) → IsStaying doubts named edges oid → IsReachedThen before.names changes between oid
    staying_reached oid staying =
        let start = held_reached staying.0 staying.2 in
        record {
          name = start.name;
          start = start.start;
          word = start.word ++ staying.1;
          named = start.named;
          walked = Walk-append between start.start start.word staying.0 staying.1 oid start.walked
              (Walk-within (inner_of doubts edges) between (λ edge at. ((inner_exact edge).0 at).0) staying.0 staying.1 oid staying.3);
        }

    -- a walk to an object in doubt stays among these, or its last part is one from what is held
    walk_inside : (word : List Label) (x y : Oid) → Walk between x word y → Contains doubts y
        → (Walk (inner_of doubts edges) x word y × Contains doubts x) ⊎ IsStaying doubts named edges y
    walk_inside [] x y same at = inl (same, Contains-same doubts y x (sym same) at)
    walk_inside (label ∷ word) x y walked at =
        let edge = edge_of x label walked.0 in
        elim (walk_inside word walked.0 y walked.2 at) [
          | inr from ↦ inr from
          | inl inside ↦ elim (told_member told_oid doubts x) [
            | inl there ↦ inl ((walked.0, (inner_exact edge).1 (walked.1, inside.1, there), inside.0), there)
            | inr sure ↦ inr (walked.0, word, (inside.1, inr (edge, (enters.exact edge).1 (walked.1, inside.1), refl, sure)), inside.0)
          ]
        ]

    -- an object in doubt that is reached then is walked to from what is held
    reached_staying : (oid : Oid) → Contains doubts oid → IsReachedThen before.names changes between oid → IsStaying doubts named edges oid
    reached_staying oid at reached = elim (walk_inside reached.word reached.start oid reached.walked at) [
      | inr from ↦ from
      | inl inside ↦ (
        reached.start,
        reached.word,
        (inside.1, inl ((are_named reached.start).1 (reached.name, reached.named))),
        inside.0,
      )
    ]

    -- those in doubt that nothing held walks to are the dead ones
    pub doubts_dead : (dead : List Oid) → AreLeft doubts (IsStaying doubts named edges) dead → AreDead before changes dead
    doubts_dead dead left =
        let told : (oid : Oid) → Contains doubts oid → Contains dead oid ⊎ IsReachedThen before.names changes between oid =
        λ oid at. elim (left.each oid at) [ inl there ↦ inl there | inr staying ↦ inr (staying_reached oid staying) ] in
        record {
          between = between;
          linked = overlay.linked;
          ascend = left.ascend;
          vanish = λ oid at.
              let found = left.only oid at in (
                live_then before changes rooted fits oid (doubt_at_hand oid ((in_doubt oid).0 found.0)),
                λ reached. found.1 (reached_staying oid found.0 reached),
              );
          stay = λ oid live. elim (live_before before changes rooted fits oid live) [
            | inl made ↦ told oid ((in_doubt oid).1 (inr made))
            | inr old ↦ elim (told_member told_oid doubts oid) [
              | inl at ↦ told oid at
              | inr sure ↦ inr (outside_reached oid old (λ below. sure ((in_doubt oid).1 (inl below))))
            ]
          ];
        }
