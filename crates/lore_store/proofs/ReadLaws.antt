-- What preparing a change reads: the search for what vanishes, the guide, and the objects whose entries may change. Together
-- it is within four times the work of the change.
use Rattle.std.proofs.Common.{◌≡◌, ◌≢◌, ◌↔◌, ◌==◌, inl, inr, ℕ, ◌+◌, ◌*◌, ◌<◌, ◌≤◌, List, [], ◌∷◌, ◌++◌, length, AllPairs, Contains, refl, sym, ap, subst, arith}
use Rattle.std.specs.List.{sum_by}
use Rattle.std.proofs.lemmas.List.Elements.{All-contains}
use Rattle.std.proofs.lemmas.List.Kept.{AllPairs-filter}
use Rattle.lore_base.specs.declared.edges.Oid.{Oid}
use Rattle.lore_base.specs.declared.edges.Edge.{Edge}
use Rattle.lore_base.specs.declared.values.Value.{Value}
use Rattle.lore_base.specs.declared.deltas.Delta.{Delta}
use Rattle.lore_base.specs.Walks.{out_of}
use Rattle.lore_base.specs.TargetSets.{IsLedTo}
use Rattle.lore_base.specs.Databases.{OemGraph, IsRooted, IsLinked, IsLive, AreAscendingEdges}
use Rattle.lore_base.specs.ChangeSets.{FitsGraph, IsOverlay, IsGraphAfter, IsReachedThen}
use Rattle.lore_base.specs.Deltas.{IsOnlyIn, ListsOnlyIn, IsDelta}
use Rattle.lore_base.proofs.MemberLaws.{Contains-filter, unfiltered}
use Rattle.lore_base.proofs.ToldLaws.{told_member, told_edge}
use Rattle.lore_base.proofs.WalkLaws.{Walk-within, Walk-push}
use Rattle.list_laws.proofs.SumLaws.{distinct_no_longer}
use Rattle.list_laws.proofs.MemberLaws.{All-from_members, Contains-from_map}
use Rattle.oem_changes.proofs.DeterminedLaws.{one_between}
use Rattle.oem_changes.proofs.GrowthLaws.{ascend-distinct}
use Rattle.oem_changes.proofs.RootedLaws.{rooted_after}
use Rattle.set_steps.specs.SetSteps.{reads_of}
use Rattle.read_costs.specs.Spent.{IsSpent}
use Rattle.read_costs.specs.ReadCosts.{out_reads, in_reads, link_reads}
use Rattle.read_costs.specs.Concerned.{IsBelow, IsInDoubt, IsNear, IsConcerned, IsTouched}
use Rattle.read_costs.specs.Work.{IsWithinWork}
use Rattle.read_costs.proofs.SumLaws.{sum_by-wider}
use Rattle.read_costs.proofs.SpentLaws.{IsSpent-exact, IsSpent-wider}
use Rattle.read_costs.proofs.WorkLaws.{work_searched, work_told, work_told_explored}
use Rattle.dataguide.specs.Touched as guides
use Rattle.dataguide.specs.Touched.{ReadsTouched, ReadsSome, parents_of}
use Rattle.dataguide.specs.Changes.{TellsEntering}
use Rattle.dataguide.proofs.ReadBounds.{reads-within}
use Rattle.value_changes.specs.Reads.{AreRead, IsChanged, ReadsChanged}
use Rattle.oem_reach.proofs.DoubtLaws.{told_reached}
use Rattle.lore_store.specs.Types.{Changes}
use Rattle.lore_store.specs.Reads.{ReadsWithinWork}
use Rattle.lore_store.specs.inside.Cuts.{AreCutLinks, ReadsChildren}

-- of fewer edges no more leave an object
fewer : (edges more : List Edge) → AreAscendingEdges edges → ((edge : Edge) → Contains edges edge → Contains more edge)
    → (oid : Oid) → length (out_of oid edges) ≤ length (out_of oid more)
fewer edges more ascend within oid =
    let leaves = λ (edge : Edge). edge.parent.0 == oid.0 in
    distinct_no_longer (out_of oid edges) (out_of oid more)
    (AllPairs-filter (λ (a b : Edge). a ≢ b) leaves edges (ascend-distinct edges ascend))
    (λ edge at.
    let found = unfiltered leaves edges edge at in
    Contains-filter leaves more edge (within edge found.0) found.1)

-- ---- the guide
module _ (before : OemGraph) (changes : Changes) (after : OemGraph) (leads : IsGraphAfter before changes after)
    (sets : List (List Oid)) (exact : (set : List Oid) → Contains sets set ↔ IsLedTo before.names before.edges set)
    (gone : List Edge) (goes : ListsOnlyIn gone before.edges after.edges) where
  -- the members of a set that label paths lead to afterwards are reached then
  member_reached : (set : List Oid) → IsLedTo after.names after.edges set → (oid : Oid) → Contains set oid
      → IsReachedThen before.names changes leads.between oid
  member_reached set led oid at = record {
    name = led.0.name;
    start = led.1.start;
    word = led.0.word;
    named = (leads.names (led.0.name, led.1.start)).0 led.1.named;
    walked = Walk-within after.edges leads.between (λ edge there. ((leads.edges edge).0 there).0) led.1.start led.0.word oid
        ((led.1.target.exact oid).0 at);
  }

  -- so an edge that goes and leaves one of them is removed
  gone_removed : (edge : Edge) → Contains gone edge → IsReachedThen before.names changes leads.between edge.parent
      → Contains changes.removed edge
  gone_removed edge at reached =
      let only = (goes edge).0 at in
      elim (told_member told_edge changes.removed edge) [
        | inl removed ↦ removed
        | inr kept ↦ absurd (only.1 ((leads.edges edge).1 ((leads.linked.exact edge).1 (inr (only.0, kept)), reached)))
      ]

  touched : (set : List Oid) → IsLedTo after.names after.edges set → guides.IsTouched sets (parents_of gone) set
      → IsTouched before changes after set
  touched set led (inl new) = (led, inl (λ was. new ((exact set).1 was)))
  touched set led (inr met) =
      let from = Contains-from_map (λ (edge : Edge). edge.parent) gone met.0 met.2 in
      let reached = member_reached set led met.0 met.1 in
      let removed = gone_removed from.0 from.1
      (subst (λ (o : Oid). IsReachedThen before.names changes leads.between o) (sym from.2) reached) in
      (led, inr (met.0, met.1, (from.0, inr removed, from.2)))

  pub planned_spent : (found : List (List Oid)) → ((set : List Oid) → Contains found set ↔ IsLedTo after.names after.edges set)
      → (grown : List Oid) (old now : ℕ)
      → ReadsTouched sets (parents_of gone) grown after.edges found old now
      → IsSpent (IsTouched before changes after) (reads_of after.edges) old now
  planned_spent found led grown old now reads = record {
    paid = reads.touched;
    apart = reads.are.apart;
    among = All-from_members (IsTouched before changes after) reads.touched (λ set at.
        let is = (reads.are.exact set).0 at in
        touched set ((led set).0 is.0) is.1);
    within = omega (arith, reads.counted, reads-within sets (parents_of gone) grown after.edges reads.touched reads.read reads.each);
  }

  pub refused_spent : (grown : List Oid) (limit old now : ℕ)
      → ReadsSome sets (parents_of gone) grown limit after.names after.edges old now
      → IsSpent (IsTouched before changes after) (reads_of after.edges) old now
  refused_spent grown limit old now reads = record {
    paid = reads.sets;
    apart = reads.apart;
    among = All-from_members (IsTouched before changes after) reads.sets (λ set at.
        touched set (All-contains (IsLedTo after.names after.edges) reads.sets set reads.led at)
        (All-contains (guides.IsTouched sets (parents_of gone)) reads.sets set reads.touched at));
    within = omega (arith, reads.counted, reads-within sets (parents_of gone) grown after.edges reads.sets reads.read reads.each);
  }

-- ---- all of it
ascend_apart : (oids : List Oid) → AllPairs (λ a b. a.0 < b.0) oids → AllPairs (λ a b. a ≢ b) oids
ascend_apart oids ascend = λ i j d low within same. omega (arith, ascend i j d low within, ap (λ (o : Oid). o.0) same)

module _ (before : OemGraph) (changes : Changes) (between lost fresh : List Edge) (rooted : IsRooted before)
    (fits : FitsGraph before changes) (overlay : IsOverlay before.edges changes between lost fresh)
    (after : OemGraph) (leads : IsGraphAfter before changes after) where
  same_between : leads.between ≡ between
  same_between = one_between before.edges changes leads.between between leads.linked overlay.linked

  -- the edges afterwards are those then whose parents are reached
  after_edges : (edge : Edge) → Contains after.edges edge
      ↔ (Contains between edge × IsReachedThen before.names changes between edge.parent)
  after_edges =
      subst (λ (l : List Edge). (edge : Edge) → Contains after.edges edge
      ↔ (Contains l edge × IsReachedThen before.names changes l edge.parent)) same_between leads.edges

  within_between : (edge : Edge) → Contains after.edges edge → Contains between edge
  within_between edge at = ((after_edges edge).0 at).0

  -- the overlay has the edges of before without some that go, and fresh ones
  pub edges_read : (gone : List Edge) → ListsOnlyIn gone before.edges after.edges → AreRead between before.edges gone fresh
  edges_read gone goes = record {
    added_exact = overlay.fresh_exact;
    others_lost = λ edge only. (goes edge).1 (only.0, λ there. only.1 (within_between edge there));
  }

  -- the child of an edge that goes lies below a cut
  gone_below : (edge : Edge) → IsOnlyIn before.edges after.edges edge → IsBelow before changes between edge.child
  gone_below edge only = elim (told_member told_edge between edge) [
    | inr away ↦ (edge.child, [], inl (edge, (only.0, away), refl), refl)
    | inl there ↦
        let linked = All-contains (IsLinked before.objects) before.edges edge rooted.well_formed.edges_linked only.0 in
        elim (told_reached before changes between lost fresh rooted fits overlay edge.parent (_, linked.parent)) [
          | inl reached ↦ absurd (only.1 ((after_edges edge).1 (there, reached)))
          | inr below ↦ (
            below.0,
            below.1 ++ edge.label ∷ [],
            below.2,
            Walk-push before.edges below.0 below.1 edge.parent edge.label edge.child below.3 only.0,
          )
        ]
  ]

  -- that of an edge that comes is near
  come_near : (edge : Edge) → IsOnlyIn after.edges before.edges edge → IsNear changes edge.child
  come_near edge only = elim ((overlay.linked.exact edge).0 (within_between edge only.0)) [
    | inl added ↦ inl (edge, inl added, refl)
    | inr kept ↦ absurd (only.1 kept.0)
  ]

  -- and so is an object that comes, or comes with another value
  object_near : (object : Oid × Value) → IsOnlyIn after.objects before.objects object → IsNear changes object.0
  object_near object only = elim ((leads.objects object).0 only.0).0 [
    | inl made ↦ inr (inl (object.1, made))
    | inr other ↦ elim other [
      | inl given ↦ inr (inr (object.1, given))
      | inr kept ↦ absurd (only.1 kept.0)
    ]
  ]

  module _ (delta : Delta) (differ : IsDelta before after delta) where
    changed_concerned : (oid : Oid) → IsChanged delta.edges_gone delta.edges_come delta.objects_come oid
        → IsConcerned before changes between oid
    changed_concerned oid (inl given) = inr (object_near (oid, given.0) ((differ.objects_come (oid, given.0)).0 given.1))
    changed_concerned oid (inr entered) =
        subst (IsConcerned before changes between) entered.2 (elim entered.1 [
          | inl goes ↦ inl (gone_below entered.0 ((differ.edges_gone entered.0).0 goes))
          | inr comes ↦ inr (come_near entered.0 ((differ.edges_come entered.0).0 comes))
        ])

    changed_spent : (old now : ℕ)
        → ReadsChanged between delta.edges_gone delta.edges_come delta.objects_come before.objects after.objects old now
        → IsSpent (IsConcerned before changes between) (in_reads between) old now
    changed_spent old now reads =
        IsSpent-exact (IsConcerned before changes between) (in_reads between) reads.oids old now
        (ascend_apart reads.oids reads.exact.ascending)
        (All-from_members (IsConcerned before changes between) reads.oids
        (λ oid at. changed_concerned oid ((reads.exact.exact oid).0 at).0)) reads.counted

  -- no more edges leave a set afterwards than then
  set_cost : (set : List Oid) → reads_of after.edges set ≤ sum_by (out_reads between) set
  set_cost set =
      sum_by-wider (out_reads after.edges) (out_reads between)
      (λ oid. let few = fewer after.edges between leads.edges_ascend within_between oid in omega (arith, few)) set

  guide_spent : (old now : ℕ) → IsSpent (IsTouched before changes after) (reads_of after.edges) old now
      → IsSpent (IsTouched before changes after) (λ set. sum_by (out_reads between) set) old now
  guide_spent old now spent =
      IsSpent-wider (IsTouched before changes after) (IsTouched before changes after) (reads_of after.edges)
      (λ set. sum_by (out_reads between) set) old now (λ set is. is) set_cost spent

  within_work : (old now : ℕ) → IsWithinWork 4 before changes between after old now → ReadsWithinWork before changes old now
  within_work old now within =
      (after, leads, subst (λ (l : List Edge). IsWithinWork 4 before changes l after old now) (sym same_between) within)

  -- ---- what enters the children of cut edges
  -- an object that stays is reached then
  live_reached : (oid : Oid) → IsLive after.objects oid → IsReachedThen before.names changes between oid
  live_reached oid live =
      subst (λ (l : List Edge). IsReachedThen before.names changes l oid) same_between ((leads.objects (oid, live.0)).0 live.1).1

  -- and what an edge leaves afterwards stays
  parent_live : (edge : Edge) → Contains after.edges edge → IsLive after.objects edge.parent
  parent_live edge at =
      let formed = (rooted_after before changes rooted.well_formed fits after leads).well_formed in
      let linked = All-contains (IsLinked after.objects) after.edges edge formed.edges_linked at in
      (_, linked.parent)

  pub cut_tells : (oids : List Oid) (entering : List Edge) → AreCutLinks between after.objects oids entering
      → TellsEntering after.edges oids entering
  cut_tells oids entering are = record {
    ascend = are.ascend;
    exact = λ edge. (
      λ at. (
          let both = (are.exact edge).0 at in
          ((after_edges edge).1 (both.0.0, live_reached edge.parent both.1), both.0.1)),
      λ both. (are.exact edge).1 ((((after_edges edge).0 both.0).0, both.1), parent_live edge both.0),
    );
  }

  -- the child of a lost edge lies below a cut
  child_below : (edge : Edge) → Contains lost edge → IsBelow before changes between edge.child
  child_below edge at = (edge.child, [], inl (edge, (overlay.lost_exact edge).0 at, refl), refl)

  pub cut_spent : (cut : List Edge) → ((edge : Edge) → Contains cut edge → Contains lost edge) → (old now : ℕ)
      → ReadsChildren between cut old now → IsSpent (IsConcerned before changes between) (in_reads between) old now
  cut_spent cut within old now reads =
      IsSpent-exact (IsConcerned before changes between) (in_reads between) reads.oids old now
      (ascend_apart reads.oids reads.children.ascending)
      (All-from_members (IsConcerned before changes between) reads.oids (λ oid at.
      let from = Contains-from_map (λ (edge : Edge). edge.child) cut oid ((reads.children.exact oid).0 at) in
      subst (IsConcerned before changes between) from.2 (inl (child_below from.0 (within from.0 from.1)))))
      (reads.counted overlay.linked.ascend)

  -- a change that was refused for its sizes
  pub searched_within : (t0 t1 : ℕ) → IsSpent (IsInDoubt before changes between) (λ oid. 2 * link_reads between oid) t0 t1
      → ReadsWithinWork before changes t0 t1
  searched_within t0 t1 dead = within_work t0 t1 (work_searched before changes between after t0 t1 dead)

  -- one that was refused for its guide
  pub explored_within : (t0 t1 t2 t3 : ℕ) → IsSpent (IsInDoubt before changes between) (λ oid. 2 * link_reads between oid) t0 t1
      → IsSpent (IsConcerned before changes between) (in_reads between) t1 t2
      → IsSpent (IsTouched before changes after) (reads_of after.edges) t2 t3 → ReadsWithinWork before changes t0 t3
  explored_within t0 t1 t2 t3 dead cut guide =
      within_work t0 t3 (work_told_explored before changes between after t0 t1 t2 t3 dead cut (guide_spent t2 t3 guide))

  -- and one that was prepared
  pub prepared_within : (delta : Delta) → IsDelta before after delta → (t0 t1 t2 t3 t4 : ℕ)
      → IsSpent (IsInDoubt before changes between) (λ oid. 2 * link_reads between oid) t0 t1
      → IsSpent (IsConcerned before changes between) (in_reads between) t1 t2
      → IsSpent (IsTouched before changes after) (reads_of after.edges) t2 t3
      → ReadsChanged between delta.edges_gone delta.edges_come delta.objects_come before.objects after.objects t3 t4
      → ReadsWithinWork before changes t0 t4
  prepared_within delta differ t0 t1 t2 t3 t4 dead cut guide entries =
      within_work t0 t4 (work_told before changes between after t0 t1 t2 t3 t4 dead cut (guide_spent t2 t3 guide)
      (changed_spent delta differ t3 t4 entries))
