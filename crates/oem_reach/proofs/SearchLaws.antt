-- The whole search: what it is given, what it finds in doubt, what it leaves, and what it reads.
use Rattle.std.proofs.Common.{◌≡◌, ◌≢◌, ◌↔◌, ℕ, ◌+◌, ◌*◌, ◌<◌, ◌≤◌, inl, inr, List, [], ◌++◌, map, AllPairs, Contains, sym, ap, subst, arith}
use Rattle.std.specs.List.{filter, sum_by}
use Rattle.std.proofs.lemmas.List.Elements.{All-contains, Contains-append_left, Contains-append_right, Contains-append_cases}
use Rattle.lore_base.specs.TargetSets.{ListsInOrder}
use Rattle.lore_base.specs.Databases.{OemGraph, IsRooted, IsLive, AreAscendingEdges}
use Rattle.lore_base.specs.ChangeSets.{AreDead, NamesThen, FitsGraph, IsOverlay}
use Rattle.lore_base.proofs.MemberLaws.{Contains-none, Contains-filter, unfiltered}
use Rattle.list_laws.proofs.MemberLaws.{Contains-map, Contains-from_map, All-from_members}
use Rattle.object_search.specs.Reached.{IsWalkedFrom}
use Rattle.read_costs.specs.ReadCosts.{out_reads, in_reads, link_reads}
use Rattle.read_costs.specs.Concerned.{IsCut, IsBelow, IsInDoubt}
use Rattle.read_costs.specs.Entering.{AreEntering}
use Rattle.read_costs.proofs.SumLaws.{sum_by-plus}
use Rattle.read_costs.proofs.SpentLaws.{IsSpent-exact, IsSpent-wider}
use Rattle.oem_reach.specs.Types.{Oid, Edge, Value, Changes}
use Rattle.oem_reach.specs.Reads.{ReadsBelow}
use Rattle.oem_reach.specs.Laws.{ReadsAreWithinTwice}
use Rattle.oem_reach.specs.inside.Doubts.{IsParted, old_of, IsNamedThen, is_listed, IsStaying, AreLeft}
use Rattle.oem_reach.proofs.ListedLaws.{listed-Decides, listed}
use Rattle.oem_reach.proofs.CutLaws.{child_before}
use Rattle.oem_reach.proofs.LowerParentLaws.{numbers_from}
use Rattle.oem_reach.proofs.DoubtLaws.{parted_cut, below_met, doubts_dead}

live_made : (made : List (Oid × Value)) (oid : Oid) → Contains (map (λ object. object.0) made) oid → IsLive made oid
live_made made oid at =
    let found = Contains-from_map (λ (object : Oid × Value). object.0) made oid at in
    ((found.0).1, subst (λ (o : Oid). Contains made (o, (found.0).1)) found.2 found.1)

made_live : (made : List (Oid × Value)) (oid : Oid) → IsLive made oid → Contains (map (λ object. object.0) made) oid
made_live made oid live = Contains-map (λ (object : Oid × Value). object.0) made (oid, live.0) live.1

-- the objects of the names then
pub named_then : (names then : List (List ℕ × Oid)) (changes : Changes) (named : List Oid)
    → ((entry : List ℕ × Oid) → Contains then entry ↔ NamesThen names changes entry) → named ≡ map (λ entry. entry.1) then
    → (oid : Oid) → Contains named oid ↔ IsNamedThen names changes oid
named_then names then changes named members is oid = (
  λ at.
      let found = Contains-from_map (λ (entry : List ℕ × Oid). entry.1) then oid (subst (λ (l : List Oid). Contains l oid) is at) in
      ((found.0).0, (members ((found.0).0, oid)).0 (subst (λ (o : Oid). Contains then ((found.0).0, o)) found.2 found.1)),
  λ name. subst (λ (l : List Oid). Contains l oid) (sym is)
      (Contains-map (λ (entry : List ℕ × Oid). entry.1) then (name.0, oid) ((members (name.0, oid)).1 name.1)),
)

-- bound names are names then
pub bound_then : (names : List (List ℕ × Oid)) (changes : Changes) (oid : Oid) → Contains (map (λ entry. entry.1) changes.named) oid → IsNamedThen names changes oid
bound_then names changes oid at =
    let found = Contains-from_map (λ (entry : List ℕ × Oid). entry.1) changes.named oid at in
    ((found.0).0, inl (subst (λ (o : Oid). Contains changes.named ((found.0).0, o)) found.2 found.1))

module _ (before : OemGraph) (changes : Changes) (between lost fresh : List Edge) (names : List (List ℕ × Oid))
    (rooted : IsRooted before) (named_so : before.names ≡ names) (fits : FitsGraph before changes)
    (overlay : IsOverlay before.edges changes between lost fresh)
    (parted : List Oid) (parted_exact : (oid : Oid) → Contains parted oid ↔ IsParted names lost changes oid) where
  cut_exact : (oid : Oid) → Contains parted oid ↔ IsCut before changes between oid
  cut_exact oid =
      let told = subst (λ (l : List (List ℕ × Oid)). Contains parted oid ↔ IsParted l lost changes oid) (sym named_so) (parted_exact oid) in
      let cut = parted_cut before changes between lost fresh rooted fits overlay oid in
      (λ at. cut.0 (told.0 at), λ is. told.1 (cut.1 is))

  -- nothing is cut where nothing is parted, and then nothing lies below a cut
  pub uncut : parted ≡ [] → (oid : Oid) → IsCut before changes between oid → ⊥
  uncut none oid cut = Contains-none oid (subst (λ (l : List Oid). Contains l oid) none ((cut_exact oid).1 cut))

  pub reads_none : parted ≡ [] → (old now : ℕ) → now ≡ old → ReadsBelow before changes between old now
  reads_none none old now same = record {
    below = [];
    exact = record {
      ascending = λ i j d lt within. absurd (omega (arith, within));
      exact = λ oid. (λ at. absurd (Contains-none oid at), λ is. absurd (uncut none is.0 is.2));
    };
    counted = omega (arith, same);
  }

  module _ (below : List Oid) (lists : ListsInOrder (IsWalkedFrom (old_of fresh between) parted) below) where
    below_lists : ListsInOrder (IsBelow before changes between) below
    below_lists = record {
      ascending = lists.ascending;
      exact = λ oid.
          let met = below_met before changes between lost fresh rooted fits overlay parted cut_exact oid in
          (λ at. met.0 ((lists.exact oid).0 at), λ is. (lists.exact oid).1 (met.1 is));
    }

    -- what both calls read
    pub reads_below : (links : List Edge) → links ≡ between → (old mid now : ℕ) → mid ≡ old + sum_by (out_reads between) below
        → (AreAscendingEdges links → now ≡ mid + sum_by (in_reads links) below) → ReadsBelow before changes between old now
    reads_below links same old mid now first second =
        let entered = subst (λ (l : List Edge). AreAscendingEdges l → now ≡ mid + sum_by (in_reads l) below) same second overlay.linked.ascend in
        record {
          below = below;
          exact = below_lists;
          counted = omega (arith, first, entered, sum_by-plus (out_reads between) (in_reads between) below);
        }

    module _ (doubts : List Oid) (members : (oid : Oid) → Contains doubts oid ↔ Contains (below ++ map (λ object. object.0) changes.made) oid) where
      in_doubt : (oid : Oid) → Contains doubts oid ↔ IsInDoubt before changes between oid
      in_doubt oid =
          let made : List Oid = map (λ (object : Oid × Value). object.0) changes.made in (
            λ at. elim (Contains-append_cases below made oid ((members oid).0 at)) [
              | inl under ↦ inl ((below_lists.exact oid).0 under)
              | inr new ↦ inr (live_made changes.made oid new)
            ],
            λ doubt. (members oid).1 (elim doubt [
              | inl under ↦ Contains-append_left below made oid ((below_lists.exact oid).1 under)
              | inr live ↦ Contains-append_right below made oid (made_live changes.made oid live)
            ]),
          )

      -- no edge of before enters a made object
      made_new : (edge : Edge) → Contains before.edges edge → IsLive changes.made edge.child → ⊥
      made_new edge at made =
          let live = child_before before changes rooted fits edge at in
          let low = (All-contains (λ (object : Oid × Value). (1 ≤ object.0.0) × (object.0.0 < before.next)) before.objects (edge.child, live.0) rooted.well_formed.ordered.objects_numbered live.1).1 in
          omega (arith, low, numbers_from before.next changes.made fits.numbered edge.child (made_live changes.made edge.child made))

      -- the edges that enter objects below cuts, and the fresh ones that enter one in doubt
      enter_doubts : (links entering edges : List Edge) → links ≡ between → AreEntering links below entering
          → edges ≡ entering ++ filter (λ edge. is_listed doubts edge.child) fresh → AreEntering between doubts edges
      enter_doubts links entering edges same enters is =
          let new : List Edge = filter (λ (edge : Edge). is_listed doubts edge.child) fresh in
          let old = subst (λ (l : List Edge). AreEntering l below entering) same enters in
          record {
            exact = λ edge. (
              λ at. elim (Contains-append_cases entering new edge (subst (λ (l : List Edge). Contains l edge) is at)) [
                | inl first ↦
                    let there = (old.exact edge).0 first in
                    (there.0, (in_doubt edge.child).1 (inl ((below_lists.exact edge.child).0 there.1)))
                | inr second ↦
                    let passed = unfiltered (λ (e : Edge). is_listed doubts e.child) fresh edge second in
                    (((overlay.fresh_exact edge).0 passed.0).0, (listed-Decides doubts edge.child).0 passed.1)
              ],
              λ there. subst (λ (l : List Edge). Contains l edge) (sym is) (elim ((in_doubt edge.child).0 there.1) [
                | inl under ↦ Contains-append_left entering new edge ((old.exact edge).1 (there.0, (below_lists.exact edge.child).1 under))
                | inr made ↦ Contains-append_right entering new edge
                    (Contains-filter (λ (e : Edge). is_listed doubts e.child) fresh edge
                    ((overlay.fresh_exact edge).1 (there.0, λ at. made_new edge at made)) (listed doubts edge.child there.1))
              ]),
            );
          }

      -- those in doubt that nothing held walks to are dead
      pub search_dead : (links entering edges : List Edge) (named dead : List Oid) → links ≡ between → AreEntering links below entering
          → edges ≡ entering ++ filter (λ edge. is_listed doubts edge.child) fresh
          → ((oid : Oid) → Contains named oid ↔ IsNamedThen names changes oid)
          → (((edge : Edge) → Contains edges edge → Contains doubts edge.child) → AreLeft doubts (IsStaying doubts named edges) dead)
          → AreDead before changes dead
      search_dead links entering edges named dead same enters is are_named left =
          let all = enter_doubts links entering edges same enters is in
          doubts_dead before changes between lost fresh rooted fits overlay doubts named edges in_doubt
          (subst (λ (l : List (List ℕ × Oid)). (oid : Oid) → Contains named oid ↔ IsNamedThen l changes oid) (sym named_so) are_named)
          all dead (left (λ edge at. ((all.exact edge).0 at).1))

ascend_apart : (oids : List Oid) → AllPairs (λ a b. a.0 < b.0) oids → AllPairs (λ a b. a ≢ b) oids
ascend_apart oids ascend = λ i j d below within same. omega (arith, ascend i j d below within, ap (λ (o : Oid). o.0) same)

pub reads_are_within_twice : ReadsAreWithinTwice
reads_are_within_twice before changes between old now reads =
    let both = λ (oid : Oid). out_reads between oid + in_reads between oid in
    IsSpent-wider (IsBelow before changes between) (IsInDoubt before changes between) both (λ oid. 2 * link_reads between oid) old now
    (λ oid below. inl below) (λ oid. omega arith)
    (IsSpent-exact (IsBelow before changes between) both reads.below old now (ascend_apart reads.below reads.exact.ascending)
    (All-from_members (IsBelow before changes between) reads.below (λ oid at. (reads.exact.exact oid).0 at)) reads.counted)
