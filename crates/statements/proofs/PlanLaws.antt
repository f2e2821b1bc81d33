-- What the guide tells of a bound select: the same as the edges, since its ranges start at names; and never more objects
-- than there are.
use Rattle.std.proofs.Common.{◌≡◌, ◌≢◌, ℕ, ◌≤◌, ◌<◌, inl, inr, List, [], ◌∷◌, length, map, Option, All, sym, ap, subst, ◌∙◌, arith}
use Rattle.std.specs.List.{AllZip, Contains}
use Rattle.std.proofs.lemmas.List.{length-map}
use Rattle.std.proofs.lemmas.List.Elements.{All-nil, All-cons, All-head, All-contains}
use Rattle.lore_base.specs.Databases.{Database, IsLive, IsValid}
use Rattle.lore_base.specs.Paths.{PathTree, Reaches}
use Rattle.lore_base.specs.TargetSets.{ListsInOrder}
use Rattle.lore_base.proofs.NameLaws.{found_bound}
use Rattle.lore_base.proofs.TargetLaws.{ListsInOrder-same}
use Rattle.list_laws.proofs.AscentLaws.{AllPairs-within}
use Rattle.list_laws.proofs.SumLaws.{length-within}
use Rattle.list_laws.proofs.MemberLaws.{Contains-map, All-from_members}
use Rattle.list_laws.proofs.PlaceLaws.{Contains-from_place}
use Rattle.dataguide.specs.Guides.{GuideGraph, StandsFor, sets_of}
use Rattle.guide_query.specs.GuideReaches.{GuideOver, TellsReached, TellsOf}
use Rattle.lore_store.specs.Stores.{IsGuided}
use Rattle.lorel_trees.specs.Trees.{SelectTree}
use Rattle.lorel_ranges.specs.Places.{Place}
use Rattle.lorel_ranges.specs.Ranges.{PlacedRange}
use Rattle.lorel_bound.specs.Bound.{RangeTree, BoundTree}
use Rattle.lorel_bind.specs.Bindings.{IsStartOfPlace, IsBoundRange, IsBinding}
use Rattle.lorel_bound.specs.Plans.{IsChain}
use Rattle.index_traits.specs.Entries.{AreValueEntries}
use Rattle.planner.specs.Choices.{AreCounts}
use Rattle.statements.specs.Types.{Oid, Edge, Value, ValueEntry, Start}
use Rattle.statements.specs.Types.starts
use Rattle.statements.specs.Plans.{AreCountsOver}
use Rattle.statements.specs.inside.Starts.{IsNamedStart, HasNamedStarts}
use Rattle.statements.proofs.LiveRowLaws.{walk_live}

-- ---- ranges start at names
start_named : (names : List (List ℕ × Oid)) (fused : List PlacedRange) (place : Place) (start : Start) → IsStartOfPlace names fused place start
    → IsNamedStart names start
start_named names fused place (starts.Named oid) h = (h.0, found_bound names h.0 oid h.2)
start_named names fused place (starts.Slot slot) h = tt

ranges_named : (names : List (List ℕ × Oid)) (fused ranges : List PlacedRange) (bound : List RangeTree)
    → AllZip (IsBoundRange names fused) ranges bound → All (λ range. IsNamedStart names range.start) bound
ranges_named names fused [] [] zip = All-nil (λ (range : RangeTree). IsNamedStart names range.start)
ranges_named names fused [] (first ∷ others) zip = absurd zip
ranges_named names fused (range ∷ ranges) [] zip = absurd zip
ranges_named names fused (range ∷ ranges) (first ∷ others) zip =
    All-cons (λ (other : RangeTree). IsNamedStart names other.start) first others
    (start_named names fused range.start first.start zip.0.start) (ranges_named names fused ranges others zip.1)

pub named_starts : (names : List (List ℕ × Oid)) (query : SelectTree) (bound : BoundTree) → IsBinding names query bound → HasNamedStarts names bound
named_starts names query bound binds = ranges_named names binds.fused binds.fused bound.ranges binds.ranges

chain_named : (names : List (List ℕ × Oid)) (ranges : List RangeTree) (named : Oid) → IsChain named ranges
    → All (λ range. IsNamedStart names range.start) ranges → (name : List ℕ) × Contains names (name, named)
chain_named names [] named chain all = absurd chain
chain_named names (first ∷ others) named chain all =
    subst (IsNamedStart names) chain.0 (All-head (λ (range : RangeTree). IsNamedStart names range.start) first others all)

-- ---- the guide of a database tells of its names along its edges
pub guide_tells : (db : Database) (guide : GuideGraph) (told : GuideOver) (names : List (List ℕ × Oid)) → names ≡ db.graph.names
    → {own : GuideGraph} → guide ≡ own → IsGuided db.graph own → ((edges : List Edge) → StandsFor guide names edges → TellsOf told names edges)
    → TellsOf told db.graph.names db.graph.edges
guide_tells db guide told names same_names same guided tells =
    let own = subst (IsGuided db.graph) (sym same) guided in
    subst (λ (table : List (List ℕ × Oid)). StandsFor guide table db.graph.edges → TellsOf told table db.graph.edges) same_names (tells db.graph.edges) own.stands

-- ---- what is counted by the guide is counted along the edges
module _ (labels : List (List ℕ)) (entries : List ValueEntry) (told : GuideOver) (names : List (List ℕ × Oid)) (edges : List Edge)
    (tells : TellsOf told names edges) (bound : BoundTree) (starts_named : HasNamedStarts names bound) where
  pub counts_told : (candidates found : Option ℕ) → AreCounts labels entries (TellsReached told) bound candidates found
      → AreCounts labels entries (Reaches told.labels edges) bound candidates found
  counts_told candidates found (inr none) = inr none
  counts_told candidates found (inl are) =
      let name = chain_named names bound.ranges are.named are.can.chain starts_named in
      let given = are.reached in
      inl (record {
        named = are.named;
        probe = are.probe;
        can = are.can;
        label = are.label;
        labelled = are.labelled;
        asked = are.asked;
        reached = (
          given.0,
          given.1,
          (
            given.2.0,
            ListsInOrder-same _ _ given.2.0 (λ oid. tells name.0 are.named name.1 _ oid) given.2.1,
            given.2.2,
          ),
        );
      })

-- ---- the guide tells of live objects alone
module _ (db : Database) (valid : IsValid db) (told : GuideOver) (stands : StandsFor told.guide db.graph.names db.graph.edges) where
  told_live : (path : PathTree) (named oid : Oid) → TellsReached told path named oid → IsLive db.graph.objects oid
  told_live path named oid reached =
      let set = reached.member.0 in
      let led = (stands.nodes.exact set).0 (Contains-from_place (sets_of told.guide.nodes) reached.last.0 set reached.member.1) in
      let walked = (led.1.target.exact oid).0 reached.member.2 in
      walk_live db.graph valid.restorable.rooted.well_formed led.1.start
      (All-contains (λ (e : List ℕ × Oid). IsLive db.graph.objects e.1) db.graph.names (led.0.name, led.1.start) valid.restorable.rooted.well_formed.names_live led.1.named)
      led.0.word oid walked

  -- so no path tells more objects than there are
  pub few_told : (path : PathTree) (named : Oid) (oids : List Oid) → ListsInOrder (TellsReached told path named) oids
      → length oids ≤ length db.graph.objects
  few_told path named oids lists =
      let live : All (Contains (map (λ (object : Oid × Value). object.0) db.graph.objects)) oids =
      All-from_members (Contains (map (λ (object : Oid × Value). object.0) db.graph.objects)) oids (λ oid there.
      let own = told_live path named oid ((lists.exact oid).0 there) in
      Contains-map (λ (object : Oid × Value). object.0) db.graph.objects (oid, own.0) own.1) in
      let fits = length-within oids (map (λ (object : Oid × Value). object.0) db.graph.objects)
      (AllPairs-within (λ (a b : Oid). a.0 < b.0) (λ (a b : Oid). a ≢ b) oids
      (λ a b first second less same. let number = ap (λ (o : Oid). o.0) same in omega (arith, less, number)) lists.ascending)
      live in
      omega (arith, fits, length-map db.graph.objects (λ (object : Oid × Value). object.0))

-- ---- what is counted over a database
module _ (db : Database) (valid : IsValid db) (bound : BoundTree) (starts_named : HasNamedStarts db.graph.names bound) (told : GuideOver)
    (tells : TellsOf told db.graph.names db.graph.edges) (entries : List ValueEntry) (are : AreValueEntries db.graph.objects db.graph.edges entries) where
  pub counts_over : (labels : List (List ℕ)) → labels ≡ db.labels → told.labels ≡ labels → (candidates found : Option ℕ)
      → AreCounts labels entries (TellsReached told) bound candidates found → AreCountsOver db bound candidates found
  counts_over labels texts read candidates found counted =
      let along = counts_told labels entries told db.graph.names db.graph.edges tells bound starts_named candidates found counted in
      record {
        apart = valid.restorable.labels_distinct;
        entries = entries;
        are_entries = are;
        counted =
            subst (λ (l : List (List ℕ)). AreCounts l entries (Reaches db.labels db.graph.edges) bound candidates found) texts
            (subst (λ (l : List (List ℕ)). AreCounts labels entries (Reaches l db.graph.edges) bound candidates found) (read ∙ texts) along);
      }
