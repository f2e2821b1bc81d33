-- The rows of a select are rows of live objects: each is reached from a name. Those of a path have one cell, those of two
-- paths two.
use Rattle.std.proofs.Common.{◌≡◌, ◌≢◌, inl, inr, ℕ, List, [], ◌∷◌, ◌++◌, map, All, AllPairs, sym, ap, subst, ◌∙◌, append_assoc, append-nil, arith}
use Rattle.std.specs.List.{Contains}
use Rattle.std.specs.Prelude.{IfSome}
use Rattle.std.specs.declared.cmp.Ordering.TheVariants.{Less}
use Rattle.std.proofs.lemmas.List.Elements.{All-head, All-tail, All-map, All-contains, Contains-push_cases}
use Rattle.std.proofs.lemmas.List.Kept.{AllPairs-cons}
use Rattle.lore_base.specs.Walks.{Walk, edge_of}
use Rattle.lore_base.specs.Databases.{OemGraph, Database, IsLive, IsLinked, IsWellFormed, IsValid}
use Rattle.lore_base.proofs.NameLaws.{found_bound}
use Rattle.lore_base.proofs.MemberLaws.{Contains-none, Contains-head, Contains-tail}
use Rattle.lore_base.proofs.ListLaws.{AllPairs-head, AllPairs-tail}
use Rattle.lorel_trees.specs.Trees.{RootedTree, TailTree, SelectTree}
use Rattle.lorel_trees.specs.UpdateRows.{target_select, pair_select}
use Rattle.lorel_ranges.specs.Places.{Place, scope_of, place_of, cell_places}
use Rattle.lorel_ranges.specs.Ranges.{PlacedRange, places, ArePlain}
use Rattle.lorel_bind.specs.Answers.{Leads, IsValuation, IsRow}
use Rattle.lorel_bound.specs.CellOrder.{row_cmp, rows_total}
use Rattle.lorel_ranges.specs.Texts.{text_places, ranged_identifiers}
use Rattle.lorel_bind.specs.Refusals.{StartsNowhere, HasUnknownName, HasUnknownVariable}
use Rattle.lorel_ranges.specs.inside.Orders.{AreOrdered}
use Rattle.lorel_ranges.proofs.PlainLaws.{plain_ordered}
use Rattle.lorel_bind.proofs.RootLaws.{IsBoundName, IsKnown, known_found, names_bound, plain_roots, cells_known}
use Rattle.lore_base.proofs.ToldLaws.{told_member, told_bytes}
use Rattle.list_laws.proofs.AscentLaws.{never_less}
use Rattle.list_laws.proofs.MemberLaws.{All-from_members, Contains-from_map, Contains-map}
use Rattle.updates.specs.Effects.{Pair, targets}
use Rattle.statements.specs.Types.{Oid, Label, Cell}
use Rattle.statements.specs.Effects.{object_cells, pair_of}
use Rattle.statements.proofs.ObjectRowLaws.{one_list, shown_objects}

-- where no path starts at an unknown name or variable, none starts nowhere
pub starts_somewhere : (names : List (List ℕ × Oid)) (query : SelectTree) → (HasUnknownName names query → ⊥) → (HasUnknownVariable names query → ⊥)
    → (start : List ℕ) → StartsNowhere names query start → ⊥
starts_somewhere names query known ranged start nowhere = elim (told_member told_bytes (ranged_identifiers query) start) [
  | inl there ↦ ranged (inl (start, nowhere, there))
  | inr absent ↦ known (start, nowhere, absent)
]

-- what is walked to from a live object is live
pub walk_live : (graph : OemGraph) → IsWellFormed graph → (start : Oid) → IsLive graph.objects start → (word : List Label) (oid : Oid)
    → Walk graph.edges start word oid → IsLive graph.objects oid
walk_live graph formed start live [] oid same = subst (IsLive graph.objects) same live
walk_live graph formed start live (label ∷ word) oid walk =
    walk_live graph formed walk.0
    (All-contains (IsLinked graph.objects) graph.edges (edge_of start label walk.0) formed.edges_linked walk.1).child word oid walk.2

module _ (db : Database) (valid : IsValid db) (query : SelectTree) (somewhere : (start : List ℕ) → StartsNowhere db.graph.names query start → ⊥) where
  bound : All (λ place. IsBoundName db.graph.names place.root) (text_places query)
  bound = names_bound db.graph.names query somewhere

  module _ (plain : List PlacedRange) (at : Place → Oid) (valuation : IsValuation db plain at) where
    place_live : (earlier : List Place) → ((place : Place) → Contains earlier place → IsLive db.graph.objects (at place)) → (place : Place)
        → IsKnown db.graph.names earlier place → IsLive db.graph.objects (at place)
    place_live earlier live place (inr there) = live place there
    place_live earlier live place (inl h) =
        let here : at place ≡ h.1 = ap at h.2 ∙ valuation.named h.0 h.1 h.3 in
        let entry = found_bound db.graph.names h.0 h.1 h.3 in
        subst (IsLive db.graph.objects) (sym here)
        (All-contains (λ (e : List ℕ × Oid). IsLive db.graph.objects e.1) db.graph.names (h.0, h.1) valid.restorable.rooted.well_formed.names_live entry)

    ranges_live : (earlier : List Place) (ranges : List PlacedRange) → AreOrdered earlier ranges
        → All (λ range. IsBoundName db.graph.names range.start.root) ranges
        → All (λ range. Leads db range.parts (at range.start) (at range.place)) ranges
        → ((place : Place) → Contains earlier place → IsLive db.graph.objects (at place))
        → (place : Place) → Contains (earlier ++ places ranges) place → IsLive db.graph.objects (at place)
    ranges_live earlier [] ordered names reached live place there =
        live place (subst (λ (l : List Place). Contains l place) (append-nil earlier) there)
    ranges_live earlier (range ∷ others) ordered names reached live place there =
        let known = known_found db.graph.names earlier range.start ordered.0.found (All-head (λ (r : PlacedRange). IsBoundName db.graph.names r.start.root) range others names) in
        let leads = All-head (λ (r : PlacedRange). Leads db r.parts (at r.start) (at r.place)) range others reached in
        let own = walk_live db.graph valid.restorable.rooted.well_formed (at range.start) (place_live earlier live range.start known) leads.0 (at range.place) leads.2 in
        let all : (earlier ++ range.place ∷ []) ++ places others ≡ earlier ++ places (range ∷ others) = append_assoc earlier (range.place ∷ []) (places others) in
        ranges_live (earlier ++ range.place ∷ []) others ordered.1
        (All-tail (λ (r : PlacedRange). IsBoundName db.graph.names r.start.root) range others names)
        (All-tail (λ (r : PlacedRange). Leads db r.parts (at r.start) (at r.place)) range others reached)
        (one_more earlier live range.place own) place (subst (λ (l : List Place). Contains l place) (sym all) there)
      where
        one_more : (earlier : List Place) → ((place : Place) → Contains earlier place → IsLive db.graph.objects (at place)) → (next : Place)
            → IsLive db.graph.objects (at next) → (place : Place) → Contains (earlier ++ next ∷ []) place → IsLive db.graph.objects (at place)
        one_more earlier live next own place there = elim (Contains-push_cases earlier next place there) [
          | inl before ↦ live place before
          | inr same ↦ subst (λ (p : Place). IsLive db.graph.objects (at p)) same own
        ]

    -- each cell shows a live object
    pub cells_live : ArePlain query plain → All (λ place. IsLive db.graph.objects (at place)) (cell_places query)
    cells_live gathered = All-from_members (λ (place : Place). IsLive db.graph.objects (at place)) (cell_places query) (λ place there.
        place_live (places plain)
        (ranges_live [] plain (plain_ordered query plain gathered) (plain_roots (IsBoundName db.graph.names) query plain gathered bound) valuation.reached
        (λ p none. absurd (Contains-none p none))) place (cells_known db.graph.names query plain gathered bound place there))

-- ---- rows of one path
-- the row has one object, which is live
pub record IsOneCell (db : Database) (row : List Oid) : Type 0 where
  pub oid : Oid
  pub is : row ≡ oid ∷ []
  pub live : IsLive db.graph.objects oid

-- the row has two objects, which are live
pub record AreTwoCells (db : Database) (row : List Oid) : Type 0 where
  pub first : Oid
  pub second : Oid
  pub is : row ≡ first ∷ second ∷ []
  pub first_live : IsLive db.graph.objects first
  pub second_live : IsLive db.graph.objects second

module _ (db : Database) (valid : IsValid db) (target : RootedTree) (tail : TailTree) where
  pub one_cell : ((start : List ℕ) → StartsNowhere db.graph.names (target_select target tail) start → ⊥) → (row : List Oid)
      → IsRow db (target_select target tail) (object_cells row) → IsOneCell db row
  one_cell somewhere row is =
      let over = is.2 in
      let place = place_of (scope_of [] tail.ranges) target in
      let shown = shown_objects db is.0 over.at (place ∷ []) (object_cells row) over.shown in
      let live = cells_live db valid (target_select target tail) somewhere is.0 over.at over.valuation is.1 in
      record {
        oid = over.at place;
        is = one_list row (over.at place ∷ []) shown;
        live = All-head (λ (p : Place). IsLive db.graph.objects (over.at p)) place [] live;
      }

  pub two_cells : (right : RootedTree) → ((start : List ℕ) → StartsNowhere db.graph.names (pair_select target right tail) start → ⊥) → (row : List Oid)
      → IsRow db (pair_select target right tail) (object_cells row) → AreTwoCells db row
  two_cells right somewhere row is =
      let over = is.2 in
      let first = place_of (scope_of [] tail.ranges) target in
      let second = place_of (scope_of [] tail.ranges) right in
      let shown = shown_objects db is.0 over.at (first ∷ second ∷ []) (object_cells row) over.shown in
      let live = cells_live db valid (pair_select target right tail) somewhere is.0 over.at over.valuation is.1 in
      record {
        first = over.at first;
        second = over.at second;
        is = one_list row (over.at first ∷ over.at second ∷ []) shown;
        first_live = All-head (λ (p : Place). IsLive db.graph.objects (over.at p)) first (second ∷ []) live;
        second_live = All-head (λ (p : Place). IsLive db.graph.objects (over.at p)) second []
            (All-tail (λ (p : Place). IsLive db.graph.objects (over.at p)) first (second ∷ []) live);
      }

-- ---- rows as pairs
abbrev LiveTarget : Database → Pair → Type 0
LiveTarget db row = IsLive db.graph.objects row.0

abbrev LiveRight : Database → Pair → Type 0
LiveRight db row = IfSome row.1 (IsLive db.graph.objects)

module _ (db : Database) (rows : List (List Oid)) where
  pub one_targets : ((row : List Oid) → Contains rows row → IsOneCell db row) → All (LiveTarget db) (map pair_of rows)
  one_targets each = All-map (LiveTarget db) pair_of rows (All-from_members (λ row. LiveTarget db (pair_of row)) rows (λ row there.
      let cell = each row there in subst (λ (r : List Oid). LiveTarget db (pair_of r)) (sym cell.is) cell.live))

  pub two_targets : ((row : List Oid) → Contains rows row → AreTwoCells db row) → All (LiveTarget db) (map pair_of rows)
  two_targets each = All-map (LiveTarget db) pair_of rows (All-from_members (λ row. LiveTarget db (pair_of row)) rows (λ row there.
      let cells = each row there in subst (λ (r : List Oid). LiveTarget db (pair_of r)) (sym cells.is) cells.first_live))

  pub two_rights : ((row : List Oid) → Contains rows row → AreTwoCells db row) → All (LiveRight db) (map pair_of rows)
  two_rights each = All-map (LiveRight db) pair_of rows (All-from_members (λ row. LiveRight db (pair_of row)) rows (λ row there.
      let cells = each row there in subst (λ (r : List Oid). LiveRight db (pair_of r)) (sym cells.is) cells.second_live))

-- the targets are live objects, as a list
pub live_targets : (db : Database) (rows : List Pair) → All (LiveTarget db) rows → All (IsLive db.graph.objects) (targets rows)
live_targets db rows live = All-map (IsLive db.graph.objects) (λ (row : Pair). row.0) rows live

-- rows of one cell that ascend have distinct objects
pub targets_once : (db : Database) (rows : List (List Oid)) → AllPairs (λ a b. row_cmp a b ≡ Less) (map object_cells rows)
    → ((row : List Oid) → Contains rows row → IsOneCell db row) → AllPairs (λ a b. a ≢ b) (targets (map pair_of rows))
targets_once db [] ascend each = λ i j d low within. absurd (omega (arith, within))
targets_once db (row ∷ rows) ascend each =
    AllPairs-cons (λ (a b : Oid). a ≢ b) ((pair_of row).0) (targets (map pair_of rows))
    (All-from_members (λ (oid : Oid). (pair_of row).0 ≢ oid) (targets (map pair_of rows)) (apart row rows ascend each))
    (targets_once db rows (AllPairs-tail (λ (a b : List Cell). row_cmp a b ≡ Less) (object_cells row) (map object_cells rows) ascend)
    (λ other there. each other (Contains-tail row rows other there)))
  where
    apart : (row : List Oid) (rows : List (List Oid)) → AllPairs (λ a b. row_cmp a b ≡ Less) (map object_cells (row ∷ rows))
        → ((r : List Oid) → Contains (row ∷ rows) r → IsOneCell db r) → (oid : Oid) → Contains (targets (map pair_of rows)) oid → (pair_of row).0 ≢ oid
    apart row rows ascend each oid there same =
        let pair = Contains-from_map (λ (p : Pair). p.0) (map pair_of rows) oid there in
        let other = Contains-from_map pair_of rows pair.0 pair.1 in
        let below = AllPairs-head (λ (a b : List Cell). row_cmp a b ≡ Less) (object_cells row) (map object_cells rows) ascend (object_cells other.0)
        (Contains-map object_cells rows other.0 other.1) in
        let first = each row (Contains-head row rows) in
        let second = each other.0 (Contains-tail row rows other.0 other.1) in
        let left : (pair_of row).0 ≡ first.oid = ap (λ (r : List Oid). (pair_of r).0) first.is in
        let right : oid ≡ second.oid = sym pair.2 ∙ ap (λ (p : Pair). p.0) (sym other.2) ∙ ap (λ (r : List Oid). (pair_of r).0) second.is in
        let is : other.0 ≡ row = second.is ∙ ap (λ (o : Oid). o ∷ []) (sym (sym left ∙ same ∙ right)) ∙ sym first.is in
        never_less row_cmp rows_total (object_cells row) (subst (λ (r : List Oid). row_cmp (object_cells row) (object_cells r) ≡ Less) is below)
