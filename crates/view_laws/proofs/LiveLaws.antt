-- What a valid database's paths lead to from live objects is live, and so is what a valuation gives.
use Rattle.std.proofs.Common.{◌≡◌, ℕ, inl, inr, List, [], ◌∷◌, ◌++◌, Some, All, sym, ap, subst, append-nil, append_assoc}
use Rattle.std.specs.List.{Contains}
use Rattle.std.proofs.lemmas.List.Elements.{All-head, All-tail, All-contains, Contains-push_cases}
use Rattle.view_laws.specs.Types.{Oid, Label}
use Rattle.lore_base.specs.Names.{object_of}
use Rattle.lore_base.specs.Walks.{Walk, edge_of}
use Rattle.lore_base.specs.Databases.{Database, IsLive, IsLinked, IsValid}
use Rattle.lore_base.specs.Paths.{PathTree}
use Rattle.lorel_ranges.specs.Places.{named, Place, at_root}
use Rattle.lorel_ranges.specs.Ranges.{PlacedRange, places}
use Rattle.lorel_bind.specs.Answers.{Leads}
use Rattle.lorel_ranges.specs.inside.Orders.{IsFound, AreOrdered}
use Rattle.lore_base.proofs.MemberLaws.{Contains-none}
use Rattle.lore_base.proofs.NameLaws.{found_bound}
use Rattle.lorel_bind.proofs.RootLaws.{IsBoundName}

module _ (db : Database) (valid : IsValid db) where
  pub name_live : (name : List ℕ) (oid : Oid) → object_of db.graph.names name ≡ Some oid → IsLive db.graph.objects oid
  name_live name oid is =
      All-contains (λ (entry : List ℕ × Oid). IsLive db.graph.objects entry.1) db.graph.names (name, oid) valid.restorable.rooted.well_formed.names_live
      (found_bound db.graph.names name oid is)

  walk_live : (x : Oid) (word : List Label) (y : Oid) → Walk db.graph.edges x word y → IsLive db.graph.objects x → IsLive db.graph.objects y
  walk_live x [] y same live = subst (IsLive db.graph.objects) same live
  walk_live x (label ∷ word) y h live =
      walk_live h.0 word y h.2
      (All-contains (IsLinked db.graph.objects) db.graph.edges (edge_of x label h.0) valid.restorable.rooted.well_formed.edges_linked h.1).child

  pub led_live : (parts : List PathTree) (x y : Oid) → Leads db parts x y → IsLive db.graph.objects x → IsLive db.graph.objects y
  led_live parts x y led live = walk_live x led.0 y led.2 live

  -- ---- valuations
  module _ (at : Place → Oid) (named_at : (name : List ℕ) (oid : Oid) → object_of db.graph.names name ≡ Some oid → at (at_root (named name)) ≡ oid) where
    -- a place that is a bound name, or among live ones, has a live object
    pub found_live : (earlier : List Place) (place : Place) → IsFound earlier place → IsBoundName db.graph.names place.root
        → ((other : Place) → Contains earlier other → IsLive db.graph.objects (at other)) → IsLive db.graph.objects (at place)
    found_live earlier place (inr there) bound live = live place there
    found_live earlier place (inl found) bound live =
        let own = bound found.0 (ap (λ (p : Place). p.root) found.1) in
        subst (λ (p : Place). IsLive db.graph.objects (at p)) (sym found.1)
        (subst (IsLive db.graph.objects) (sym (named_at found.0 own.0 own.1)) (name_live found.0 own.0 own.1))

    all_live : (earlier : List Place) (ranges : List PlacedRange) → AreOrdered earlier ranges → All (λ range. IsBoundName db.graph.names range.start.root) ranges
        → All (λ range. Leads db range.parts (at range.start) (at range.place)) ranges
        → ((other : Place) → Contains earlier other → IsLive db.graph.objects (at other))
        → (place : Place) → Contains (earlier ++ places ranges) place → IsLive db.graph.objects (at place)
    all_live earlier [] ordered bound reached live place there = live place (subst (λ (ps : List Place). Contains ps place) (append-nil earlier) there)
    all_live earlier (range ∷ ranges) ordered bound reached live place there =
        let own = led_live range.parts (at range.start) (at range.place)
        (All-head (λ (r : PlacedRange). Leads db r.parts (at r.start) (at r.place)) range ranges reached)
        (found_live earlier range.start ordered.0.found (All-head (λ (r : PlacedRange). IsBoundName db.graph.names r.start.root) range ranges bound) live) in
        all_live (earlier ++ range.place ∷ []) ranges ordered.1 (All-tail (λ (r : PlacedRange). IsBoundName db.graph.names r.start.root) range ranges bound)
        (All-tail (λ (r : PlacedRange). Leads db r.parts (at r.start) (at r.place)) range ranges reached)
        (λ other among. elim (Contains-push_cases earlier range.place other among) [
          | inl before ↦ live other before
          | inr same ↦ subst (λ (p : Place). IsLive db.graph.objects (at p)) same own
        ]) place (subst (λ (ps : List Place). Contains ps place) (sym (append_assoc earlier (range.place ∷ []) (places ranges))) there)

    -- the places of ranges in order have live objects
    pub places_live : (ranges : List PlacedRange) → AreOrdered [] ranges → All (λ range. IsBoundName db.graph.names range.start.root) ranges
        → All (λ range. Leads db range.parts (at range.start) (at range.place)) ranges
        → (place : Place) → Contains (places ranges) place → IsLive db.graph.objects (at place)
    places_live ranges ordered bound reached place there =
        all_live [] ranges ordered bound reached (λ other none. absurd (Contains-none other none)) place there
