-- Where the paths of a select start: no start of one that is accepted is lost, and some path starts at a name.
use Rattle.std.proofs.Common.{◌≡◌, ◌≢◌, inl, inr, ℕ, ◌<◌, ◌≤◌, List, [], ◌∷◌, ◌++◌, Option, refl, arith}
use Rattle.std.specs.List.{Contains, flat_map}
use Rattle.std.proofs.lemmas.List.Elements.{All-contains, Contains-append_left}
use Rattle.view_laws.specs.Types.{Oid, Value}
use Rattle.lore_base.specs.Databases.{Database, IsLive}
use Rattle.lore_base.proofs.MemberLaws.{Contains-head}
use Rattle.lore_base.proofs.NameLaws.{found_bound}
use Rattle.lore_base.proofs.ToldLaws.{told_member, told_bytes}
use Rattle.lorel_trees.specs.Trees.{ItemTree, FromTree, CondTree, SelectTree}
use Rattle.lorel_trees.specs.Trees as t
use Rattle.lorel_ranges.specs.Places.{named, Place, place_of, scope_behind, item_places, cell_places}
use Rattle.lorel_ranges.specs.Conditions.{cond_places}
use Rattle.lorel_ranges.specs.Texts.{from_places, text_places, ranged_identifiers}
use Rattle.lorel_bind.specs.Refusals.{HasUnknownPathVariable, IsAccepted}
use Rattle.lorel_bind.proofs.RootLaws.{IsBoundName, names_bound}
use Rattle.view_laws.specs.Laws.{HasLostStart, AcceptedNeedsObject}

-- no start of a select that is accepted is lost
pub none_lost : (db : Database) (query : SelectTree) → IsAccepted db.graph.names query → HasLostStart db query → ⊥
none_lost db query accepted (start, nowhere) = elim (told_member told_bytes (ranged_identifiers query) start) [
  | inl there ↦ accepted.1.0 (inl (start, nowhere, there))
  | inr absent ↦ accepted.0 (start, nowhere, absent)
]

-- ---- some path starts at a name
abbrev select_of : List ItemTree → List FromTree → Option CondTree → SelectTree
select_of items ranges condition = record { items = items; tail = record { ranges = ranges; cond = condition } }

-- that of the first from item does, or where there is none that of the first item
some_named : (items : List ItemTree) (ranges : List FromTree) (condition : Option CondTree) → items ≢ []
    → (HasUnknownPathVariable (select_of items ranges condition) → ⊥)
    → (place : Place) × Contains (text_places (select_of items ranges condition)) place × ((name : List ℕ) × (place.root ≡ named name))
some_named items (range ∷ ranges) condition some known =
    let query = select_of items (range ∷ ranges) condition in
    let place = place_of [] range.path in
    let others = from_places (scope_behind range.variable []) ranges in (
      place,
      Contains-append_left (place ∷ others) (cell_places query ++ cond_places query) place (Contains-head place others),
      (range.path.start, refl),
    )
some_named [] [] condition some known = absurd (some refl)
some_named (t.object path ∷ items) [] condition some known =
    let query = select_of (t.object path ∷ items) [] condition in
    let place = place_of [] path in
    let others = flat_map (item_places []) items in (
      place,
      Contains-append_left (place ∷ others) (cond_places query) place (Contains-head place others),
      (path.start, refl),
    )
some_named (t.path_of variable ∷ items) [] condition some known =
    absurd (known (variable, Contains-head (t.path_of variable) items, refl))

pub accepted_needs_object : AcceptedNeedsObject
accepted_needs_object db query valid some accepted =
    let graph = db.graph in
    let formed = valid.restorable.rooted.well_formed in
    let start = some_named query.items query.tail.ranges query.tail.cond some (λ unknown. accepted.1.0 (inr unknown)) in
    let bound = names_bound graph.names query (λ own nowhere. none_lost db query accepted (own, nowhere)) in
    let own = All-contains (λ (place : Place). IsBoundName graph.names place.root) (text_places query) start.0 bound start.1 start.2.0 start.2.1 in
    let live = All-contains (λ (entry : List ℕ × Oid). IsLive graph.objects entry.1) graph.names (start.2.0, own.0) formed.names_live
    (found_bound graph.names start.2.0 own.0 own.1) in
    let numbered = All-contains (λ (object : Oid × Value). (1 ≤ object.0.0) × (object.0.0 < graph.next)) graph.objects (own.0, live.0)
    formed.ordered.objects_numbered live.1 in
    omega (arith, numbered.0, numbered.1)
