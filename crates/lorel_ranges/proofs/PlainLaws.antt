-- The plain ranges of a select stand in order.
use Rattle.std.proofs.Common.{◌≡◌, ℕ, ◌⊎◌, inl, inr, List, [], ◌∷◌, ◌++◌, Option, Some, None, All, subst, refl, sym, ap, ◌∙◌, append_assoc}
use Rattle.std.specs.List.{Contains, flat_map}
use Rattle.std.specs.Str.{bytes_eq}
use Rattle.std.proofs.lemmas.Bool.{cond_both}
use Rattle.std.proofs.lemmas.List.{append-nil, map-append}
use Rattle.std.proofs.lemmas.List.Elements.{All-nil, All-cons, All-head, All-tail, All-contains, Contains-append_left, Contains-append_right, Contains-push, Contains-append_cases}
use Rattle.lore_base.specs.Paths.{PathTree}
use Rattle.lore_base.proofs.MemberLaws.{Contains-none, Contains-head, Contains-tail, Contains-cases, Contains-same}
use Rattle.lorel_trees.specs.Trees.{FromTree, ItemTree, SelectTree}
use Rattle.lorel_trees.specs.Trees as t
use Rattle.lorel_ranges.specs.Places.{Root, ranged, quantified, Place, at_root, beyond, Scope, root_of, place_of, scope_behind, scope_of, item_places, cell_places}
use Rattle.lorel_ranges.specs.Ranges.{PlacedRange, prefix_ranges, path_ranges, from_item_ranges, from_ranges, made_ranges, places, AreGathered, ArePlain}
use Rattle.lorel_ranges.specs.inside.Orders.{IsOpen, IsFound, AreOrdered}
use Rattle.lorel_ranges.proofs.OrderLaws.{IsFound-wider, AreOrdered-push}

-- ---- what a select makes
-- a range may have this start and this place
pub record IsFounded (earlier : List Place) (range : PlacedRange) : Type 0 where
  pub found : IsFound earlier range.start
  pub is_open : IsOpen range.place

abbrev pub AreFounded : List Place → List PlacedRange → Type 0
AreFounded earlier [] = Unit {0}
AreFounded earlier (range ∷ made) = IsFounded earlier range × AreFounded (earlier ++ range.place ∷ []) made

within_push : (earlier wider : List Place) (place : Place) → ((other : Place) → Contains earlier other → Contains wider other)
    → (other : Place) → Contains (earlier ++ place ∷ []) other → Contains (wider ++ place ∷ []) other
within_push earlier wider place within other at = elim (Contains-append_cases earlier (place ∷ []) other at) [
  | inl before ↦ Contains-append_left wider (place ∷ []) other (within other before)
  | inr last ↦ Contains-append_right wider (place ∷ []) other last
]

AreFounded-wider : (earlier wider : List Place) (made : List PlacedRange) → ((place : Place) → Contains earlier place → Contains wider place)
    → AreFounded earlier made → AreFounded wider made
AreFounded-wider earlier wider [] within founded = tt
AreFounded-wider earlier wider (range ∷ made) within founded = (
  record { found = IsFound-wider earlier wider range.start within founded.0.found; is_open = founded.0.is_open },
  AreFounded-wider (earlier ++ range.place ∷ []) (wider ++ range.place ∷ []) made (within_push earlier wider range.place within) founded.1,
)

AreFounded-append : (earlier : List Place) (made more : List PlacedRange) → AreFounded earlier made → AreFounded (earlier ++ places made) more
    → AreFounded earlier (made ++ more)
AreFounded-append earlier [] more first second = subst (λ (all : List Place). AreFounded all more) (append-nil earlier) second
AreFounded-append earlier (range ∷ made) more first second = (
  first.0,
  AreFounded-append (earlier ++ range.place ∷ []) made more first.1
      (subst (λ (all : List Place). AreFounded all more) (sym (append_assoc earlier (range.place ∷ []) (places made))) second),
)

-- a range of each place that is gathered stands in order
gathered_ordered : (seen : List Place) (earlier made ranges : List PlacedRange) → ((place : Place) → Contains seen place → Contains (places earlier) place)
    → AreOrdered [] earlier → AreFounded seen made → AreGathered earlier made ranges → AreOrdered [] ranges
gathered_ordered seen earlier [] ranges within ordered founded same = subst (λ (all : List PlacedRange). AreOrdered [] all) (sym same) ordered
gathered_ordered seen earlier (range ∷ made) ranges within ordered founded (inl there) =
    gathered_ordered (seen ++ range.place ∷ []) earlier made ranges
    (λ place at. elim (Contains-append_cases seen (range.place ∷ []) place at) [
      | inl before ↦ within place before
      | inr last ↦ elim (Contains-cases range.place [] place last) [
        | inl same ↦ Contains-same (places earlier) range.place place same there.0
        | inr none ↦ absurd (Contains-none place none)
      ]
    ]) ordered founded.1 there.1
gathered_ordered seen earlier (range ∷ made) ranges within ordered founded (inr absent) =
    let longer : places (earlier ++ range ∷ []) ≡ places earlier ++ range.place ∷ [] = map-append (λ (r : PlacedRange). r.place) earlier (range ∷ []) in
    gathered_ordered (seen ++ range.place ∷ []) (earlier ++ range ∷ []) made ranges
    (λ place at. subst (λ (all : List Place). Contains all place) (sym longer) (within_push seen (places earlier) range.place within place at))
    (AreOrdered-push [] earlier range ordered (record {
      found = IsFound-wider seen (places earlier) range.start within founded.0.found;
      is_open = founded.0.is_open;
      is_new = absent.0;
    })) founded.1 absent.1

-- ---- where paths start
-- a path may start here: at a name, or at a variable whose place is among these
pub record IsGround (earlier : List Place) (root : Root) : Type 0 where
  pub found : IsFound earlier (at_root root)
  pub unquantified : (depth : ℕ) → root ≡ quantified depth → ⊥

abbrev pub AreGround : List Place → Scope → Type 0
AreGround earlier scope = (start : List ℕ) → IsGround earlier (root_of scope start)

IsGround-wider : (earlier wider : List Place) (root : Root) → ((place : Place) → Contains earlier place → Contains wider place)
    → IsGround earlier root → IsGround wider root
IsGround-wider earlier wider root within ground =
    record { found = IsFound-wider earlier wider (at_root root) within ground.found; unquantified = ground.unquantified }

pub ground_names : (earlier : List Place) → AreGround earlier []
ground_names earlier start = record { found = inl (start, refl); unquantified = λ depth same. cc }

ground_variable : (earlier : List Place) (scope : Scope) (variable : List ℕ) → Contains earlier (at_root (ranged variable))
    → AreGround earlier scope → AreGround earlier ((variable, ranged variable) ∷ scope)
ground_variable earlier scope variable at ground start =
    cond_both (bytes_eq variable start) (ranged variable) (root_of scope start) (λ root. IsGround earlier root)
    (λ same. record { found = inr at; unquantified = λ depth is. cc }) (λ apart. ground start)

longer_than_none : (parts : List PathTree) (part : PathTree) → parts ++ part ∷ [] ≡ [] → ⊥
longer_than_none [] part same = cc
longer_than_none (first ∷ parts) part same = cc

prefix_founded : (earlier : List Place) (start : Place) (parts : List PathTree) → IsFound earlier start
    → ((depth : ℕ) → start.root ≡ quantified depth → ⊥) → AreFounded earlier (prefix_ranges start parts)
prefix_founded earlier start [] found unquantified = tt
prefix_founded earlier start (part ∷ parts) found unquantified = (
  record {
    found = found;
    is_open = record {
      unnamed = λ name. longer_than_none start.parts part (ap (λ (p : Place). p.parts) name.1);
      unquantified = unquantified;
    };
  },
  prefix_founded (earlier ++ beyond start (part ∷ []) ∷ []) (beyond start (part ∷ [])) parts
      (inr (Contains-push earlier (beyond start (part ∷ [])))) unquantified,
)

path_founded : (earlier : List Place) (place : Place) → IsGround earlier place.root → AreFounded earlier (path_ranges place)
path_founded earlier place ground = prefix_founded earlier (at_root place.root) place.parts ground.found ground.unquantified

paths_founded : (earlier : List Place) (paths : List Place) → All (λ path. IsGround earlier path.root) paths
    → AreFounded earlier (flat_map path_ranges paths)
paths_founded earlier [] ground = tt
paths_founded earlier (path ∷ paths) ground =
    AreFounded-append earlier (path_ranges path) (flat_map path_ranges paths)
    (path_founded earlier path (All-head (λ p. IsGround earlier p.root) path paths ground))
    (AreFounded-wider earlier (earlier ++ places (path_ranges path)) (flat_map path_ranges paths)
    (λ place at. Contains-append_left earlier (places (path_ranges path)) place at)
    (paths_founded earlier paths (All-tail (λ p. IsGround earlier p.root) path paths ground)))

-- ---- from items, and items
item_founded : (earlier : List Place) (scope : Scope) (variable : Option (List ℕ)) (path : t.RootedTree) → AreGround earlier scope
    → AreFounded earlier (from_item_ranges variable (place_of scope path))
    × AreGround (earlier ++ places (from_item_ranges variable (place_of scope path))) (scope_behind variable scope)
item_founded earlier scope None path ground = (
  path_founded earlier (place_of scope path) (ground path.start),
  λ start. IsGround-wider earlier (earlier ++ places (path_ranges (place_of scope path))) (root_of scope start)
      (λ place at. Contains-append_left earlier (places (path_ranges (place_of scope path))) place at) (ground start),
)
item_founded earlier scope (Some variable) path ground = (
  (
    record {
      found = (ground path.start).found;
      is_open = record { unnamed = λ name. (let root = ap (λ (p : Place). p.root) name.1 in cc); unquantified = λ depth same. cc };
    },
    tt,
  ),
  ground_variable (earlier ++ at_root (ranged variable) ∷ []) scope variable (Contains-push earlier (at_root (ranged variable)))
      (λ start. IsGround-wider earlier (earlier ++ at_root (ranged variable) ∷ []) (root_of scope start)
      (λ place at. Contains-append_left earlier (at_root (ranged variable) ∷ []) place at) (ground start)),
)

pub from_founded : (earlier : List Place) (scope : Scope) (items : List FromTree) → AreGround earlier scope
    → AreFounded earlier (from_ranges scope items) × AreGround (earlier ++ places (from_ranges scope items)) (scope_of scope items)
from_founded earlier scope [] ground = (tt, subst (λ (all : List Place). AreGround all scope) (sym (append-nil earlier)) ground)
from_founded earlier scope (item ∷ items) ground =
    let made = from_item_ranges item.variable (place_of scope item.path) in
    let rest = from_ranges (scope_behind item.variable scope) items in
    let first = item_founded earlier scope item.variable item.path ground in
    let later = from_founded (earlier ++ places made) (scope_behind item.variable scope) items first.1 in
    let all : (earlier ++ places made) ++ places rest ≡ earlier ++ places (made ++ rest) =
    append_assoc earlier (places made) (places rest) ∙ ap (λ (ps : List Place). earlier ++ ps) (sym (map-append (λ (r : PlacedRange). r.place) made rest)) in (
      AreFounded-append earlier made rest first.0 later.0,
      subst (λ (ps : List Place). AreGround ps (scope_of scope (item ∷ items))) all later.1,
    )

pub cells_ground : (earlier : List Place) (scope : Scope) (items : List ItemTree) → AreGround earlier scope
    → All (λ path. IsGround earlier path.root) (flat_map (item_places scope) items)
cells_ground earlier scope [] ground = All-nil (λ path. IsGround earlier path.root)
cells_ground earlier scope (t.object path ∷ items) ground =
    All-cons (λ p. IsGround earlier p.root) (place_of scope path) (flat_map (item_places scope) items) (ground path.start)
    (cells_ground earlier scope items ground)
cells_ground earlier scope (t.path_of variable ∷ items) ground = cells_ground earlier scope items ground

-- the ranges of each select stand in order: a start comes before what starts at it, and each place stands once
pub plain_ordered : (query : SelectTree) (plain : List PlacedRange) → ArePlain query plain → AreOrdered [] plain
plain_ordered query plain gathered =
    let first = from_founded [] [] query.tail.ranges (ground_names []) in
    let from = from_ranges [] query.tail.ranges in
    gathered_ordered [] [] (made_ranges query) plain (λ place at. absurd (Contains-none place at)) tt
    (AreFounded-append [] from (flat_map path_ranges (cell_places query)) first.0
    (paths_founded (places from) (cell_places query) (cells_ground (places from) (scope_of [] query.tail.ranges) query.items first.1)))
    gathered

-- ---- what is found among the plain ranges
gathered_within : (earlier made ranges : List PlacedRange) → AreGathered earlier made ranges → (place : Place)
    → Contains (places earlier ++ places made) place → Contains (places ranges) place
gathered_within earlier [] ranges same place at =
    subst (λ (all : List Place). Contains all place) (append-nil (places earlier) ∙ ap places (sym same)) at
gathered_within earlier (range ∷ made) ranges (inl there) place at = gathered_within earlier made ranges there.1 place
    (elim (Contains-append_cases (places earlier) (range.place ∷ places made) place at) [
      | inl before ↦ Contains-append_left (places earlier) (places made) place before
      | inr behind ↦ elim (Contains-cases range.place (places made) place behind) [
        | inl same ↦ Contains-append_left (places earlier) (places made) place (Contains-same (places earlier) range.place place same there.0)
        | inr later ↦ Contains-append_right (places earlier) (places made) place later
      ]
    ])
gathered_within earlier (range ∷ made) ranges (inr absent) place at =
    gathered_within (earlier ++ range ∷ []) made ranges absent.1 place
    (subst (λ (all : List Place). Contains all place)
    (sym (append_assoc (places earlier) (range.place ∷ []) (places made))
    ∙ ap (λ (all : List Place). all ++ places made) (sym (map-append (λ (r : PlacedRange). r.place) earlier (range ∷ [])))) at)

-- each range that is made is found
pub made_within : (query : SelectTree) (plain : List PlacedRange) → ArePlain query plain → (place : Place) → Contains (places (made_ranges query)) place
    → Contains (places plain) place
made_within query plain gathered place at = gathered_within [] (made_ranges query) plain gathered place at

-- behind all from items each identifier means a name or a variable that has a range
pub scope_found : (query : SelectTree) (plain : List PlacedRange) → ArePlain query plain → (start : List ℕ)
    → IsGround (places plain) (root_of (scope_of [] query.tail.ranges) start)
scope_found query plain gathered start =
    let from = from_ranges [] query.tail.ranges in
    let all : places (made_ranges query) ≡ places from ++ places (flat_map path_ranges (cell_places query)) =
    map-append (λ (r : PlacedRange). r.place) from (flat_map path_ranges (cell_places query)) in
    IsGround-wider (places from) (places plain) (root_of (scope_of [] query.tail.ranges) start)
    (λ place at. made_within query plain gathered place (subst (λ (ps : List Place). Contains ps place) (sym all)
    (Contains-append_left (places from) (places (flat_map path_ranges (cell_places query))) place at)))
    ((from_founded [] [] query.tail.ranges (ground_names [])).1 start)

-- a path with parts is the place of the last of its ranges
prefix_last : (start : Place) (parts : List PathTree) (part : PathTree) → Contains (places (prefix_ranges start (parts ++ part ∷ []))) (beyond start (parts ++ part ∷ []))
prefix_last start [] part = Contains-head (beyond start (part ∷ [])) []
prefix_last start (first ∷ parts) part =
    let whole : beyond (beyond start (first ∷ [])) (parts ++ part ∷ []) ≡ beyond start (first ∷ (parts ++ part ∷ [])) =
    (λ i. record { root = start.root; parts = append_assoc start.parts (first ∷ []) (parts ++ part ∷ []) i }) in
    Contains-tail (beyond start (first ∷ [])) (places (prefix_ranges (beyond start (first ∷ [])) (parts ++ part ∷ []))) (beyond start (first ∷ (parts ++ part ∷ [])))
    (subst (λ (p : Place). Contains (places (prefix_ranges (beyond start (first ∷ [])) (parts ++ part ∷ []))) p) whole
    (prefix_last (beyond start (first ∷ [])) parts part))

parts_last : (first : PathTree) (parts : List PathTree) → (front : List PathTree) × (last : PathTree) × (first ∷ parts ≡ front ++ last ∷ [])
parts_last first [] = ([], first, refl)
parts_last first (next ∷ parts) =
    let later = parts_last next parts in
    (first ∷ later.0, later.1, ap (λ (ps : List PathTree). first ∷ ps) later.2)

path_last : (place : Place) → (place ≡ at_root place.root) ⊎ Contains (places (path_ranges place)) place
path_last place = go place.root place.parts
  where
    go : (root : Root) (parts : List PathTree) → (record { root = root; parts = parts } ≡ at_root root)
        ⊎ Contains (places (prefix_ranges (at_root root) parts)) (record { root = root; parts = parts })
    go root [] = inl refl
    go root (first ∷ parts) =
        let split = parts_last first parts in
        inr (subst (λ (ps : List PathTree). Contains (places (prefix_ranges (at_root root) ps)) (record { root = root; parts = ps })) (sym split.2)
        (prefix_last (at_root root) split.0 split.1))

paths_within : (paths : List Place) (path place : Place) → Contains paths path → Contains (places (path_ranges path)) place
    → Contains (places (flat_map path_ranges paths)) place
paths_within [] path place at here = absurd (Contains-none path at)
paths_within (first ∷ paths) path place at here =
    let at_place = λ (r : PlacedRange). r.place in
    let all = map-append at_place (path_ranges first) (flat_map path_ranges paths) in
    subst (λ (ps : List Place). Contains ps place) (sym all) (elim (Contains-cases first paths path at) [
      | inl same ↦ Contains-append_left (places (path_ranges first)) (places (flat_map path_ranges paths)) place
          (subst (λ (p : Place). Contains (places (path_ranges p)) place) (sym same) here)
      | inr later ↦ Contains-append_right (places (path_ranges first)) (places (flat_map path_ranges paths)) place
          (paths_within paths path place later here)
    ])

-- each cell shows the object of a name or of a range
pub cell_found : (query : SelectTree) (plain : List PlacedRange) → ArePlain query plain → (cell : Place) → Contains (cell_places query) cell
    → IsFound (places plain) cell
cell_found query plain gathered cell at = elim (path_last cell) [
  | inl root ↦ subst (λ (p : Place). IsFound (places plain) p) (sym root) (ground.found)
  | inr parts ↦
      let from = from_ranges [] query.tail.ranges in
      let all = map-append (λ (r : PlacedRange). r.place) from (flat_map path_ranges (cell_places query)) in
      inr (made_within query plain gathered cell (subst (λ (ps : List Place). Contains ps cell) (sym all)
      (Contains-append_right (places from) (places (flat_map path_ranges (cell_places query))) cell
      (paths_within (cell_places query) cell cell at parts))))
]
  where
    ground : IsGround (places plain) cell.root
    ground = All-contains (λ path. IsGround (places plain) path.root) (cell_places query) cell
        (cells_ground (places plain) (scope_of [] query.tail.ranges) query.items (scope_found query plain gathered)) at
