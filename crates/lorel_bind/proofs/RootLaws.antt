-- Where the paths of a select start: at names that are bound, at places of plain ranges, and at quantifiers.
use Rattle.std.proofs.Common.{◌≡◌, ℕ, suc, ◌⊎◌, inl, inr, List, [], ◌∷◌, ◌++◌, Option, Some, None, All, refl, sym, ap, subst}
use Rattle.std.specs.List.{Contains, flat_map}
use Rattle.std.specs.Option.{option_map}
use Rattle.std.specs.Str.{bytes_eq}
use Rattle.std.proofs.lemmas.Bool.{cond_both}
use Rattle.std.proofs.lemmas.List.Elements.{All-nil, All-cons, All-head, All-tail, All-append, All-push, All-contains, Contains-append_left, Contains-append_right}
use Rattle.list_laws.proofs.MemberLaws.{All-from_members}
use Rattle.lore_base.specs.Names.{object_of}
use Rattle.lore_base.specs.Paths.{PathTree}
use Rattle.lorel_trees.specs.Trees.{FromTree, OperandTree, CondTree, CondTrees, RootedTree, SelectTree}
use Rattle.lorel_trees.specs.Trees as t
use Rattle.lorel_bind.specs.Types.{Oid}
use Rattle.lorel_ranges.specs.Places.{Root, named, ranged, quantified, Place, at_root, beyond, Scope, root_of, place_of, scope_behind, scope_of, cell_places}
use Rattle.lorel_ranges.specs.Conditions.{operand_in, cond_in, conds_in, cond_places}
use Rattle.lorel_bound.specs.Conditions.{operand_paths, paths_of, paths_of_all, paths_in}
use Rattle.lorel_ranges.specs.Ranges.{PlacedRange, prefix_ranges, path_ranges, from_item_ranges, from_ranges, made_ranges, places, AreGathered, ArePlain}
use Rattle.lorel_ranges.specs.Texts.{from_places, text_places}
use Rattle.lorel_bind.specs.Refusals.{StartsNowhere}
use Rattle.lorel_ranges.specs.inside.Orders.{IsFound}
use Rattle.lorel_ranges.proofs.ListLaws.{All-parts}
use Rattle.lorel_ranges.proofs.PlainLaws.{scope_found, cell_found}

-- a quantifier, or a root whose place is found
abbrev StartsFound : List Place → Root → Type 0
StartsFound earlier root = ((depth : ℕ) × (root ≡ quantified depth)) ⊎ IsFound earlier (at_root root)

-- what holds of each range that is made holds of each that is gathered
gathered_all : (Q : PlacedRange → Type 0) (earlier made ranges : List PlacedRange) → AreGathered earlier made ranges → All Q earlier → All Q made → All Q ranges
gathered_all Q earlier [] ranges same first second = subst (All Q) (sym same) first
gathered_all Q earlier (range ∷ made) ranges (inl there) first second = gathered_all Q earlier made ranges there.1 first (All-tail Q range made second)
gathered_all Q earlier (range ∷ made) ranges (inr absent) first second =
    gathered_all Q (earlier ++ range ∷ []) made ranges absent.1 (All-push Q earlier range first (All-head Q range made second)) (All-tail Q range made second)

-- ---- roots of what ranges start at
module _ (P : Root → Type 0) where
  prefix_roots : (start : Place) (parts : List PathTree) → P start.root → All (λ range. P range.start.root) (prefix_ranges start parts)
  prefix_roots start [] holds = All-nil (λ range. P range.start.root)
  prefix_roots start (part ∷ parts) holds =
      All-cons (λ range. P range.start.root) (record { start = start; parts = part ∷ []; place = beyond start (part ∷ []) })
      (prefix_ranges (beyond start (part ∷ [])) parts) holds (prefix_roots (beyond start (part ∷ [])) parts holds)

  item_roots : (variable : Option (List ℕ)) (path : Place) → P path.root → All (λ range. P range.start.root) (from_item_ranges variable path)
  item_roots None path holds = prefix_roots (at_root path.root) path.parts holds
  item_roots (Some variable) path holds =
      All-cons (λ range. P range.start.root) (record { start = at_root path.root; parts = path.parts; place = at_root (ranged variable) }) []
      holds (All-nil (λ range. P range.start.root))

  from_roots : (scope : Scope) (items : List FromTree) → All (λ place. P place.root) (from_places scope items) → All (λ range. P range.start.root) (from_ranges scope items)
  from_roots scope [] hold = All-nil (λ range. P range.start.root)
  from_roots scope (item ∷ items) hold =
      let place = place_of scope item.path in
      let others = from_places (scope_behind item.variable scope) items in
      All-append (λ range. P range.start.root) (from_item_ranges item.variable place) (from_ranges (scope_behind item.variable scope) items)
      (item_roots item.variable place (All-head (λ p. P p.root) place others hold))
      (from_roots (scope_behind item.variable scope) items (All-tail (λ p. P p.root) place others hold))

  cell_roots : (cells : List Place) → All (λ place. P place.root) cells → All (λ range. P range.start.root) (flat_map path_ranges cells)
  cell_roots [] hold = All-nil (λ range. P range.start.root)
  cell_roots (cell ∷ cells) hold =
      All-append (λ range. P range.start.root) (path_ranges cell) (flat_map path_ranges cells)
      (prefix_roots (at_root cell.root) cell.parts (All-head (λ p. P p.root) cell cells hold)) (cell_roots cells (All-tail (λ p. P p.root) cell cells hold))

  -- what holds of the root of each path in the text holds of the roots that plain ranges start at
  pub plain_roots : (query : SelectTree) (plain : List PlacedRange) → ArePlain query plain → All (λ place. P place.root) (text_places query)
      → All (λ range. P range.start.root) plain
  plain_roots query plain gathered hold =
      let from = from_places [] query.tail.ranges in
      let first = All-parts (λ place. P place.root) from (cell_places query ++ cond_places query) hold in
      let second = All-parts (λ place. P place.root) (cell_places query) (cond_places query) first.1 in
      gathered_all (λ range. P range.start.root) [] (made_ranges query) plain gathered (All-nil (λ range. P range.start.root))
      (All-append (λ range. P range.start.root) (from_ranges [] query.tail.ranges) (flat_map path_ranges (cell_places query))
      (from_roots [] query.tail.ranges first.0) (cell_roots (cell_places query) second.0))

-- ---- roots of the paths of a condition
module _ (P : Root → Type 0) (of_quantifiers : (depth : ℕ) → P (quantified depth)) where
  operand_roots : (scope : Scope) (operand : OperandTree) → ((start : List ℕ) → P (root_of scope start))
      → All (λ place. P place.root) (operand_paths (operand_in scope operand))
  operand_roots scope (t.constant value) each = All-nil (λ place. P place.root)
  operand_roots scope (t.at path) each = All-cons (λ place. P place.root) (place_of scope path) [] (each path.start) (All-nil (λ place. P place.root))

  scope_more : (scope : Scope) (variable : List ℕ) (depth : ℕ) → ((start : List ℕ) → P (root_of scope start))
      → (start : List ℕ) → P (root_of ((variable, quantified depth) ∷ scope) start)
  scope_more scope variable depth each start =
      cond_both (bytes_eq variable start) (quantified depth) (root_of scope start) P (λ same. of_quantifiers depth) (λ apart. each start)

  mutual
    cond_roots : (condition : CondTree) (scope : Scope) (depth : ℕ) → ((start : List ℕ) → P (root_of scope start))
        → All (λ place. P place.root) (paths_of (cond_in scope depth condition))
    cond_roots (t.or members) scope depth each = conds_roots members scope depth each
    cond_roots (t.and members) scope depth each = conds_roots members scope depth each
    cond_roots (t.not body) scope depth each = cond_roots body scope depth each
    cond_roots (t.exists variable path body) scope depth each =
        All-cons (λ place. P place.root) (place_of scope path) (paths_of (cond_in ((variable, quantified depth) ∷ scope) (suc depth) body)) (each path.start)
        (cond_roots body ((variable, quantified depth) ∷ scope) (suc depth) (scope_more scope variable depth each))
    cond_roots (t.for_all variable path body) scope depth each =
        All-cons (λ place. P place.root) (place_of scope path) (paths_of (cond_in ((variable, quantified depth) ∷ scope) (suc depth) body)) (each path.start)
        (cond_roots body ((variable, quantified depth) ∷ scope) (suc depth) (scope_more scope variable depth each))
    cond_roots (t.compare left op right) scope depth each =
        All-append (λ place. P place.root) (operand_paths (operand_in scope left)) (operand_paths (operand_in scope right))
        (operand_roots scope left each) (operand_roots scope right each)
    cond_roots (t.same left right) scope depth each =
        All-cons (λ place. P place.root) (place_of scope left) (place_of scope right ∷ []) (each left.start)
        (All-cons (λ place. P place.root) (place_of scope right) [] (each right.start) (All-nil (λ place. P place.root)))

    conds_roots : (members : CondTrees) (scope : Scope) (depth : ℕ) → ((start : List ℕ) → P (root_of scope start))
        → All (λ place. P place.root) (paths_of_all (conds_in scope depth members))
    conds_roots t.no_cond scope depth each = All-nil (λ place. P place.root)
    conds_roots (t.cond first others) scope depth each =
        All-append (λ place. P place.root) (paths_of (cond_in scope depth first)) (paths_of_all (conds_in scope depth others))
        (cond_roots first scope depth each) (conds_roots others scope depth each)

  option_roots : (condition : Option CondTree) (scope : Scope) → ((start : List ℕ) → P (root_of scope start))
      → All (λ place. P place.root) (paths_in (option_map (cond_in scope 0) condition))
  option_roots None scope each = All-nil (λ place. P place.root)
  option_roots (Some condition) scope each = cond_roots condition scope 0 each

-- ---- names that are bound
abbrev pub IsBoundName : List (List ℕ × Oid) → Root → Type 0
IsBoundName names root = (name : List ℕ) → root ≡ named name → (oid : Oid) × (object_of names name ≡ Some oid)

-- where no path starts nowhere, each name is bound
pub names_bound : (names : List (List ℕ × Oid)) (query : SelectTree) → ((start : List ℕ) → StartsNowhere names query start → ⊥)
    → All (λ place. IsBoundName names place.root) (text_places query)
names_bound names query somewhere =
    All-from_members (λ place. IsBoundName names place.root) (text_places query)
    (λ place there name is. bound place there name is (object_of names name) refl)
  where
    bound : (place : Place) → Contains (text_places query) place → (name : List ℕ) → place.root ≡ named name
        → (found : Option Oid) → object_of names name ≡ found → (oid : Oid) × (object_of names name ≡ Some oid)
    bound place there name is None none = absurd (somewhere name (place, there, is, none))
    bound place there name is (Some oid) found = (oid, found)

-- ---- places whose objects are settled
-- a bound name, or one of these places
abbrev pub IsKnown : List (List ℕ × Oid) → List Place → Place → Type 0
IsKnown names earlier place =
    ((name : List ℕ) × (oid : Oid) × (place ≡ at_root (named name)) × (object_of names name ≡ Some oid)) ⊎ Contains earlier place

pub known_found : (names : List (List ℕ × Oid)) (earlier : List Place) (place : Place) → IsFound earlier place → IsBoundName names place.root
    → IsKnown names earlier place
known_found names earlier place (inl found) bound =
    let object = bound found.0 (ap (λ (p : Place). p.root) found.1) in
    inl (found.0, object.0, found.1, object.1)
known_found names earlier place (inr there) bound = inr there

module _ (names : List (List ℕ × Oid)) (query : SelectTree) (plain : List PlacedRange) (gathered : ArePlain query plain)
    (bound : All (λ place. IsBoundName names place.root) (text_places query)) where
  -- each cell shows a place that is known
  pub cells_known : (cell : Place) → Contains (cell_places query) cell → IsKnown names (places plain) cell
  cells_known cell there =
      known_found names (places plain) cell (cell_found query plain gathered cell there)
      (All-contains (λ place. IsBoundName names place.root) (text_places query) cell bound
      (Contains-append_right (from_places [] query.tail.ranges) (cell_places query ++ cond_places query) cell
      (Contains-append_left (cell_places query) (cond_places query) cell there)))

  -- each path of the condition starts at a quantifier or at what is known
  pub cond_known : (path : Place) → Contains (cond_places query) path
      → ((depth : ℕ) × (path.root ≡ quantified depth)) ⊎ IsKnown names (places plain) (at_root path.root)
  cond_known path there =
      let bound_here = All-contains (λ place. IsBoundName names place.root) (text_places query) path bound
      (Contains-append_right (from_places [] query.tail.ranges) (cell_places query ++ cond_places query) path
      (Contains-append_right (cell_places query) (cond_places query) path there)) in
      elim (All-contains (λ place. StartsFound (places plain) place.root) (cond_places query) path
      (option_roots (StartsFound (places plain)) (λ depth. inl (depth, refl)) query.tail.cond (scope_of [] query.tail.ranges)
      (λ start. inr (scope_found query plain gathered start).found)) there) [
        | inl at_quantifier ↦ inl at_quantifier
        | inr found ↦ inr (known_found names (places plain) (at_root path.root) found bound_here)
      ]
