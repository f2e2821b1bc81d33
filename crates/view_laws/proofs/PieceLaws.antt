-- The parts of each plain range stand side by side in some path of the text, and so does the rest behind a fixed prefix.
use Rattle.std.proofs.Common.{◌≡◌, inl, inr, ℕ, List, [], ◌∷◌, ◌++◌, Option, Some, None, All, refl, sym, ap, subst, ◌∙◌, append-nil, append_assoc}
use Rattle.std.specs.List.{Contains, flat_map}
use Rattle.std.proofs.lemmas.List.Elements.{All-nil, All-cons, All-head, All-tail, All-append, All-push, Contains-append_left, Contains-append_right}
use Rattle.lore_base.specs.Paths.{PathTree}
use Rattle.lorel_trees.specs.Trees.{FromTree, SelectTree}
use Rattle.lorel_ranges.specs.Places.{ranged, Place, at_root, beyond, Scope, place_of, scope_behind, cell_places}
use Rattle.lorel_ranges.specs.Conditions.{cond_places}
use Rattle.lorel_ranges.specs.Texts.{from_places, text_places}
use Rattle.lorel_ranges.specs.Ranges.{PlacedRange, prefix_ranges, path_ranges, from_item_ranges, from_ranges, made_ranges, AreGathered, ArePlain, IsFixed}
use Rattle.lore_base.proofs.MemberLaws.{Contains-head, Contains-tail}
use Rattle.view_laws.proofs.SeesLaws.{IsPiece}

-- what holds of each range that is made holds of each that is gathered
gathered_all : (Q : PlacedRange → Type 0) (earlier made ranges : List PlacedRange) → AreGathered earlier made ranges → All Q earlier → All Q made → All Q ranges
gathered_all Q earlier [] ranges same first second = subst (All Q) (sym same) first
gathered_all Q earlier (range ∷ made) ranges (inl there) first second = gathered_all Q earlier made ranges there.1 first (All-tail Q range made second)
gathered_all Q earlier (range ∷ made) ranges (inr absent) first second =
    gathered_all Q (earlier ++ range ∷ []) made ranges absent.1 (All-push Q earlier range first (All-head Q range made second)) (All-tail Q range made second)

module _ (query : SelectTree) where
  abbrev HasPiece : PlacedRange → Type 0
  HasPiece range = IsPiece query range.parts

  -- so many parts are left of a path of the text
  prefix_pieces : (path : Place) → Contains (text_places query) path → (start : Place) (front parts : List PathTree) → path.parts ≡ front ++ parts
      → All HasPiece (prefix_ranges start parts)
  prefix_pieces path there start front [] is = All-nil HasPiece
  prefix_pieces path there start front (part ∷ parts) is =
      All-cons HasPiece (record { start = start; parts = part ∷ []; place = beyond start (part ∷ []) }) (prefix_ranges (beyond start (part ∷ [])) parts)
      (record { place = path; front = front; back = parts; there = there; is = is })
      (prefix_pieces path there (beyond start (part ∷ [])) (front ++ part ∷ []) parts (is ∙ sym (append_assoc front (part ∷ []) parts)))

  path_pieces : (path : Place) → Contains (text_places query) path → All HasPiece (path_ranges path)
  path_pieces path there = prefix_pieces path there (at_root path.root) [] path.parts refl

  item_pieces : (variable : Option (List ℕ)) (path : Place) → Contains (text_places query) path → All HasPiece (from_item_ranges variable path)
  item_pieces None path there = path_pieces path there
  item_pieces (Some variable) path there =
      All-cons HasPiece (record { start = at_root path.root; parts = path.parts; place = at_root (ranged variable) }) []
      (record { place = path; front = []; back = []; there = there; is = sym (append-nil path.parts) }) (All-nil HasPiece)

  from_pieces : (scope : Scope) (items : List FromTree) → ((place : Place) → Contains (from_places scope items) place → Contains (text_places query) place)
      → All HasPiece (from_ranges scope items)
  from_pieces scope [] within = All-nil HasPiece
  from_pieces scope (item ∷ items) within =
      let place = place_of scope item.path in
      let others = from_places (scope_behind item.variable scope) items in
      All-append HasPiece (from_item_ranges item.variable place) (from_ranges (scope_behind item.variable scope) items)
      (item_pieces item.variable place (within place (Contains-head place others)))
      (from_pieces (scope_behind item.variable scope) items (λ other there. within other (Contains-tail place others other there)))

  cell_pieces : (cells : List Place) → ((place : Place) → Contains cells place → Contains (text_places query) place) → All HasPiece (flat_map path_ranges cells)
  cell_pieces [] within = All-nil HasPiece
  cell_pieces (cell ∷ cells) within =
      All-append HasPiece (path_ranges cell) (flat_map path_ranges cells) (path_pieces cell (within cell (Contains-head cell cells)))
      (cell_pieces cells (λ other there. within other (Contains-tail cell cells other there)))

  pub plain_pieces : (plain : List PlacedRange) → ArePlain query plain → All HasPiece plain
  plain_pieces plain gathered =
      let from = from_places [] query.tail.ranges in
      let behind = cell_places query ++ cond_places query in
      gathered_all HasPiece [] (made_ranges query) plain gathered (All-nil HasPiece)
      (All-append HasPiece (from_ranges [] query.tail.ranges) (flat_map path_ranges (cell_places query))
      (from_pieces [] query.tail.ranges (λ place there. Contains-append_left from behind place there))
      (cell_pieces (cell_places query) (λ place there. Contains-append_right from behind place (Contains-append_left (cell_places query) (cond_places query) place there))))

  -- a path of the condition is one of the text
  pub cond_in_text : (path : Place) → Contains (cond_places query) path → Contains (text_places query) path
  cond_in_text path there =
      Contains-append_right (from_places [] query.tail.ranges) (cell_places query ++ cond_places query) path
      (Contains-append_right (cell_places query) (cond_places query) path there)

  pub cell_in_text : (path : Place) → Contains (cell_places query) path → Contains (text_places query) path
  cell_in_text path there =
      Contains-append_right (from_places [] query.tail.ranges) (cell_places query ++ cond_places query) path
      (Contains-append_left (cell_places query) (cond_places query) path there)

  pub rest_piece : (plain : List PlacedRange) (path fixed : Place) (rest : List PathTree) → Contains (cond_places query) path → IsFixed plain path fixed rest
      → IsPiece query rest
  rest_piece plain path fixed rest there is_fixed = record {
    place = path;
    front = fixed.parts;
    back = [];
    there = cond_in_text path there;
    is = ap (λ (p : Place). p.parts) is_fixed.is ∙ ap (λ (ps : List PathTree). fixed.parts ++ ps) (sym (append-nil rest));
  }
