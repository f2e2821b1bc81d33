-- Rows that show objects alone are rows of objects, and one such row is the cells of one list.
use Rattle.std.proofs.Common.{◌≡◌, ℕ, ◌+◌, ◌<◌, List, [], ◌∷◌, ◌++◌, length, get_or, take, map, Some, None, refl, sym, ap, subst, ◌∙◌, arith}
use Rattle.std.specs.List.{Contains, AllZip}
use Rattle.std.proofs.lemmas.List.{length-map, get_or-map, get_or_default}
use Rattle.std.proofs.lemmas.Option.{same_Some}
use Rattle.lore_base.specs.Databases.{Database}
use Rattle.lore_base.proofs.MemberLaws.{Contains-head, Contains-tail}
use Rattle.list_laws.proofs.PartLaws.{map_more_read}
use Rattle.lorel_trees.specs.Trees as t
use Rattle.lorel_trees.specs.Trees.{SelectTree, StatementTree}
use Rattle.lorel_trees.specs.UpdateRows.{target_select, pair_select}
use Rattle.lorel_ranges.specs.Places.{Place, CellPlace, object, scope_of, place_of, cells_of}
use Rattle.lorel_ranges.specs.Ranges.{PlacedRange}
use Rattle.lorel_bind.specs.Answers.{ShowsCell, IsRow, IsAnswer}
use Rattle.updates.specs.Effects.{Pair}
use Rattle.statements.specs.Types.{Oid, Cell}
use Rattle.statements.specs.Types.cells
use Rattle.statements.specs.Forms.{reads, path_select, MakesChanges}
use Rattle.statements.specs.Effects.{object_cells, pair_of}

-- ---- the cells of objects tell these
pub one_list : (a b : List Oid) → object_cells a ≡ object_cells b → a ≡ b
one_list [] [] same = refl
one_list [] (y ∷ ys) same = cc
one_list (x ∷ xs) [] same = cc
one_list (x ∷ xs) (y ∷ ys) same =
    let both : cells.Object x ∷ object_cells xs ≡ cells.Object y ∷ object_cells ys = same in
    let first : x ≡ y = cc in
    let rest : object_cells xs ≡ object_cells ys = cc in
    let others = one_list xs ys rest in
    λ i. first i ∷ others i

pub one_lists : (a b : List (List Oid)) → map object_cells a ≡ map object_cells b → a ≡ b
one_lists [] [] same = refl
one_lists [] (y ∷ ys) same = cc
one_lists (x ∷ xs) [] same = cc
one_lists (x ∷ xs) (y ∷ ys) same =
    let both : object_cells x ∷ map object_cells xs ≡ object_cells y ∷ map object_cells ys = same in
    let row : object_cells x ≡ object_cells y = cc in
    let rest : map object_cells xs ≡ map object_cells ys = cc in
    let first = one_list x y row in
    let others = one_lists xs ys rest in
    λ i. first i ∷ others i

-- ---- rows
-- where the cells show objects the row is those of their places
pub shown_objects : (db : Database) (ranges : List PlacedRange) (at : Place → Oid) (all : List Place) (row : List Cell)
    → AllZip (ShowsCell db ranges at) (map object all) row → row ≡ object_cells (map at all)
shown_objects db ranges at [] [] shown = refl
shown_objects db ranges at [] (cell ∷ row) shown = absurd shown
shown_objects db ranges at (place ∷ all) [] shown = absurd shown
shown_objects db ranges at (place ∷ all) (cells.Object oid ∷ row) shown =
    let others = shown_objects db ranges at all row shown.1 in
    λ i. cells.Object (sym shown.0 i) ∷ others i
shown_objects db ranges at (place ∷ all) (cells.Path word ∷ row) shown = absurd shown.0

-- rows of objects, one by one, are rows of objects
listed_objects : (rows : List (List Cell)) → ((row : List Cell) → Contains rows row → (objects : List Oid) × (row ≡ object_cells objects))
    → (objects : List (List Oid)) × (rows ≡ map object_cells objects)
listed_objects [] each = ([], refl)
listed_objects (row ∷ rows) each =
    let first = each row (Contains-head row rows) in
    let others = listed_objects rows (λ other there. each other (Contains-tail row rows other there)) in
    (first.0 ∷ others.0, λ i. first.1 i ∷ others.1 i)

-- the select shows the objects of some places, and no word
abbrev pub ShowsPlaces : SelectTree → Type 0
ShowsPlaces query = (all : List Place) × (cells_of query ≡ map object all)

module _ (db : Database) (query : SelectTree) (shows : ShowsPlaces query) where
  row_objects : (row : List Cell) → IsRow db query row → (objects : List Oid) × (row ≡ object_cells objects)
  row_objects row is =
      let over = is.2 in (
        map over.at shows.0,
        shown_objects db is.0 over.at shows.0 row (subst (λ (c : List CellPlace). AllZip (ShowsCell db is.0 over.at) c row) shows.1 over.shown),
      )

  -- its answer is rows of objects
  pub answer_objects : (rows : List (List Cell)) → IsAnswer db query rows → (objects : List (List Oid)) × (rows ≡ map object_cells objects)
  answer_objects rows answer = listed_objects rows (λ row there. row_objects row ((answer.exact row).0 there))

-- ---- the select of a path, of a target, and of two paths
pub target_shows : (target : t.RootedTree) (tail : t.TailTree) → ShowsPlaces (target_select target tail)
target_shows target tail = (place_of (scope_of [] tail.ranges) target ∷ [], refl)

pub pair_shows : (target right : t.RootedTree) (tail : t.TailTree) → ShowsPlaces (pair_select target right tail)
pair_shows target right tail =
    (place_of (scope_of [] tail.ranges) target ∷ place_of (scope_of [] tail.ranges) right ∷ [], refl)

-- the select that a statement is executed over shows objects where that makes changes
pub changing_shows : (statement : StatementTree) → MakesChanges statement → (query : SelectTree) → reads statement ≡ Some query
    → ShowsPlaces query
changing_shows (t.load name literal) changing query form = cc
changing_shows (t.bind name path) changing query form = subst ShowsPlaces (same_Some (path_select path) query form) (target_shows path (record { ranges = []; cond = None }))
changing_shows (t.unname name) changing query form = cc
changing_shows (t.assign target value tail) changing query form =
    subst ShowsPlaces (same_Some (target_select target tail) query form) (target_shows target tail)
changing_shows (t.add_new target label literal tail) changing query form =
    subst ShowsPlaces (same_Some (target_select target tail) query form) (target_shows target tail)
changing_shows (t.add_link target label right tail) changing query form =
    subst ShowsPlaces (same_Some (pair_select target right tail) query form) (pair_shows target right tail)
changing_shows (t.remove target label right tail) changing query form =
    subst ShowsPlaces (same_Some (pair_select target right tail) query form) (pair_shows target right tail)
changing_shows (t.generate seed count) changing query form = cc
changing_shows _ changing query form = absurd changing

-- ---- rows as pairs
-- the pair of the next row stands behind those of the rows before it
pub pairs_next : (items : List (List Cell)) (rows : List (List Oid)) (k : ℕ) (row : List Cell) (old new : List Pair) (pair : Pair)
    → items ≡ map object_cells rows → k < length items → row ≡ get_or items k row
    → ((objects : List Oid) → row ≡ object_cells objects → pair ≡ pair_of objects)
    → old ≡ map pair_of (take k rows) → new ≡ old ++ pair ∷ [] → new ≡ map pair_of (take (k + 1) rows)
pairs_next items rows k row old new pair are within at own before pushed =
    let few : k < length rows = omega (arith, within, ap length are, length-map rows object_cells) in
    let here = get_or rows k [] in
    let shown : row ≡ object_cells here = at ∙ ap (λ (l : List (List Cell)). get_or l k row) are ∙ get_or-map object_cells rows k [] row few in
    pushed ∙ (λ i. before i ++ own here shown i ∷ []) ∙ sym (map_more_read pair_of rows k here few (get_or_default rows k [] here few))
