-- The cells of rows: what they show of any objects of places is a finite list, and hangs on known places alone.
use Rattle.std.proofs.Common.{◌≡◌, inl, inr, ◌↔◌, ℕ, List, [], ◌∷◌, ◌++◌, All, refl, subst, append_assoc}
use Rattle.std.specs.List.{Contains, AllZip}
use Rattle.std.proofs.lemmas.List.Elements.{All-contains, Contains-append_left}
use Rattle.lore_base.specs.Databases.{Database}
use Rattle.lore_base.specs.Paths.{seq, trees_of}
use Rattle.lore_base.specs.LeastWords.{IsLeast, IsSpelledWalk}
use Rattle.lore_base.proofs.MemberLaws.{Contains-none, Contains-cases}
use Rattle.list_laws.proofs.MemberLaws.{Contains-map}
use Rattle.lorel_trees.specs.Trees.{SelectTree}
use Rattle.lorel_bind.specs.Types.{Oid, Label, Cell}
use Rattle.lorel_bind.specs.Types.cells
use Rattle.lorel_ranges.specs.Places.{Place, CellPlace, object, word, cells_of}
use Rattle.lorel_ranges.specs.Ranges.{PlacedRange, places, ArePlain}
use Rattle.lorel_bind.specs.Answers.{IsWordAt, ShowsCell}
use Rattle.lorel_ranges.specs.Texts.{text_places}
use Rattle.lorel_ranges.specs.inside.Orders.{IsFound, AreOrdered}
use Rattle.lorel_bound.proofs.ListedLaws.{IsListed, listed_members, listed_one, listed_same, listed_over, listed_where, listed_pairs}
use Rattle.bind_laws.proofs.LeastWordLaws.{listed_least}
use Rattle.lorel_ranges.proofs.PlaceLaws.{told_place}
use Rattle.lorel_ranges.proofs.OrderLaws.{IsFound-wider}
use Rattle.lorel_ranges.proofs.PlainLaws.{plain_ordered}
use Rattle.lorel_ranges.proofs.ShownLaws.{object_shown}
use Rattle.lorel_bind.proofs.RootLaws.{IsBoundName, IsKnown, known_found, plain_roots, cells_known}
use Rattle.bind_laws.proofs.RowLaws.{Agree}
use Rattle.bind_laws.proofs.FusedRowLaws.{AgreeOn}

-- ---- what cells show
module _ (db : Database) (ranges : List PlacedRange) (at : Place → Oid) where
  -- the words of a place
  listed_word : (place : Place) → IsListed (IsWordAt db ranges at place)
  listed_word place =
      listed_same
      (λ labels. (range : PlacedRange) × (Contains ranges range × (range.place ≡ place))
      × IsLeast (IsSpelledWalk db.labels db.graph.edges (seq (trees_of range.parts)) (at range.start) (at place)) labels)
      (IsWordAt db ranges at place)
      (λ labels. (
        λ h. record { range = h.0; there = h.1.0; is = h.1.1; least = h.2 },
        λ h. (h.range, (h.there, h.is), h.least),
      ))
      (listed_over (λ (range : PlacedRange). Contains ranges range × (range.place ≡ place))
      (λ range labels. IsLeast (IsSpelledWalk db.labels db.graph.edges (seq (trees_of range.parts)) (at range.start) (at place)) labels)
      (listed_where (Contains ranges) (λ range. range.place ≡ place) (listed_members ranges) (λ range. told_place range.place place))
      (λ range. listed_least db.labels db.graph.edges (seq (trees_of range.parts)) (at range.start) (at place)))

  -- a cell shows an object where it is that object, and a word where it is that word
  shown_object : (place : Place) (cell : Cell) → (cells.Object (at place) ≡ cell) ↔ ShowsCell db ranges at (object place) cell
  shown_object place (cells.Object oid) = (λ same. cc, λ same. cc)
  shown_object place (cells.Path labels) = (λ same. cc, λ none. absurd none)

  shown_word : (place : Place) (cell : Cell)
      → ((labels : List Label) × IsWordAt db ranges at place labels × (cells.Path labels ≡ cell)) ↔ ShowsCell db ranges at (word place) cell
  shown_word place (cells.Object oid) = (λ h. let is : cells.Path h.0 ≡ cells.Object oid = h.2 in cc, λ none. absurd none)
  shown_word place (cells.Path labels) = (
    λ h.
        let is : cells.Path h.0 ≡ cells.Path labels = h.2 in
        let same : h.0 ≡ labels = cc in
        subst (IsWordAt db ranges at place) same h.1,
    λ h. (labels, h, refl),
  )

  -- the cells that show what a place of either kind has
  listed_cell : (cell : CellPlace) → IsListed (ShowsCell db ranges at cell)
  listed_cell (object place) =
      listed_same (λ cell. cells.Object (at place) ≡ cell) (ShowsCell db ranges at (object place)) (shown_object place) (listed_one (cells.Object (at place)))
  listed_cell (word place) =
      listed_same (λ cell. (labels : List Label) × IsWordAt db ranges at place labels × (cells.Path labels ≡ cell)) (ShowsCell db ranges at (word place)) (shown_word place)
      (listed_over (IsWordAt db ranges at place) (λ labels cell. cells.Path labels ≡ cell) (listed_word place) (λ labels. listed_one (cells.Path labels)))

  -- the rows that show these cells
  pub listed_shown : (shown : List CellPlace) → IsListed (AllZip (ShowsCell db ranges at) shown)
  listed_shown shown = listed_pairs (ShowsCell db ranges at) listed_cell shown

-- ---- where two valuations agree
-- a range starts at a name, or at the place of another one
ordered_start : (earlier : List Place) (ranges : List PlacedRange) → AreOrdered earlier ranges → (range : PlacedRange) → Contains ranges range
    → IsFound (earlier ++ places ranges) range.start
ordered_start earlier [] ordered range there = absurd (Contains-none range there)
ordered_start earlier (first ∷ others) ordered range there =
    let all = places (first ∷ others) in
    elim (Contains-cases first others range there) [
      | inl same ↦ subst (λ (r : PlacedRange). IsFound (earlier ++ all) r.start) same
          (IsFound-wider earlier (earlier ++ all) first.start (λ place before. Contains-append_left earlier all place before) ordered.0.found)
      | inr later ↦ subst (λ (found : List Place). IsFound found range.start) (append_assoc earlier (first.place ∷ []) (places others))
          (ordered_start (earlier ++ first.place ∷ []) others ordered.1 range later)
    ]

module _ (names : List (List ℕ × Oid)) (query : SelectTree) (plain : List PlacedRange) (gathered : ArePlain query plain)
    (bound : All (λ place. IsBoundName names place.root) (text_places query)) where
  -- a plain range starts at what is known
  start_known : (range : PlacedRange) → Contains plain range → IsKnown names (places plain) range.start
  start_known range there =
      known_found names (places plain) range.start (ordered_start [] plain (plain_ordered query plain gathered) range there)
      (All-contains (λ r. IsBoundName names r.start.root) plain range (plain_roots (IsBoundName names) query plain gathered bound) there)

  -- cells show the same of valuations that agree on what is known
  pub cells_agree : (at other : Place → Oid) → Agree names (places plain) at other → (cell : CellPlace) → Contains (cells_of query) cell
      → AgreeOn plain plain at other cell
  cells_agree at other agree (object place) there = agree place (cells_known names query plain gathered bound place (object_shown query place there))
  cells_agree at other agree (word place) there = λ range found is. (
    found,
    agree range.start (start_known range found),
    agree place (inr (subst (Contains (places plain)) is (Contains-map (λ (r : PlacedRange). r.place) plain range found))),
  )
