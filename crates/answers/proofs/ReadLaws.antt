-- What cells that are made ready show of a row of slots: one row at most, and the one that the cells of the select show.
use Rattle.std.proofs.Common.{◌≡◌, ◌↔◌, ℕ, List, [], ◌∷◌, ◌++◌, length, map, Option, Some, None, All, get_or, take, drop, subst, refl, sym, ap, ◌∙◌, inl, inr, ◌<◌, ◌+◌}
use Rattle.std.specs.List.{AllZip, Contains, slice_get}
use Rattle.std.specs.Option.{option_map}
use Rattle.std.proofs.Math.ListN.{set}
use Rattle.std.proofs.Math.Seq.{take-append_seam}
use Rattle.std.proofs.lemmas.List.{take_more, set-get_or}
use Rattle.std.proofs.lemmas.List.Elements.{All-contains, All-cons, All-nil, All-head, All-tail, Contains-get_or}
use Rattle.std.proofs.lemmas.Option.{same_Some, slice_get-map}
use Rattle.std.proofs.lemmas.Slice.Zip.{all_zipped_more}
use Rattle.lore_base.specs.LeastWords.{IsLeast, IsSpelledWalk}
use Rattle.lorel_bound.specs.declared.bound.Start.{Start}
use Rattle.lorel_bound.specs.declared.bound.Range.{Range}
use Rattle.lorel_bound.specs.Bound.{RangeTree, range_tree}
use Rattle.lorel_bound.specs.SlotRows.{StartsAt, ShowsSlot, IsSlotWord, IsObjectCell}
use Rattle.answers.specs.Types.{Oid, Label, Edge, CellOf, Cell}
use Rattle.answers.specs.Types.shown
use Rattle.answers.specs.Types.cells
use Rattle.answers.specs.inside.Words.{WordsOver, HasWord}
use Rattle.answers.specs.inside.Showing.{IsReadyObject, IsMadeReady, Reads, ReadsRow}
use Rattle.answers.specs.declared.ready_cells.ReadyCell.{ReadyCell}
use Rattle.answers.specs.declared.ready_cells.ReadyCell.TheVariants as ready
use Rattle.answers.proofs.WordLaws.{one_start, one_word}

-- one pair more
pub next_pair : {A B : Type 0} (R : A → B → Type 0) (xs : List A) (ys : List B) (i : ℕ) (d : A) (y : B) → i < length xs
    → AllZip R (take i xs) ys → R (get_or xs i d) y → AllZip R (take (i + 1) xs) (ys ++ y ∷ [])
next_pair R xs ys i d y within pairs last =
    rw (take_more xs i d within) (all_zipped_more R (take i xs) ys (get_or xs i d) y pairs last)

-- ---- one row
module _ {A : Type 0} where
  -- a cell shows one thing
  pub one_read : (slots : List Oid) (cell : ReadyCell A) (a b : Option Cell) → Reads slots cell a → Reads slots cell b → a ≡ b
  one_read slots (ready.Object start) a b first second =
      first.2 ∙ ap (λ (oid : Oid). Some (cells.Object oid)) (one_start slots start first.0 second.0 first.1 second.1) ∙ sym second.2
  one_read slots (ready.Word words) a b first second =
      first.2 ∙ ap (option_map cells.Path) (one_word words slots first.0 second.0 first.1 second.1) ∙ sym second.2

  -- each cell of a row that is shown shows something
  each_shows : (slots : List Oid) (own : List (ReadyCell A)) (row : List Cell) → AllZip (λ cell out. Reads slots cell (Some out)) own row
      → All (λ cell. (out : Cell) × Reads slots cell (Some out)) own
  each_shows slots [] [] all = All-nil (λ cell. (out : Cell) × Reads slots cell (Some out))
  each_shows slots [] (out ∷ row) all = absurd all
  each_shows slots (cell ∷ own) [] all = absurd all
  each_shows slots (cell ∷ own) (out ∷ row) all =
      All-cons (λ cell. (out : Cell) × Reads slots cell (Some out)) cell own (out, all.0) (each_shows slots own row all.1)

  -- and so there is no row where one shows nothing
  none_shown : (slots : List Oid) (own : List (ReadyCell A)) (row : List Cell) → ReadsRow slots own None → ReadsRow slots own (Some row) → ⊥
  none_shown slots own row none all =
      let some = All-contains (λ cell. (out : Cell) × Reads slots cell (Some out)) own none.0 (each_shows slots own row all) none.1 in
      let same : None ≡ Some some.0 = one_read slots none.0 None (Some some.0) none.2 some.1 in
      cc

  same_rows : (slots : List Oid) (own : List (ReadyCell A)) (a b : List Cell) → ReadsRow slots own (Some a) → ReadsRow slots own (Some b) → a ≡ b
  same_rows slots [] [] [] first second = refl
  same_rows slots [] (out ∷ a) b first second = absurd first
  same_rows slots [] [] (out ∷ b) first second = absurd second
  same_rows slots (cell ∷ own) [] b first second = absurd first
  same_rows slots (cell ∷ own) (out ∷ a) [] first second = absurd second
  same_rows slots (cell ∷ own) (out ∷ a) (other ∷ b) first second =
      let same : out ≡ other = same_Some out other (one_read slots cell (Some out) (Some other) first.0 second.0) in
      let others : a ≡ b = same_rows slots own a b first.1 second.1 in
      cc

  -- cells show one row, or none
  pub one_row : (slots : List Oid) (own : List (ReadyCell A)) (a : Option (List Cell)) (b : List Cell)
      → ReadsRow slots own a → ReadsRow slots own (Some b) → a ≡ Some b
  one_row slots own None b first second = absurd (none_shown slots own b first second)
  one_row slots own (Some a) b first second = ap (λ (row : List Cell). Some row) (same_rows slots own a b first second)

-- ---- the row of the select
-- a word is no object
no_object : (word : Option (List Label)) (oid : Oid) → Some (cells.Object oid) ≡ option_map cells.Path word → ⊥
no_object None oid is = cc
no_object (Some word) oid is = cc

same_word : (word : Option (List Label)) (own : List Label) → Some (cells.Path own) ≡ option_map cells.Path word → word ≡ Some own
same_word None own is = absurd (let e : ◌≡◌ {A = Option Cell} (Some (cells.Path own)) None = is in cc)
same_word (Some word) own is = (let same : ◌≡◌ {A = Option Cell} (Some (cells.Path own)) (Some (cells.Path word)) = is in cc)

module _ (labels : List (List ℕ)) (edges : List Edge) (ranges : List Range) (slots : List Oid) where
  -- the word of a slot is the one along its range
  slot_word : (slot : ℕ) (range : Range) (own : List Label) → slice_get ranges slot ≡ Some range
      → IsSlotWord labels edges (map range_tree ranges) slots slot own
      ↔ HasWord (record { labels = labels; edges = edges; range = range; slot = slot }) slots (Some own)
  slot_word slot range own there =
      let at : slice_get (map range_tree ranges) slot ≡ Some (range_tree range) =
      slice_get-map range_tree ranges slot ∙ ap (option_map range_tree) there in (
        λ h.
            let same : h.range ≡ range_tree range = same_Some h.range (range_tree range) (sym h.there ∙ at) in
            record {
              start = h.start;
              begins = subst (λ (tree : RangeTree). StartsAt slots tree.start h.start) same h.begins;
              oid = h.oid;
              ends = h.ends;
              least = subst (λ (tree : RangeTree). IsLeast (IsSpelledWalk labels edges tree.path h.start h.oid) own) same h.least;
            },
        λ h. record {
          range = range_tree range;
          there = at;
          start = h.start;
          begins = h.begins;
          oid = h.oid;
          ends = h.ends;
          least = h.least;
        },
      )

  module _ {A : Type 0} where
    -- a cell that is made ready shows what the cell of the select shows
    made_shows : (cell : CellOf) (own : ReadyCell A) (out : Cell) → IsMadeReady labels edges ranges cell own
        → ShowsSlot labels edges (map range_tree ranges) slots cell out ↔ Reads slots own (Some out)
    made_shows (shown.Object start) (ready.Object other) (cells.Object oid) made = (
      λ h. (oid, subst (λ (s : Start). StartsAt slots s oid) made h, refl),
      λ h.
          let same : oid ≡ h.0 = (let is : ◌≡◌ {A = Option Cell} (Some (cells.Object oid)) (Some (cells.Object h.0)) = h.2 in cc) in
          subst (λ (s : Start). StartsAt slots s oid) (sym made) (subst (λ (o : Oid). StartsAt slots other o) (sym same) h.1),
    )
    made_shows (shown.Object start) (ready.Object other) (cells.Path own) made =
        (λ h. absurd h, λ h. absurd (let is : ◌≡◌ {A = Option Cell} (Some (cells.Path own)) (Some (cells.Object h.0)) = h.2 in cc))
    made_shows (shown.Object start) (ready.Word words) out made = absurd made
    made_shows (shown.PathOf slot) (ready.Object other) out made = absurd made
    made_shows (shown.PathOf slot) (ready.Word words) (cells.Object oid) made = (λ h. absurd h, λ h. absurd (no_object h.0 oid h.2))
    made_shows (shown.PathOf slot) (ready.Word words) (cells.Path own) made =
        let word = slot_word slot made.0 own made.1 in (
          λ h. (Some own, subst (λ (w : WordsOver). HasWord w slots (Some own)) (sym made.2) (word.0 h), refl),
          λ h. word.1 (subst (λ (w : WordsOver). HasWord w slots (Some own)) made.2
              (subst (λ (o : Option (List Label)). HasWord words slots o) (same_word h.0 own h.2) h.1)),
        )

    -- and so for rows
    pub row_shows : (of : List CellOf) (own : List (ReadyCell A)) (row : List Cell) → AllZip (IsMadeReady labels edges ranges) of own
        → AllZip (ShowsSlot labels edges (map range_tree ranges) slots) of row ↔ ReadsRow slots own (Some row)
    row_shows [] [] [] made = (λ h. h, λ h. h)
    row_shows [] [] (out ∷ row) made = (λ h. h, λ h. h)
    row_shows [] (cell ∷ own) row made = absurd made
    row_shows (first ∷ of) [] row made = absurd made
    row_shows (first ∷ of) (cell ∷ own) [] made = (λ h. h, λ h. h)
    row_shows (first ∷ of) (cell ∷ own) (out ∷ row) made =
        let one = made_shows first cell out made.0 in
        let others = row_shows of own row made.1 in
        (λ h. (one.0 h.0, others.0 h.1), λ h. (one.1 h.0, others.1 h.1))

-- ---- cells that show no word
module _ {A : Type 0} (labels : List (List ℕ)) (edges : List Edge) (ranges : List Range) where
  made_object : (cell : CellOf) (own : ReadyCell A) → IsMadeReady labels edges ranges cell own → IsObjectCell cell → IsReadyObject own
  made_object (shown.Object start) (ready.Object other) made object = tt
  made_object (shown.Object start) (ready.Word words) made object = absurd made
  made_object (shown.PathOf slot) own made object = absurd object

  pub made_objects : (of : List CellOf) (own : List (ReadyCell A)) → AllZip (IsMadeReady labels edges ranges) of own → All IsObjectCell of → All IsReadyObject own
  made_objects [] [] made objects = All-nil IsReadyObject
  made_objects [] (cell ∷ own) made objects = absurd made
  made_objects (first ∷ of) [] made objects = absurd made
  made_objects (first ∷ of) (cell ∷ own) made objects =
      All-cons IsReadyObject cell own (made_object first cell made.0 (All-head IsObjectCell first of objects))
      (made_objects of own made.1 (All-tail IsObjectCell first of objects))

-- ---- what is read is shown
pub reads_object : {A : Type 0} (slots : List Oid) (cell : ReadyCell A) (start : Start) (oid : Oid) → cell ≡ ready.Object start → StartsAt slots start oid
    → Reads slots cell (Some (cells.Object oid))
reads_object {A} slots cell start oid is begins =
    subst (λ (c : ReadyCell A). Reads slots c (Some (cells.Object oid))) (sym is) (oid, begins, refl)

pub reads_word : {A : Type 0} (slots : List Oid) (cell : ReadyCell A) (words : WordsOver) (word own : Option (List Label)) → cell ≡ ready.Word words
    → word ≡ own → HasWord words slots word → Reads slots cell (option_map cells.Path own)
reads_word {A} slots cell words word own is same has =
    subst (λ (c : ReadyCell A). Reads slots c (option_map cells.Path own)) (sym is) (own, subst (HasWord words slots) same has, refl)

-- a cell whose value is put back changes nothing
pub put_back : {X : Type 0} (xs : List X) (i : ℕ) (d x : X) → x ≡ get_or xs i d → set xs i x ≡ xs
put_back xs i d x same = ap (set xs i) same ∙ set-get_or xs i d

-- cells whose values are put back change nothing
pub put_whole : {X : Type 0} (xs new : List X) (len : ℕ) → length xs ≡ len → new ≡ xs → take len (new ++ drop (length new) xs) ≡ xs
put_whole {X} xs new len long same =
    subst (λ (ys : List X). take len (ys ++ drop (length ys) xs) ≡ xs) (sym same)
    (subst (λ (n : ℕ). take n (xs ++ drop (length xs) xs) ≡ xs) long (take-append_seam xs (drop (length xs) xs)))

-- ---- one cell more is read
module _ {A : Type 0} (slots : List Oid) (first now : List (ReadyCell A)) (i : ℕ) (d : ReadyCell A) (within : i < length first) (same : now ≡ first) where
  -- what holds of all holds of it
  pub at_turn : (P : ReadyCell A → Type 0) → All P first → P (get_or now i d)
  at_turn P all = subst (λ (cs : List (ReadyCell A)). P (get_or cs i d)) (sym same) (all i d within)

  -- it shows something
  pub turn_shown : (read : Option Cell) (out : Cell) (shows new : List Cell) → AllZip (λ cell o. Reads slots cell (Some o)) (take i first) shows
      → Reads slots (get_or now i d) read → read ≡ Some out → new ≡ shows ++ out ∷ [] → AllZip (λ cell o. Reads slots cell (Some o)) (take (i + 1) first) new
  turn_shown read out shows new before reads is more =
      let here : Reads slots (get_or first i d) (Some out) =
      subst (λ (o : Option Cell). Reads slots (get_or first i d) o) is (subst (λ (cs : List (ReadyCell A)). Reads slots (get_or cs i d) read) same reads) in
      subst (AllZip (λ cell o. Reads slots cell (Some o)) (take (i + 1) first)) (sym more)
      (next_pair (λ (cell : ReadyCell A) (o : Cell). Reads slots cell (Some o)) first shows i d out within before here)

  -- it shows nothing
  pub turn_none : (read : Option Cell) → Reads slots (get_or now i d) read → read ≡ None → ReadsRow slots first None
  turn_none read reads is =
      let here : Reads slots (get_or first i d) None =
      subst (λ (o : Option Cell). Reads slots (get_or first i d) o) is (subst (λ (cs : List (ReadyCell A)). Reads slots (get_or cs i d) read) same reads) in
      (get_or first i d, Contains-get_or first i d within, here)

-- ---- one cell more is made ready
pub next_made : {A : Type 0} (labels : List (List ℕ)) (edges : List Edge) (ranges : List Range) (of all : List CellOf) (made new : List (ReadyCell A)) (i : ℕ)
    (d : CellOf) (own : ReadyCell A) → all ≡ of → i < length all → AllZip (IsMadeReady labels edges ranges) (take i of) made
    → IsMadeReady labels edges ranges (get_or all i d) own → new ≡ made ++ own ∷ [] → AllZip (IsMadeReady labels edges ranges) (take (i + 1) of) new
next_made labels edges ranges of all made new i d own same within before here more =
    subst (AllZip (IsMadeReady labels edges ranges) (take (i + 1) of)) (sym more)
    (next_pair (IsMadeReady labels edges ranges) of made i d own (subst (λ (cs : List CellOf). i < length cs) same within) before
    (subst (λ (cs : List CellOf). IsMadeReady labels edges ranges (get_or cs i d) own) same here))

-- words that are the same are the same cell
pub same_put : {A : Type 0} (cell : ReadyCell A) (words new : WordsOver) → cell ≡ ready.Word words → new ≡ words → ready.Word new ≡ cell
same_put {A} cell words new is same = (let W : WordsOver → ReadyCell A = λ own. ready.Word own in ap W same) ∙ sym is
