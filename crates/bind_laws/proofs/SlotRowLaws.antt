-- Binding keeps the rows: slots hold the objects of a valuation of the fused ranges, and make one.
use Rattle.std.proofs.Common.{◌≡◌, ◌≢◌, ℕ, zero, suc, ◌↔◌, inl, inr, cond, List, [], ◌∷◌, ◌++◌, length, map, Option, Some, None, All, subst, refl, sym, ap, ◌∙◌, arith}
use Rattle.std.specs.List.{Contains, AllZip, slice_get}
use Rattle.std.specs.Option.{option_map, unwrap_or}
use Rattle.std.proofs.lemmas.Bool.{cond-true, cond-false, false_from_ne_true}
use Rattle.std.proofs.lemmas.List.Elements.{All-nil, All-cons, All-head, All-tail, All-contains, All-map, All-weaker}
use Rattle.std.proofs.lemmas.Option.{slice_get-map, same_Some, none-some}
use Rattle.std.proofs.lemmas.Slice.Zip.{AllZip-long}
use Rattle.lore_base.specs.Databases.{Database}
use Rattle.lore_base.specs.Names.{object_of}
use Rattle.lore_base.specs.Paths.{PathTree, seq, trees_of, Reaches}
use Rattle.lore_base.specs.Comparisons.{Compares}
use Rattle.lore_base.specs.LeastWords.{IsLeast, IsSpelledWalk}
use Rattle.lore_base.proofs.MemberLaws.{Contains-none, Contains-cases}
use Rattle.list_laws.proofs.ZipLaws.{AllZip-place}
use Rattle.list_laws.proofs.PlaceLaws.{Contains-from_place}
use Rattle.lorel_trees.specs.Trees.{SelectTree}
use Rattle.lorel_bind.specs.Types.{Oid, Label, Start, BoundStart, Cell, CellOf}
use Rattle.lorel_bind.specs.Types.cells
use Rattle.lorel_bind.specs.Types.shown
use Rattle.lorel_bind.specs.Types.starts
use Rattle.lorel_bind.specs.Types.bound_starts
use Rattle.lorel_ranges.specs.Places.{Root, named, ranged, quantified, Place, at_root, CellPlace, object, word, cells_of}
use Rattle.lorel_bound.specs.Conditions.{OperandOf, constant, at, CondOf, or, and, not, exists, for_all, compare, same, CondsOf, no_cond, cond as conds}
use Rattle.lorel_ranges.specs.Conditions.{cond_of}
use Rattle.lorel_ranges.specs.Ranges.{PlacedRange, places, IsUsed}
use Rattle.lorel_bind.specs.Answers.{Leads, IsObjectOf, HasObject, IsReachedBy, HasValue, HoldsAt, IsWordAt, ShowsCell, IsRowOver}
use Rattle.lorel_bound.specs.Bound.{RangeTree, BoundPathTree, BoundTree}
use Rattle.lorel_bind.specs.Bindings.{IsStartOfPlace, IsBoundStart, IsBoundRange, IsBoundCell, IsBoundPath, CorrespondOperands, Correspond, CorrespondEach, CorrespondIf, IsBinding}
use Rattle.lorel_bound.specs.SlotRows.{StartsAt, BoundStartsAt, MeetsBy, HoldsOver, IsSlotWord, ShowsSlot, IsSlotRow}
use Rattle.bind_laws.specs.Laws.{BindingKeepsRows}
use Rattle.lorel_ranges.specs.inside.Equality.{same_place}
use Rattle.lorel_ranges.specs.inside.Orders.{IsOpen, AreOrdered}
use Rattle.lorel_ranges.proofs.ListLaws.{map-same}
use Rattle.lorel_ranges.proofs.PlaceLaws.{same_place-Decides}
use Rattle.lorel_ranges.proofs.OrderLaws.{open_places, other_places}
use Rattle.lorel_ranges.proofs.PlainLaws.{plain_ordered}
use Rattle.lorel_ranges.proofs.FuseLaws.{fused_ordered}
use Rattle.lorel_ranges.proofs.PrefixLaws.{one_fixed}
use Rattle.bind_laws.proofs.FusedRowLaws.{fusing_keeps_rows}
use Rattle.bind_laws.proofs.ConditionLaws.{ReachAlike, holds_like}

-- ---- conditions that are alike in one way are alike in another
module _ {P Q : Type 0} (R S : P → Q → Type 0) (weaker : (p : P) (q : Q) → R p q → S p q) where
  operand_weaker : (a : OperandOf P) (b : OperandOf Q) → CorrespondOperands R a b → CorrespondOperands S a b
  operand_weaker (constant a) (constant b) like = like
  operand_weaker (at a) (at b) like = weaker a b like
  operand_weaker _ _ like = absurd like

  mutual
    pub Correspond-weaker : (a : CondOf P) (b : CondOf Q) → Correspond R a b → Correspond S a b
    Correspond-weaker (or a) (or b) like = CorrespondEach-weaker a b like
    Correspond-weaker (and a) (and b) like = CorrespondEach-weaker a b like
    Correspond-weaker (not a) (not b) like = Correspond-weaker a b like
    Correspond-weaker (exists a body) (exists b other) like = (weaker a b like.0, Correspond-weaker body other like.1)
    Correspond-weaker (for_all a body) (for_all b other) like = (weaker a b like.0, Correspond-weaker body other like.1)
    Correspond-weaker (compare a op right) (compare b other last) like = (operand_weaker a b like.0, like.1, operand_weaker right last like.2)
    Correspond-weaker (same a right) (same b last) like = (weaker a b like.0, weaker right last like.1)
    Correspond-weaker _ _ like = absurd like

    CorrespondEach-weaker : (a : CondsOf P) (b : CondsOf Q) → CorrespondEach R a b → CorrespondEach S a b
    CorrespondEach-weaker no_cond no_cond like = tt
    CorrespondEach-weaker (conds a others) (conds b more) like = (Correspond-weaker a b like.0, CorrespondEach-weaker others more like.1)
    CorrespondEach-weaker _ _ like = absurd like

-- ---- what stands at a slot
-- the range that has the place of a slot stands at that slot
placed_at : (ranges : List PlacedRange) (slot : ℕ) (place : Place) → slice_get (places ranges) slot ≡ Some place
    → (range : PlacedRange) × (slice_get ranges slot ≡ Some range) × (range.place ≡ place)
placed_at [] slot place is = absurd (none-some place is)
placed_at (range ∷ ranges) zero place is = (range, refl, same_Some range.place place is)
placed_at (range ∷ ranges) (suc slot) place is = placed_at ranges slot place is

-- where what goes in pairs is alike to what stands in a third list, so are the lists
pairs_alike : {P Q R : Type 0} (A : P → Q → Type 0) (B : P → R → Type 0) (C : Q → R → Type 0)
    → ((p : P) (q : Q) (r : R) → A p q → B p r ↔ C q r) → (xs : List P) (ys : List Q) (zs : List R) → AllZip A xs ys
    → AllZip B xs zs ↔ AllZip C ys zs
pairs_alike A B C alike [] [] [] pairs = (λ h. h, λ h. h)
pairs_alike A B C alike [] [] (z ∷ zs) pairs = (λ h. h, λ h. h)
pairs_alike A B C alike [] (y ∷ ys) zs pairs = absurd pairs
pairs_alike A B C alike (x ∷ xs) [] zs pairs = absurd pairs
pairs_alike A B C alike (x ∷ xs) (y ∷ ys) [] pairs = (λ h. h, λ h. h)
pairs_alike A B C alike (x ∷ xs) (y ∷ ys) (z ∷ zs) pairs =
    let first = alike x y z pairs.0 in
    let others = pairs_alike A B C alike xs ys zs pairs.1 in
    (λ h. (first.0 h.0, others.0 h.1), λ h. (first.1 h.0, others.1 h.1))

-- no two ranges have one place
one_at_place : (earlier : List Place) (ranges : List PlacedRange) → AreOrdered earlier ranges → (a b : PlacedRange) → Contains ranges a → Contains ranges b
    → a.place ≡ b.place → a ≡ b
one_at_place earlier [] ordered a b first second alike = absurd (Contains-none a first)
one_at_place earlier (range ∷ ranges) ordered a b first second alike =
    let apart = other_places earlier range ranges ordered in
    let later = λ (c : PlacedRange) (there : Contains ranges c). All-contains (λ r. r.place ≢ range.place) ranges c apart there in
    elim (Contains-cases range ranges a first) [
      | inl here ↦ elim (Contains-cases range ranges b second) [
        | inl there ↦ sym here ∙ there
        | inr behind ↦ absurd (later b behind (sym alike ∙ ap (λ (r : PlacedRange). r.place) (sym here)))
      ]
      | inr behind ↦ elim (Contains-cases range ranges b second) [
        | inl there ↦ absurd (later a behind (alike ∙ ap (λ (r : PlacedRange). r.place) (sym there)))
        | inr further ↦ one_at_place (earlier ++ range.place ∷ []) ranges ordered.1 a b behind further alike
      ]
    ]

-- the least word of one path between two objects
walk_same : (db : Database) (path other : PathTree) (start first oid last : Oid) (labels : List Label) → path ≡ other → start ≡ first → oid ≡ last
    → IsLeast (IsSpelledWalk db.labels db.graph.edges path start oid) labels
    → IsLeast (IsSpelledWalk db.labels db.graph.edges other first last) labels
walk_same db path other start first oid last labels paths starts ends least =
    subst (λ (o : Oid). IsLeast (IsSpelledWalk db.labels db.graph.edges other first o) labels) ends
    (subst (λ (o : Oid). IsLeast (IsSpelledWalk db.labels db.graph.edges other o oid) labels) starts
    (subst (λ (p : PathTree). IsLeast (IsSpelledWalk db.labels db.graph.edges p start oid) labels) paths least))

-- ---- slots that hold the objects of a valuation
module _ (db : Database) (fused : List PlacedRange) (valued : Place → Oid) (slots : List Oid)
    (named_objects : (name : List ℕ) (oid : Oid) → object_of db.graph.names name ≡ Some oid → valued (at_root (named name)) ≡ oid)
    (held : slots ≡ map valued (places fused)) where
  slot_object : (slot : ℕ) (place : Place) → slice_get (places fused) slot ≡ Some place → slice_get slots slot ≡ Some (valued place)
  slot_object slot place is =
      ap (λ (os : List Oid). slice_get os slot) held ∙ slice_get-map valued (places fused) slot ∙ ap (option_map valued) is

  starts_at : (place : Place) (start : Start) → IsStartOfPlace db.graph.names fused place start → StartsAt slots start (valued place)
  starts_at place (starts.Named own) stands = sym (ap valued stands.1 ∙ named_objects stands.0 own stands.2)
  starts_at place (starts.Slot slot) stands = slot_object slot place stands

  started_at : (place : Place) (start : Start) (oid : Oid) → IsStartOfPlace db.graph.names fused place start → StartsAt slots start oid → oid ≡ valued place
  started_at place (starts.Named own) oid stands begins = sym begins ∙ starts_at place (starts.Named own) stands
  started_at place (starts.Slot slot) oid stands begins = same_Some oid (valued place) (sym begins ∙ slot_object slot place stands)

  -- ranges
  abbrev Holding : RangeTree → Oid → Type 0
  Holding range oid = (start : Oid) × StartsAt slots range.start start × Reaches db.labels db.graph.edges range.path start oid

  abbrev Meets : PlacedRange → Type 0
  Meets range = Leads db range.parts (valued range.start) (valued range.place)

  filled_from : (ranges : List PlacedRange) (bound : List RangeTree) → AllZip (IsBoundRange db.graph.names fused) ranges bound → All Meets ranges
      → AllZip Holding bound (map valued (places ranges))
  filled_from [] [] stands meets = tt
  filled_from [] (b ∷ bound) stands meets = absurd stands
  filled_from (range ∷ ranges) [] stands meets = absurd stands
  filled_from (range ∷ ranges) (b ∷ bound) stands meets = (
    (
      valued range.start,
      starts_at range.start b.start stands.0.start,
      subst (λ (path : PathTree). Reaches db.labels db.graph.edges path (valued range.start) (valued range.place)) (sym stands.0.path)
          (All-head Meets range ranges meets),
    ),
    filled_from ranges bound stands.1 (All-tail Meets range ranges meets),
  )

  meets_from : (ranges : List PlacedRange) (bound : List RangeTree) → AllZip (IsBoundRange db.graph.names fused) ranges bound
      → AllZip Holding bound (map valued (places ranges)) → All Meets ranges
  meets_from [] [] stands filled = All-nil Meets
  meets_from [] (b ∷ bound) stands filled = absurd stands
  meets_from (range ∷ ranges) [] stands filled = absurd stands
  meets_from (range ∷ ranges) (b ∷ bound) stands filled =
      All-cons Meets range ranges
      (subst (λ (oid : Oid). Leads db range.parts oid (valued range.place)) (started_at range.start b.start filled.0.0 stands.0.start filled.0.1)
      (subst (λ (path : PathTree). Reaches db.labels db.graph.edges path filled.0.0 (valued range.place)) stands.0.path filled.0.2))
      (meets_from ranges bound stands.1 filled.1)

  -- words
  -- the word of a fused range is that of its slot
  slot_word : (bound : List RangeTree) → AreOrdered [] fused → AllZip (IsBoundRange db.graph.names fused) fused bound → (place : Place) (slot : ℕ)
      (labels : List Label) → slice_get (places fused) slot ≡ Some place → IsWordAt db fused valued place labels
      → IsSlotWord db.labels db.graph.edges bound slots slot labels
  slot_word bound ordered stands place slot labels is h =
      let own = placed_at fused slot place is in
      let same : own.0 ≡ h.range = one_at_place [] fused ordered own.0 h.range (Contains-from_place fused slot own.0 own.1) h.there (own.2 ∙ sym h.is) in
      let pair = AllZip-place (IsBoundRange db.graph.names fused) fused bound slot own.0 stands own.1 in
      let path : pair.0.path ≡ seq (trees_of h.range.parts) = pair.2.path ∙ ap (λ (r : PlacedRange). seq (trees_of r.parts)) same in
      record {
        range = pair.0;
        there = pair.1;
        start = valued h.range.start;
        begins = subst (λ (r : PlacedRange). StartsAt slots pair.0.start (valued r.start)) same (starts_at own.0.start pair.0.start pair.2.start);
        oid = valued place;
        ends = slot_object slot place is;
        least = subst (λ (p : PathTree). IsLeast (IsSpelledWalk db.labels db.graph.edges p (valued h.range.start) (valued place)) labels)
            (sym path) h.least;
      }

  -- and the other way round
  word_of_slot : (bound : List RangeTree) → AllZip (IsBoundRange db.graph.names fused) fused bound → (place : Place) (slot : ℕ)
      (labels : List Label) → slice_get (places fused) slot ≡ Some place → IsSlotWord db.labels db.graph.edges bound slots slot labels
      → IsWordAt db fused valued place labels
  word_of_slot bound stands place slot labels is h =
      let own = placed_at fused slot place is in
      let pair = AllZip-place (IsBoundRange db.graph.names fused) fused bound slot own.0 stands own.1 in
      let range : h.range ≡ pair.0 = same_Some h.range pair.0 (sym h.there ∙ pair.1) in
      let begins = subst (λ (r : RangeTree). StartsAt slots r.start h.start) range h.begins in
      let start : h.start ≡ valued own.0.start = started_at own.0.start pair.0.start h.start pair.2.start begins in
      let oid : h.oid ≡ valued place = same_Some h.oid (valued place) (sym h.ends ∙ slot_object slot place is) in
      let path : h.range.path ≡ seq (trees_of own.0.parts) = ap (λ (r : RangeTree). r.path) range ∙ pair.2.path in
      record {
        range = own.0;
        there = Contains-from_place fused slot own.0 own.1;
        is = own.2;
        least = walk_same db h.range.path (seq (trees_of own.0.parts)) h.start (valued own.0.start) h.oid (valued place) labels path start oid h.least;
      }

  -- cells
  cells_alike : (bound : List RangeTree) → AreOrdered [] fused → AllZip (IsBoundRange db.graph.names fused) fused bound
      → (place : CellPlace) (own : CellOf) (cell : Cell) → IsBoundCell db.graph.names fused place own
      → ShowsCell db fused valued place cell ↔ ShowsSlot db.labels db.graph.edges bound slots own cell
  cells_alike bound ordered ranges (object place) (shown.Object start) (cells.Object oid) stands =
      (λ shows. subst (StartsAt slots start) shows (starts_at place start stands), λ shows. sym (started_at place start oid stands shows))
  cells_alike bound ordered ranges (word place) (shown.PathOf slot) (cells.Path labels) stands =
      (slot_word bound ordered ranges place slot labels stands, word_of_slot bound ranges place slot labels stands)
  cells_alike bound ordered ranges (object place) (shown.Object start) (cells.Path labels) stands = (λ shows. shows, λ shows. shows)
  cells_alike bound ordered ranges (word place) (shown.PathOf slot) (cells.Object oid) stands = (λ shows. shows, λ shows. shows)
  cells_alike bound ordered ranges (object place) (shown.PathOf slot) cell stands = absurd stands
  cells_alike bound ordered ranges (word place) (shown.Object start) cell stands = absurd stands

  -- the condition
  open_object : (objects : List Oid) (root : Root) (place oid : Oid) → ((depth : ℕ) → root ≡ quantified depth → ⊥)
      → IsObjectOf place objects root oid ↔ (place ≡ oid)
  open_object objects (named name) place oid unquantified = (λ h. h, λ h. h)
  open_object objects (ranged variable) place oid unquantified = (λ h. h, λ h. h)
  open_object objects (quantified depth) place oid unquantified = absurd (unquantified depth refl)

  any_starts_at : ((place : Place) → Contains (places fused) place → IsOpen place) → (objects : List Oid) (place : Place) (start : BoundStart) (oid : Oid)
      → IsBoundStart db.graph.names fused place start → HasObject valued objects place oid ↔ BoundStartsAt slots objects start oid
  any_starts_at opens objects place (bound_starts.Named own) oid stands =
      let object = starts_at place (starts.Named own) (stands.0, stands.1, stands.2) in
      let same = open_object objects place.root (valued place) oid (λ depth is. (let root = ap (λ (p : Place). p.root) stands.1 in cc)) in
      (λ h. object ∙ same.0 h, λ h. same.1 (sym object ∙ h))
  any_starts_at opens objects place (bound_starts.Slot slot) oid stands =
      let object = slot_object slot place stands in
      let same = open_object objects place.root (valued place) oid (opens place (Contains-from_place (places fused) slot place stands)).unquantified in
      (λ h. object ∙ ap Some (same.0 h), λ h. same.1 (same_Some (valued place) oid (sym object ∙ h)))
  any_starts_at opens objects place (bound_starts.Quantified depth) oid stands =
      (subst (λ (p : Place). HasObject valued objects p oid) stands, subst (λ (p : Place). HasObject valued objects p oid) (sym stands))

  paths_alike : (plain : List PlacedRange) → ((place : Place) → Contains (places fused) place → IsOpen place) → (path : Place) (bound : BoundPathTree)
      → IsBoundPath db.graph.names plain fused path bound
      → ReachAlike (IsReachedBy db plain valued) (MeetsBy db.labels db.graph.edges slots) path bound
  paths_alike plain opens path bound is objects oid = (
    λ h.
        let same = one_fixed plain path is.fixed h.fixed is.rest h.rest is.is_fixed h.is_fixed in (
          h.start,
          (any_starts_at opens objects is.fixed bound.start h.start is.begins).0
              (subst (λ (p : Place). HasObject valued objects p h.start) (sym same.0) h.begins),
          subst (λ (path : PathTree). Reaches db.labels db.graph.edges path h.start oid)
              (ap (λ (parts : List PathTree). seq (trees_of parts)) (sym same.1) ∙ sym is.goes_on) h.leads,
        ),
    λ h. record {
      fixed = is.fixed;
      rest = is.rest;
      is_fixed = is.is_fixed;
      start = h.0;
      begins = (any_starts_at opens objects is.fixed bound.start h.0 is.begins).1 h.1;
      leads = subst (λ (path : PathTree). Reaches db.labels db.graph.edges path h.0 oid) is.goes_on h.2;
    },
  )

  holds_alike : (plain : List PlacedRange) → ((place : Place) → Contains (places fused) place → IsOpen place)
      → (text : Option (CondOf Place)) (bound : Option (CondOf BoundPathTree)) → CorrespondIf (IsBoundPath db.graph.names plain fused) text bound
      → HoldsAt db plain valued text ↔ HoldsOver db.labels db.graph.edges db.graph.objects slots bound
  holds_alike plain opens None None like = (λ h. h, λ h. h)
  holds_alike plain opens (Some text) (Some bound) like =
      holds_like (IsReachedBy db plain valued) (MeetsBy db.labels db.graph.edges slots) (HasValue db) Compares text bound
      (Correspond-weaker (IsBoundPath db.graph.names plain fused) (ReachAlike (IsReachedBy db plain valued) (MeetsBy db.labels db.graph.edges slots))
      (paths_alike plain opens) text bound like) []
  holds_alike plain opens _ _ like = absurd like

-- ---- a valuation from slots
-- the object of the slot that has the place, where there is one
slot_of : List Place → List Oid → Place → Oid
slot_of (first ∷ others) (oid ∷ slots) place = cond (same_place place first) oid (slot_of others slots place)
slot_of _ _ place = record { 0 = 0 }

-- the object of a name, otherwise that of a slot
object_at : List (List ℕ × Oid) → List Place → List Oid → Root → List PathTree → Oid
object_at names all slots (named name) [] = unwrap_or (object_of names name) (record { 0 = 0 })
object_at names all slots root parts = slot_of all slots (record { root = root; parts = parts })

value_at : List (List ℕ × Oid) → List Place → List Oid → Place → Oid
value_at names all slots place = object_at names all slots place.root place.parts

value_named : (names : List (List ℕ × Oid)) (all : List Place) (slots : List Oid) (name : List ℕ) (oid : Oid) → object_of names name ≡ Some oid
    → value_at names all slots (at_root (named name)) ≡ oid
unfolding object_at value_at
value_named names all slots name oid is = ap (λ (o : Option Oid). unwrap_or o (record { 0 = 0 })) is

object_open : (names : List (List ℕ × Oid)) (all : List Place) (slots : List Oid) (root : Root) (parts : List PathTree)
    → IsOpen (record { root = root; parts = parts }) → object_at names all slots root parts ≡ slot_of all slots (record { root = root; parts = parts })
unfolding object_at
object_open names all slots (named name) [] is_open = absurd (is_open.unnamed (name, refl))
object_open names all slots (named name) (part ∷ parts) is_open = refl
object_open names all slots (ranged variable) parts is_open = refl
object_open names all slots (quantified depth) parts is_open = refl

value_open : (names : List (List ℕ × Oid)) (all : List Place) (slots : List Oid) (place : Place) → IsOpen place
    → value_at names all slots place ≡ slot_of all slots place
unfolding value_at
value_open names all slots place is_open = object_open names all slots place.root place.parts is_open

-- each slot's place has its object, where no place stands twice
slots_read : (earlier : List Place) (ranges : List PlacedRange) (slots : List Oid) → AreOrdered earlier ranges → length slots ≡ length ranges
    → map (slot_of (places ranges) slots) (places ranges) ≡ slots
unfolding slot_of
slots_read earlier [] [] ordered long = refl
slots_read earlier [] (oid ∷ slots) ordered long = absurd (omega arith)
slots_read earlier (range ∷ ranges) [] ordered long = absurd (omega arith)
slots_read earlier (range ∷ ranges) (oid ∷ slots) ordered long =
    let first : slot_of (range.place ∷ places ranges) (oid ∷ slots) range.place ≡ oid =
    cond-true (same_place range.place range.place) oid (slot_of (places ranges) slots range.place) ((same_place-Decides range.place range.place).1 refl) in
    let behind : map (slot_of (range.place ∷ places ranges) (oid ∷ slots)) (places ranges) ≡ map (slot_of (places ranges) slots) (places ranges) =
    map-same (slot_of (range.place ∷ places ranges) (oid ∷ slots)) (slot_of (places ranges) slots) (places ranges)
    (All-map (λ place. slot_of (range.place ∷ places ranges) (oid ∷ slots) place ≡ slot_of (places ranges) slots place) (λ (r : PlacedRange). r.place) ranges
    (All-weaker (λ r. r.place ≢ range.place) (λ r. slot_of (range.place ∷ places ranges) (oid ∷ slots) r.place ≡ slot_of (places ranges) slots r.place)
    (λ r apart. cond-false (same_place r.place range.place) oid (slot_of (places ranges) slots r.place)
    (false_from_ne_true (same_place r.place range.place) (λ same. apart ((same_place-Decides r.place range.place).0 same))))
    ranges (other_places earlier range ranges ordered))) in
    let others = slots_read (earlier ++ range.place ∷ []) ranges slots ordered.1 (omega arith) in
    cc

values_read : (names : List (List ℕ × Oid)) (ranges : List PlacedRange) (slots : List Oid) → AreOrdered [] ranges → length slots ≡ length ranges
    → slots ≡ map (value_at names (places ranges) slots) (places ranges)
values_read names ranges slots ordered long =
    sym (map-same (value_at names (places ranges) slots) (slot_of (places ranges) slots) (places ranges)
    (All-map (λ place. value_at names (places ranges) slots place ≡ slot_of (places ranges) slots place) (λ (r : PlacedRange). r.place) ranges
    (All-weaker (λ r. IsOpen r.place) (λ r. value_at names (places ranges) slots r.place ≡ slot_of (places ranges) slots r.place)
    (λ r is_open. value_open names (places ranges) slots r.place is_open) ranges (open_places [] ranges ordered)))
    ∙ slots_read [] ranges slots ordered long)

-- ---- the rows of a bound select
module _ (db : Database) (query : SelectTree) (bound : BoundTree) (b : IsBinding db.graph.names query bound) (row : List Cell) where
  in_order : AreOrdered [] b.fused
  in_order = fused_ordered (IsUsed query b.plain) b.plain b.fused (plain_ordered query b.plain b.made) b.fuses

  all_open : (place : Place) → Contains (places b.fused) place → IsOpen place
  all_open place there =
      All-contains IsOpen (places b.fused) place (All-map IsOpen (λ (r : PlacedRange). r.place) b.fused (open_places [] b.fused in_order)) there

  -- the row shows cells of the text where it shows those of the slots
  cells_shown : (valued : Place → Oid) (slots : List Oid)
      → (named_objects : (name : List ℕ) (oid : Oid) → object_of db.graph.names name ≡ Some oid → valued (at_root (named name)) ≡ oid)
      → (held : slots ≡ map valued (places b.fused))
      → AllZip (ShowsCell db b.fused valued) (cells_of query) row ↔ AllZip (ShowsSlot db.labels db.graph.edges bound.ranges slots) bound.cells row
  cells_shown valued slots named_objects held =
      pairs_alike (IsBoundCell db.graph.names b.fused) (ShowsCell db b.fused valued) (ShowsSlot db.labels db.graph.edges bound.ranges slots)
      (cells_alike db b.fused valued slots named_objects held bound.ranges in_order b.ranges) (cells_of query) bound.cells row b.cells

  slot_row : IsRowOver db query b.plain b.fused row → IsSlotRow db bound row
  slot_row h =
      let slots = map h.at (places b.fused) in
      let named_objects = h.valuation.named in
      record {
        slots = slots;
        filled = filled_from db b.fused h.at slots named_objects refl b.fused bound.ranges b.ranges h.valuation.reached;
        holds = (holds_alike db b.fused h.at slots named_objects refl b.plain all_open (cond_of query) bound.cond b.condition).0 h.holds;
        shown = (cells_shown h.at slots named_objects refl).0 h.shown;
      }

  range_row : IsSlotRow db bound row → IsRowOver db query b.plain b.fused row
  range_row h =
      let names = db.graph.names in
      let valued = value_at names (places b.fused) h.slots in
      let long : length h.slots ≡ length b.fused = AllZip-long _ bound.ranges h.slots h.filled ∙ AllZip-long _ b.fused bound.ranges b.ranges in
      let held : h.slots ≡ map valued (places b.fused) = values_read names b.fused h.slots in_order long in
      let named_objects = value_named names (places b.fused) h.slots in
      record {
        at = valued;
        valuation = record {
          named = named_objects;
          reached = meets_from db b.fused valued h.slots named_objects held b.fused bound.ranges b.ranges
              (subst (λ (os : List Oid). AllZip (Holding db b.fused valued h.slots named_objects held) bound.ranges os) held h.filled);
        };
        holds = (holds_alike db b.fused valued h.slots named_objects held b.plain all_open (cond_of query) bound.cond b.condition).1 h.holds;
        shown = (cells_shown valued h.slots named_objects held).1 h.shown;
      }

pub binding_keeps_rows : BindingKeepsRows
binding_keeps_rows db query bound b row =
    let fused = fusing_keeps_rows db query b.plain b.fused b.made b.fuses row in
    (λ h. slot_row db query bound b row (fused.0 h), λ h. fused.1 (range_row db query bound b row h))
