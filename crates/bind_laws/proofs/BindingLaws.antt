-- A select has one binding over some names, and has one where no cause of refusal applies.
use Rattle.std.proofs.Common.{◌≡◌, ◌≢◌, ℕ, zero, suc, inl, inr, List, [], ◌∷◌, ◌++◌, Option, Some, None, All, refl, sym, ap, subst, ◌∙◌}
use Rattle.std.specs.List.{AllZip, slice_get}
use Rattle.std.proofs.lemmas.List.Elements.{All-head, All-tail, All-contains, All-map, All-weaker}
use Rattle.std.proofs.lemmas.Option.{same_Some, slice_get-get_or}
use Rattle.lore_base.specs.Names.{object_of}
use Rattle.lore_base.specs.Paths.{PathTree, seq, trees_of}
use Rattle.lorel_bind.specs.Types.{Oid, Start, BoundStart, CellOf}
use Rattle.lorel_bind.specs.Types.shown
use Rattle.lorel_bind.specs.Types.starts
use Rattle.lorel_bind.specs.Types.bound_starts
use Rattle.lorel_ranges.specs.Places.{Place, CellPlace, object, word, cells_of}
use Rattle.lorel_bound.specs.Conditions.{OperandOf, constant, at, CondOf, or, and, not, exists, for_all, compare, same, CondsOf, no_cond, cond, operand_paths, paths_of, paths_of_all, paths_in}
use Rattle.lorel_ranges.specs.Conditions.{cond_of, cond_places}
use Rattle.lorel_ranges.specs.Ranges.{PlacedRange, places, AreFused, IsUsed}
use Rattle.lorel_ranges.specs.Texts.{ranged_identifiers}
use Rattle.lorel_bind.specs.Refusals.{StartsNowhere}
use Rattle.lorel_bound.specs.Bound.{RangeTree, BoundPathTree}
use Rattle.lorel_bind.specs.Bindings.{IsStartOfPlace, IsBoundStart, IsBoundRange, IsBoundCell, IsBoundPath, CorrespondOperands, Correspond, CorrespondEach, CorrespondIf}
use Rattle.bind_laws.specs.Laws.{HasOneBinding, HasSomeBinding}
use Rattle.lorel_ranges.specs.inside.Orders.{IsOpen, AreOrdered}
use Rattle.lorel_bind.specs.inside.Slots.{CanStart, CanShow, CanBind}
use Rattle.lore_base.proofs.ToldLaws.{told_member, told_bytes}
use Rattle.list_laws.proofs.PlaceLaws.{Contains-from_place}
use Rattle.lorel_ranges.proofs.ListLaws.{All-parts}
use Rattle.lorel_ranges.proofs.OrderLaws.{open_places, other_places}
use Rattle.lorel_ranges.proofs.GatherLaws.{has_one_plain, has_some_plain}
use Rattle.lorel_ranges.proofs.PlainLaws.{plain_ordered}
use Rattle.lorel_ranges.proofs.FuseLaws.{has_one_fused, fused_ordered}
use Rattle.lorel_ranges.proofs.PrefixLaws.{one_fixed, some_fixed, has_some_fused}
use Rattle.lorel_bind.proofs.ReadyLaws.{starts_can, cells_can, paths_can}

-- ---- what is related to one thing at most
module _ {P Q : Type 0} (R : P → Q → Type 0) (one : (p : P) (a b : Q) → R p a → R p b → a ≡ b) where
  one_pairs : (xs : List P) (ys zs : List Q) → AllZip R xs ys → AllZip R xs zs → ys ≡ zs
  one_pairs [] [] [] first second = refl
  one_pairs [] [] (z ∷ zs) first second = absurd second
  one_pairs [] (y ∷ ys) zs first second = absurd first
  one_pairs (x ∷ xs) [] zs first second = absurd first
  one_pairs (x ∷ xs) (y ∷ ys) [] first second = absurd second
  one_pairs (x ∷ xs) (y ∷ ys) (z ∷ zs) first second =
      let here = one x y z first.0 second.0 in
      let others = one_pairs xs ys zs first.1 second.1 in
      λ i. here i ∷ others i

  one_operand : (a : OperandOf P) (b c : OperandOf Q) → CorrespondOperands R a b → CorrespondOperands R a c → b ≡ c
  one_operand (constant a) (constant b) (constant c) first second = ap constant (sym first ∙ second)
  one_operand (constant a) (constant b) _ first second = absurd second
  one_operand (at a) (at b) (at c) first second = ap at (one a b c first second)
  one_operand (at a) (at b) _ first second = absurd second
  one_operand _ _ _ first second = absurd first

  mutual
    one_cond : (a : CondOf P) (b c : CondOf Q) → Correspond R a b → Correspond R a c → b ≡ c
    one_cond (or a) (or b) (or c) first second = ap or (one_conds a b c first second)
    one_cond (or a) (or b) _ first second = absurd second
    one_cond (and a) (and b) (and c) first second = ap and (one_conds a b c first second)
    one_cond (and a) (and b) _ first second = absurd second
    one_cond (not a) (not b) (not c) first second = ap not (one_cond a b c first second)
    one_cond (not a) (not b) _ first second = absurd second
    one_cond (exists a body) (exists b inner) (exists c other) first second =
        let path = one a b c first.0 second.0 in
        let behind = one_cond body inner other first.1 second.1 in
        λ i. exists (path i) (behind i)
    one_cond (exists a body) (exists b inner) _ first second = absurd second
    one_cond (for_all a body) (for_all b inner) (for_all c other) first second =
        let path = one a b c first.0 second.0 in
        let behind = one_cond body inner other first.1 second.1 in
        λ i. for_all (path i) (behind i)
    one_cond (for_all a body) (for_all b inner) _ first second = absurd second
    one_cond (compare a op right) (compare b by last) (compare c other end) first second =
        let left = one_operand a b c first.0 second.0 in
        let operator = sym first.1 ∙ second.1 in
        let behind = one_operand right last end first.2 second.2 in
        λ i. compare (left i) (operator i) (behind i)
    one_cond (compare a op right) (compare b by last) _ first second = absurd second
    one_cond (same a right) (same b last) (same c end) first second =
        let left = one a b c first.0 second.0 in
        let behind = one right last end first.1 second.1 in
        λ i. same (left i) (behind i)
    one_cond (same a right) (same b last) _ first second = absurd second
    one_cond _ _ _ first second = absurd first

    one_conds : (a : CondsOf P) (b c : CondsOf Q) → CorrespondEach R a b → CorrespondEach R a c → b ≡ c
    one_conds no_cond no_cond no_cond first second = refl
    one_conds no_cond no_cond _ first second = absurd second
    one_conds (cond a others) (cond b more) (cond c further) first second =
        let here = one_cond a b c first.0 second.0 in
        let behind = one_conds others more further first.1 second.1 in
        λ i. cond (here i) (behind i)
    one_conds (cond a others) (cond b more) _ first second = absurd second
    one_conds _ _ _ first second = absurd first

  one_option : (a : Option (CondOf P)) (b c : Option (CondOf Q)) → CorrespondIf R a b → CorrespondIf R a c → b ≡ c
  one_option None None None first second = refl
  one_option None None _ first second = absurd second
  one_option (Some a) (Some b) (Some c) first second = ap Some (one_cond a b c first second)
  one_option (Some a) (Some b) _ first second = absurd second
  one_option _ _ _ first second = absurd first

-- ---- what is related to some thing
module _ {P Q : Type 0} (R : P → Q → Type 0) where
  abbrev HasSome : P → Type 0
  HasSome p = (q : Q) × R p q

  some_pairs : (xs : List P) → All HasSome xs → (ys : List Q) × AllZip R xs ys
  some_pairs [] each = ([], tt)
  some_pairs (x ∷ xs) each =
      let here = All-head HasSome x xs each in
      let others = some_pairs xs (All-tail HasSome x xs each) in
      (here.0 ∷ others.0, (here.1, others.1))

  some_operand : (a : OperandOf P) → All HasSome (operand_paths a) → (b : OperandOf Q) × CorrespondOperands R a b
  some_operand (constant value) each = (constant value, refl)
  some_operand (at path) each = let here = All-head HasSome path [] each in (at here.0, here.1)

  mutual
    some_cond : (a : CondOf P) → All HasSome (paths_of a) → (b : CondOf Q) × Correspond R a b
    some_cond (or members) each = let made = some_conds members each in (or made.0, made.1)
    some_cond (and members) each = let made = some_conds members each in (and made.0, made.1)
    some_cond (not body) each = let made = some_cond body each in (not made.0, made.1)
    some_cond (exists path body) each =
        let here = All-head HasSome path (paths_of body) each in
        let made = some_cond body (All-tail HasSome path (paths_of body) each) in
        (exists here.0 made.0, (here.1, made.1))
    some_cond (for_all path body) each =
        let here = All-head HasSome path (paths_of body) each in
        let made = some_cond body (All-tail HasSome path (paths_of body) each) in
        (for_all here.0 made.0, (here.1, made.1))
    some_cond (compare left op right) each =
        let both = All-parts HasSome (operand_paths left) (operand_paths right) each in
        let first = some_operand left both.0 in
        let second = some_operand right both.1 in
        (compare first.0 op second.0, (first.1, refl, second.1))
    some_cond (same left right) each =
        let first = All-head HasSome left (right ∷ []) each in
        let second = All-head HasSome right [] (All-tail HasSome left (right ∷ []) each) in
        (same first.0 second.0, (first.1, second.1))

    some_conds : (a : CondsOf P) → All HasSome (paths_of_all a) → (b : CondsOf Q) × CorrespondEach R a b
    some_conds no_cond each = (no_cond, tt)
    some_conds (cond first others) each =
        let both = All-parts HasSome (paths_of first) (paths_of_all others) each in
        let here = some_cond first both.0 in
        let behind = some_conds others both.1 in
        (cond here.0 behind.0, (here.1, behind.1))

  some_option : (a : Option (CondOf P)) → All HasSome (paths_in a) → (b : Option (CondOf Q)) × CorrespondIf R a b
  some_option None each = (None, tt)
  some_option (Some condition) each = let made = some_cond condition each in (Some made.0, made.1)

-- ---- one start stands for a place
-- a later range has another place than the first
not_later : (earlier : List Place) (range : PlacedRange) (ranges : List PlacedRange) → AreOrdered earlier (range ∷ ranges) → (slot : ℕ) (place : Place)
    → range.place ≡ place → slice_get (places ranges) slot ≡ Some place → ⊥
not_later earlier range ranges ordered slot place is later =
    All-contains (λ p. p ≢ range.place) (places ranges) place
    (All-map (λ p. p ≢ range.place) (λ (r : PlacedRange). r.place) ranges (other_places earlier range ranges ordered))
    (Contains-from_place (places ranges) slot place later) (sym is)

-- no place stands twice
one_slot : (earlier : List Place) (ranges : List PlacedRange) → AreOrdered earlier ranges → (a b : ℕ) (place : Place)
    → slice_get (places ranges) a ≡ Some place → slice_get (places ranges) b ≡ Some place → a ≡ b
one_slot earlier [] ordered a b place first second = absurd cc
one_slot earlier (range ∷ ranges) ordered zero zero place first second = refl
one_slot earlier (range ∷ ranges) ordered zero (suc b) place first second =
    absurd (not_later earlier range ranges ordered b place (same_Some range.place place first) second)
one_slot earlier (range ∷ ranges) ordered (suc a) zero place first second =
    absurd (not_later earlier range ranges ordered a place (same_Some range.place place second) first)
one_slot earlier (range ∷ ranges) ordered (suc a) (suc b) place first second =
    ap suc (one_slot (earlier ++ range.place ∷ []) ranges ordered.1 a b place first second)

module _ (names : List (List ℕ × Oid)) (fused : List PlacedRange) (ordered : AreOrdered [] fused) where
  -- a slot's place is that of no name, and starts at no quantifier
  open_slot : (slot : ℕ) (place : Place) → slice_get (places fused) slot ≡ Some place → IsOpen place
  open_slot slot place is =
      All-contains IsOpen (places fused) place (All-map IsOpen (λ (r : PlacedRange). r.place) fused (open_places [] fused ordered))
      (Contains-from_place (places fused) slot place is)

  one_start : (place : Place) (a b : Start) → IsStartOfPlace names fused place a → IsStartOfPlace names fused place b → a ≡ b
  one_start place (starts.Named a) (starts.Named b) first second =
      let root = ap (λ (p : Place). p.root) (sym first.1 ∙ second.1) in
      let name : first.0 ≡ second.0 = cc in
      let object : Some a ≡ Some b = sym first.2 ∙ ap (object_of names) name ∙ second.2 in
      ap starts.Named (same_Some a b object)
  one_start place (starts.Named a) (starts.Slot b) first second = absurd ((open_slot b place second).unnamed (first.0, first.1))
  one_start place (starts.Slot a) (starts.Named b) first second = absurd ((open_slot a place first).unnamed (second.0, second.1))
  one_start place (starts.Slot a) (starts.Slot b) first second = ap starts.Slot (one_slot [] fused ordered a b place first second)

  abbrev any_of : Start → BoundStart
  any_of (starts.Named oid) = bound_starts.Named oid
  any_of (starts.Slot slot) = bound_starts.Slot slot

  one_bound_start : (place : Place) (a b : BoundStart) → IsBoundStart names fused place a → IsBoundStart names fused place b → a ≡ b
  one_bound_start place (bound_starts.Named a) (bound_starts.Named b) first second =
      ap any_of (one_start place (starts.Named a) (starts.Named b) first second)
  one_bound_start place (bound_starts.Named a) (bound_starts.Slot b) first second =
      ap any_of (one_start place (starts.Named a) (starts.Slot b) first second)
  one_bound_start place (bound_starts.Named a) (bound_starts.Quantified b) first second =
      let root = ap (λ (p : Place). p.root) (sym first.1 ∙ second) in absurd cc
  one_bound_start place (bound_starts.Slot a) (bound_starts.Named b) first second =
      ap any_of (one_start place (starts.Slot a) (starts.Named b) first second)
  one_bound_start place (bound_starts.Slot a) (bound_starts.Slot b) first second =
      ap any_of (one_start place (starts.Slot a) (starts.Slot b) first second)
  one_bound_start place (bound_starts.Slot a) (bound_starts.Quantified b) first second =
      absurd ((open_slot a place first).unquantified b (ap (λ (p : Place). p.root) second))
  one_bound_start place (bound_starts.Quantified a) (bound_starts.Named b) first second =
      let root = ap (λ (p : Place). p.root) (sym second.1 ∙ first) in absurd cc
  one_bound_start place (bound_starts.Quantified a) (bound_starts.Slot b) first second =
      absurd ((open_slot b place second).unquantified a (ap (λ (p : Place). p.root) first))
  one_bound_start place (bound_starts.Quantified a) (bound_starts.Quantified b) first second =
      let root = ap (λ (p : Place). p.root) (sym first ∙ second) in
      let depth : a ≡ b = cc in
      ap bound_starts.Quantified depth

  one_range : (range : PlacedRange) (a b : RangeTree) → IsBoundRange names fused range a → IsBoundRange names fused range b → a ≡ b
  one_range range a b first second =
      let start = one_start range.start a.start b.start first.start second.start in
      let path = first.path ∙ sym second.path in
      λ i. record { start = start i; path = path i }

  one_cell : (place : CellPlace) (a b : CellOf) → IsBoundCell names fused place a → IsBoundCell names fused place b → a ≡ b
  one_cell (object place) (shown.Object a) (shown.Object b) first second = ap shown.Object (one_start place a b first second)
  one_cell (word place) (shown.PathOf a) (shown.PathOf b) first second = ap shown.PathOf (one_slot [] fused ordered a b place first second)
  one_cell (object place) (shown.Object a) (shown.PathOf b) first second = absurd second
  one_cell (word place) (shown.PathOf a) (shown.Object b) first second = absurd second
  one_cell (object place) (shown.PathOf a) b first second = absurd first
  one_cell (word place) (shown.Object a) b first second = absurd first

  one_path : (plain : List PlacedRange) (path : Place) (a b : BoundPathTree) → IsBoundPath names plain fused path a
      → IsBoundPath names plain fused path b → a ≡ b
  one_path plain path a b first second =
      let same = one_fixed plain path first.fixed second.fixed first.rest second.rest first.is_fixed second.is_fixed in
      let start = one_bound_start second.fixed a.start b.start (subst (λ (p : Place). IsBoundStart names fused p a.start) same.0 first.begins)
      second.begins in
      let rest = first.goes_on ∙ ap (λ (parts : List PathTree). seq (trees_of parts)) same.1 ∙ sym second.goes_on in
      λ i. record { start = start i; rest = rest i }

-- ---- a select has one binding
pub has_one_binding : HasOneBinding
has_one_binding names query bound other first second =
    let plain = has_one_plain query second.plain first.plain second.made first.made in
    let fuses = subst (λ (rs : List PlacedRange). AreFused (IsUsed query rs) rs second.fused) plain second.fuses in
    let fused = has_one_fused query first.plain second.fused first.fused first.made fuses first.fuses in
    let ordered = fused_ordered (IsUsed query first.plain) first.plain first.fused (plain_ordered query first.plain first.made) first.fuses in
    let ranges = one_pairs (IsBoundRange names first.fused) (one_range names first.fused ordered) first.fused bound.ranges other.ranges first.ranges
    (subst (λ (rs : List PlacedRange). AllZip (IsBoundRange names rs) rs other.ranges) fused second.ranges) in
    let cells = one_pairs (IsBoundCell names first.fused) (one_cell names first.fused ordered) (cells_of query) bound.cells other.cells first.cells
    (subst (λ (rs : List PlacedRange). AllZip (IsBoundCell names rs) (cells_of query) other.cells) fused second.cells) in
    let condition = one_option (IsBoundPath names first.plain first.fused) (one_path names first.fused ordered first.plain) (cond_of query) bound.cond
    other.cond first.condition
    (subst (λ (rs : List PlacedRange). CorrespondIf (IsBoundPath names rs first.fused) (cond_of query) other.cond) plain
    (subst (λ (rs : List PlacedRange). CorrespondIf (IsBoundPath names second.plain rs) (cond_of query) other.cond) fused second.condition)) in
    λ i. record { ranges = ranges i; cells = cells i; cond = condition i }

-- ---- a select that is accepted has a binding
pub has_some_binding : HasSomeBinding
has_some_binding names query accepted =
    let plain = has_some_plain query in
    let fused = has_some_fused query plain.0 plain.1 in
    let ranges = some_pairs (IsBoundRange names fused.0) fused.0 (All-weaker _ _ (bound_range fused.0) fused.0
    (starts_can names query plain.0 fused.0 plain.1 fused.1 somewhere)) in
    let cells = some_pairs (IsBoundCell names fused.0) (cells_of query) (All-weaker _ _ (bound_cell fused.0) (cells_of query)
    (cells_can names query plain.0 fused.0 plain.1 fused.1 somewhere)) in
    let condition = some_option (IsBoundPath names plain.0 fused.0) (cond_of query) (All-weaker _ _ (bound_path plain.0 fused.0) (cond_places query)
    (paths_can names query plain.0 fused.0 plain.1 fused.1 somewhere)) in (
      record { ranges = ranges.0; cells = cells.0; cond = condition.0 },
      record {
        plain = plain.0;
        fused = fused.0;
        made = plain.1;
        fuses = fused.1;
        ranges = ranges.1;
        cells = cells.1;
        condition = condition.1;
      },
    )
  where
    somewhere : (start : List ℕ) → StartsNowhere names query start → ⊥
    somewhere start nowhere = elim (told_member told_bytes (ranged_identifiers query) start) [
      | inl there ↦ accepted.1.0 (inl (start, nowhere, there))
      | inr absent ↦ accepted.0 (start, nowhere, absent)
    ]

    bound_range : (fused : List PlacedRange) (range : PlacedRange) → CanStart names fused range.start → (bound : RangeTree) × IsBoundRange names fused range bound
    bound_range fused range can =
        (record { start = can.0; path = seq (trees_of range.parts) }, record { start = can.1; path = refl })

    bound_cell : (fused : List PlacedRange) (cell : CellPlace) → CanShow names fused cell → (bound : CellOf) × IsBoundCell names fused cell bound
    bound_cell fused (object place) can = (shown.Object can.0, can.1)
    bound_cell fused (word place) there =
        (shown.PathOf there.0, slice_get-get_or (places fused) there.0 place there.1 ∙ ap (λ (p : Place). Some p) there.2)

    bound_path : (plain fused : List PlacedRange) (path : Place) → CanBind names fused plain path
        → (bound : BoundPathTree) × IsBoundPath names plain fused path bound
    bound_path plain fused path can =
        let fixed = some_fixed plain path in
        let begins = can fixed.0 fixed.1 fixed.2 in (
          record { start = begins.0; rest = seq (trees_of fixed.1) },
          record { fixed = fixed.0; rest = fixed.1; is_fixed = fixed.2; begins = begins.1; goes_on = refl },
        )
