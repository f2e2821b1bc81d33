-- The order of cells and of rows of them: it is total, and equal ones are one.
use Rattle.std.proofs.Common.{◌≡◌, Bool, List, Some, Less, Equal, Greater, refl, sym, ap, subst, length}
use Rattle.std.specs.Cmp.{IsTotalOrder, IsPartialOrder, IsEquivalence, partial_order_from_total, eq_by_cmp_equiv}
use Rattle.std.specs.Cmp.{nat_cmp_total, on_total, then_total}
use Rattle.std.specs.Cmp.Lexicographic.{slice_cmp, pointwise, lists_total, lists_equiv, lists_ties}
use Rattle.std.specs.FinMap.{nat_cmp-IsAntisymmetric, slice_cmp-IsAntisymmetric}
use Rattle.std.specs.Ordering.{nat_cmp, ordering_then, ordering_reverse, eq_by_cmp}
use Rattle.std.specs.declared.cmp.Ordering.{Ordering}
use Rattle.lore_base.specs.LeastWords.{label_cmp, shortlex_cmp}
use Rattle.lorel_bound.specs.Types.{Oid, Label, Cell}
use Rattle.lorel_bound.specs.Types.cells

-- cells of one kind stand in one column: objects by their numbers, words shortest first and then by label numbers
abbrev pub cell_cmp : Cell → Cell → Ordering
cell_cmp (cells.Object a) (cells.Object b) = nat_cmp a.0 b.0
cell_cmp (cells.Object a) (cells.Path b) = Less
cell_cmp (cells.Path a) (cells.Object b) = Greater
cell_cmp (cells.Path a) (cells.Path b) = shortlex_cmp a b

-- rows are ordered by their cells from the left
abbrev pub row_cmp : List Cell → List Cell → Ordering
row_cmp = slice_cmp cell_cmp

-- ---- the order is total
pub word_total : IsTotalOrder shortlex_cmp
word_total = then_total (on_total length nat_cmp_total) (lists_total (on_total (λ (label : Label). label.0) nat_cmp_total))

cell_antisymm : (a b : Cell) → cell_cmp a b ≡ ordering_reverse (cell_cmp b a)
cell_antisymm (cells.Object a) (cells.Object b) = nat_cmp_total.antisymm a.0 b.0
cell_antisymm (cells.Object a) (cells.Path b) = refl
cell_antisymm (cells.Path a) (cells.Object b) = refl
cell_antisymm (cells.Path a) (cells.Path b) = word_total.antisymm a b

cell_trans : (a b c : Cell) → cell_cmp a b ≡ Less → cell_cmp b c ≡ Less → cell_cmp a c ≡ Less
cell_trans (cells.Object a) (cells.Object b) (cells.Object c) ab bc = nat_cmp_total.trans a.0 b.0 c.0 ab bc
cell_trans (cells.Object a) (cells.Path b) (cells.Object c) ab bc = absurd (let e : ◌≡◌ {A = Ordering} Greater Less = bc in cc)
cell_trans (cells.Object a) b (cells.Path c) ab bc = refl
cell_trans (cells.Path a) (cells.Object b) c ab bc = absurd (let e : ◌≡◌ {A = Ordering} Greater Less = ab in cc)
cell_trans (cells.Path a) (cells.Path b) (cells.Object c) ab bc = absurd (let e : ◌≡◌ {A = Ordering} Greater Less = bc in cc)
cell_trans (cells.Path a) (cells.Path b) (cells.Path c) ab bc = word_total.trans a b c ab bc

cell_congr : (a b c : Cell) → cell_cmp a b ≡ Equal → cell_cmp a c ≡ cell_cmp b c
cell_congr (cells.Object a) (cells.Object b) (cells.Object c) tied = nat_cmp_total.congr a.0 b.0 c.0 tied
cell_congr (cells.Object a) (cells.Object b) (cells.Path c) tied = refl
cell_congr (cells.Object a) (cells.Path b) c tied = absurd (let e : ◌≡◌ {A = Ordering} Less Equal = tied in cc)
cell_congr (cells.Path a) (cells.Object b) c tied = absurd (let e : ◌≡◌ {A = Ordering} Greater Equal = tied in cc)
cell_congr (cells.Path a) (cells.Path b) (cells.Object c) tied = refl
cell_congr (cells.Path a) (cells.Path b) (cells.Path c) tied = word_total.congr a b c tied

pub cell_total : IsTotalOrder cell_cmp
cell_total = record { antisymm = cell_antisymm; trans = cell_trans; congr = cell_congr }

-- ---- equal cells
abbrev pub same_cell : Cell → Cell → Bool
same_cell = eq_by_cmp cell_cmp

pub cell_equiv : IsEquivalence same_cell
cell_equiv = eq_by_cmp_equiv cell_total

pub cell_ties : (a b : Cell) → same_cell a b ≡ eq_by_cmp cell_cmp a b
cell_ties a b = refl

pub cell_po : IsPartialOrder same_cell (λ a b. Some (cell_cmp a b))
cell_po = partial_order_from_total cell_total

-- ---- rows by their cells from the left
pub rows_total : IsTotalOrder row_cmp
rows_total = lists_total cell_total

pub rows_equiv : IsEquivalence (pointwise same_cell)
rows_equiv = lists_equiv cell_equiv

pub rows_ties : (a b : List Cell) → pointwise same_cell a b ≡ eq_by_cmp row_cmp a b
rows_ties = lists_ties cell_cmp cell_ties

pub rows_po : IsPartialOrder (pointwise same_cell) (λ a b. Some (row_cmp a b))
rows_po =
    subst (λ (test : List Cell → List Cell → Bool). IsPartialOrder test (λ a b. Some (row_cmp a b)))
    (λ i a b. sym (rows_ties a b) i) (partial_order_from_total rows_total)

-- ---- what compares as equal is one
same_oid : (a b : Oid) → a.0 ≡ b.0 → a ≡ b
same_oid a b same i = record { 0 = same i }

same_label : (a b : Label) → a.0 ≡ b.0 → a ≡ b
same_label a b same i = record { 0 = same i }

-- of two comparisons one after the other the second one decides where both are Equal
then_second : (a b : Ordering) → ordering_then a b ≡ Equal → b ≡ Equal
then_second Less b tied = absurd (let e : ◌≡◌ {A = Ordering} Less Equal = tied in cc)
then_second Equal b tied = tied
then_second Greater b tied = absurd (let e : ◌≡◌ {A = Ordering} Greater Equal = tied in cc)

-- words that compare as equal are one
pub tied_words : (a b : List Label) → shortlex_cmp a b ≡ Equal → a ≡ b
tied_words a b tied =
    slice_cmp-IsAntisymmetric (λ (l m : Label) same. same_label l m (nat_cmp-IsAntisymmetric l.0 m.0 same)) a b
    (then_second (nat_cmp (length a) (length b)) (slice_cmp label_cmp a b) tied)

-- cells that compare as equal are one
pub tied_cells : (a b : Cell) → cell_cmp a b ≡ Equal → a ≡ b
tied_cells (cells.Object a) (cells.Object b) tied = ap (λ (oid : Oid). cells.Object oid) (same_oid a b (nat_cmp-IsAntisymmetric a.0 b.0 tied))
tied_cells (cells.Object a) (cells.Path b) tied = absurd (let e : ◌≡◌ {A = Ordering} Less Equal = tied in cc)
tied_cells (cells.Path a) (cells.Object b) tied = absurd (let e : ◌≡◌ {A = Ordering} Greater Equal = tied in cc)
tied_cells (cells.Path a) (cells.Path b) tied = ap (λ (word : List Label). cells.Path word) (tied_words a b tied)

-- rows that compare as equal are one
pub tied_rows : (a b : List Cell) → row_cmp a b ≡ Equal → a ≡ b
tied_rows = slice_cmp-IsAntisymmetric tied_cells
