-- What binding gives can be run: few ranges and few leaves, in order, and cells within them.
use Rattle.std.proofs.Common.{◌≡◌, ℕ, ◌-◌, ◌<◌, ◌≤◌, inl, inr, List, [], ◌∷◌, ◌++◌, length, Option, Some, None, All, subst, refl, sym, ap, ◌∙◌, append_assoc, arith, length-append}
use Rattle.std.specs.List.{Contains, AllZip, sum_by, slice_get}
use Rattle.std.proofs.lemmas.Bool.{cases_lt}
use Rattle.std.proofs.lemmas.List.{length-map, get_or-append_right}
use Rattle.std.proofs.lemmas.List.Elements.{All-nil, All-cons, All-contains, All-map}
use Rattle.std.proofs.lemmas.List.Sums.{sum_by-cons}
use Rattle.std.proofs.lemmas.Option.{slice_get_within, get_or_from_slice_get}
use Rattle.std.proofs.lemmas.Slice.Zip.{AllZip-long}
use Rattle.lore_base.specs.Paths.{trees_of, leaves, leaves_of}
use Rattle.lorel_trees.specs.Trees.{SelectTree}
use Rattle.lorel_bind.specs.Types.{Oid, Start, BoundStart, CellOf, RANGES, LEAVES}
use Rattle.lorel_bind.specs.Types.shown
use Rattle.lorel_bind.specs.Types.starts
use Rattle.lorel_bind.specs.Types.bound_starts
use Rattle.lorel_ranges.specs.Places.{Place, CellPlace, object, word, cells_of}
use Rattle.lorel_bound.specs.Conditions.{OperandOf, constant, at, CondOf, or, and, not, exists, for_all, compare, same, CondsOf, no_cond, cond, paths_in, operand_paths, paths_of, paths_of_all}
use Rattle.lorel_ranges.specs.Conditions.{cond_of, cond_places}
use Rattle.lorel_ranges.specs.Ranges.{PlacedRange, places, IsUsed}
use Rattle.lorel_ranges.specs.Texts.{text_places}
use Rattle.lorel_bind.specs.Refusals.{leaves_in, HasTooMany, IsAccepted}
use Rattle.lorel_bound.specs.Bound.{RangeTree, BoundPathTree, BoundTree}
use Rattle.lorel_bind.specs.Bindings.{IsStartOfPlace, IsBoundStart, IsBoundRange, IsBoundCell, IsBoundPath, CorrespondOperands, Correspond, CorrespondEach, CorrespondIf, IsBinding}
use Rattle.lorel_bound.specs.Runnable.{IsWithin, IsCellWithin, IsBoundWithin, AreInOrder, IsRunnable}
use Rattle.lorel_ranges.specs.inside.Orders.{IsOpen, IsFound, AreOrdered}
use Rattle.lorel_ranges.proofs.ListLaws.{AllZip-append}
use Rattle.lorel_ranges.proofs.OrderLaws.{new_places, open_places}
use Rattle.lorel_ranges.proofs.PlainLaws.{plain_ordered}
use Rattle.lorel_ranges.proofs.FuseLaws.{fused_ordered}
use Rattle.lorel_bind.proofs.LeafLaws.{range_leaves, fused_leaves, rest_leaves}

-- ---- the paths of conditions that correspond
module _ {P Q : Type 0} (R : P → Q → Type 0) where
  operand_pairs : (a : OperandOf P) (b : OperandOf Q) → CorrespondOperands R a b → AllZip R (operand_paths a) (operand_paths b)
  operand_pairs (constant a) (constant b) like = tt
  operand_pairs (at a) (at b) like = (like, tt)
  operand_pairs _ _ like = absurd like

  mutual
    path_pairs : (a : CondOf P) (b : CondOf Q) → Correspond R a b → AllZip R (paths_of a) (paths_of b)
    path_pairs (or a) (or b) like = all_pairs a b like
    path_pairs (and a) (and b) like = all_pairs a b like
    path_pairs (not a) (not b) like = path_pairs a b like
    path_pairs (exists a body) (exists b other) like = (like.0, path_pairs body other like.1)
    path_pairs (for_all a body) (for_all b other) like = (like.0, path_pairs body other like.1)
    path_pairs (compare a op right) (compare b other last) like =
        AllZip-append R (operand_paths a) (operand_paths right) (operand_paths b) (operand_paths last)
        (operand_pairs a b like.0) (operand_pairs right last like.2)
    path_pairs (same a right) (same b last) pairs = (pairs.0, (pairs.1, tt))
    path_pairs _ _ like = absurd like

    all_pairs : (a : CondsOf P) (b : CondsOf Q) → CorrespondEach R a b → AllZip R (paths_of_all a) (paths_of_all b)
    all_pairs no_cond no_cond like = tt
    all_pairs (cond a others) (cond b more) like =
        AllZip-append R (paths_of a) (paths_of_all others) (paths_of b) (paths_of_all more) (path_pairs a b like.0) (all_pairs others more like.1)
    all_pairs _ _ like = absurd like

  cond_pairs : (text : Option (CondOf P)) (bound : Option (CondOf Q)) → CorrespondIf R text bound → AllZip R (paths_in text) (paths_in bound)
  cond_pairs None None like = tt
  cond_pairs (Some a) (Some b) like = path_pairs a b like
  cond_pairs _ _ like = absurd like

  pairs_sum : (f : P → ℕ) (g : Q → ℕ) → ((p : P) (q : Q) → R p q → g q ≤ f p) → (xs : List P) (ys : List Q) → AllZip R xs ys
      → sum_by g ys ≤ sum_by f xs
  pairs_sum f g fewer [] [] pairs = omega arith
  pairs_sum f g fewer [] (y ∷ ys) pairs = absurd pairs
  pairs_sum f g fewer (x ∷ xs) [] pairs = absurd pairs
  pairs_sum f g fewer (x ∷ xs) (y ∷ ys) pairs =
      let first = fewer x y pairs.0 in
      let later = pairs_sum f g fewer xs ys pairs.1 in
      let left = sum_by-cons f x xs in
      let right = sum_by-cons g y ys in
      omega arith

  pairs_right : (Passes : Q → Type 0) → ((p : P) (q : Q) → R p q → Passes q) → (xs : List P) (ys : List Q) → AllZip R xs ys → All Passes ys
  pairs_right Passes each [] [] pairs = All-nil Passes
  pairs_right Passes each [] (y ∷ ys) pairs = absurd pairs
  pairs_right Passes each (x ∷ xs) [] pairs = absurd pairs
  pairs_right Passes each (x ∷ xs) (y ∷ ys) pairs = All-cons Passes y ys (each x y pairs.0) (pairs_right Passes each xs ys pairs.1)

-- ---- leaves
bound_path_leaves : (names : List (List ℕ × Oid)) (plain fused : List PlacedRange) (path : Place) (bound : BoundPathTree)
    → IsBoundPath names plain fused path bound → leaves bound.rest ≤ leaves_of (trees_of path.parts)
bound_path_leaves names plain fused path bound is =
    let rest = rest_leaves plain path is.fixed is.rest is.is_fixed in
    let whole = ap leaves is.goes_on in
    omega arith

bound_leaves : (names : List (List ℕ × Oid)) (fused ranges : List PlacedRange) (bound : List RangeTree) → AllZip (IsBoundRange names fused) ranges bound
    → sum_by (λ range. leaves range.path) bound ≡ range_leaves ranges
bound_leaves names fused [] [] stands = refl
bound_leaves names fused [] (b ∷ bound) stands = absurd stands
bound_leaves names fused (range ∷ ranges) [] stands = absurd stands
bound_leaves names fused (range ∷ ranges) (b ∷ bound) stands =
    let first = ap leaves stands.0.path in
    let left = sum_by-cons (λ (r : RangeTree). leaves r.path) b bound in
    let right = sum_by-cons (λ (r : PlacedRange). leaves_of (trees_of r.parts)) range ranges in
    let later = bound_leaves names fused ranges bound stands.1 in
    omega arith

-- ---- starts that are there before they are needed
-- a start with a slot stands among the earlier places
slot_before : (earlier later : List Place) (start : Place) (slot : ℕ) → slice_get (earlier ++ later) slot ≡ Some start → IsFound earlier start
    → All (λ place. Contains earlier place → ⊥) later → All IsOpen later → slot < length earlier
slot_before earlier later start slot is found fresh opens = elim (cases_lt slot (length earlier)) [
  | inl early ↦ early
  | inr late ↦
      let within = slice_get_within (earlier ++ later) slot start is in
      let sum = length-append earlier later in
      let read = get_or_from_slice_get (earlier ++ later) slot start start is in
      let there : Contains later start =
      (slot - length earlier, omega arith, sym (get_or-append_right earlier later (length earlier) slot start refl late) ∙ read) in
      elim found [
        | inl name ↦ absurd ((All-contains IsOpen later start opens there).unnamed name)
        | inr before ↦ absurd (All-contains (λ place. Contains earlier place → ⊥) later start fresh there before)
      ]
]

starts_within : (names : List (List ℕ × Oid)) (fused : List PlacedRange) (earlier : List Place) (ranges : List PlacedRange) (bound : List RangeTree)
    → places fused ≡ earlier ++ places ranges → AreOrdered earlier ranges → AllZip (IsBoundRange names fused) ranges bound
    → AreInOrder (length earlier) bound
starts_within names fused earlier [] [] whole ordered stands = tt
starts_within names fused earlier [] (b ∷ bound) whole ordered stands = absurd stands
starts_within names fused earlier (range ∷ ranges) [] whole ordered stands = absurd stands
starts_within names fused earlier (range ∷ ranges) (b ∷ bound) whole ordered stands = (
  first b.start stands.0.start,
  subst (λ (count : ℕ). AreInOrder count bound) (length-append earlier (range.place ∷ []) ∙ omega arith)
      (starts_within names fused (earlier ++ range.place ∷ []) ranges bound
      (whole ∙ sym (append_assoc earlier (range.place ∷ []) (places ranges))) ordered.1 stands.1),
)
  where
    first : (start : Start) → IsStartOfPlace names fused range.start start → IsWithin (length earlier) start
    first (starts.Named oid) named = tt
    first (starts.Slot slot) is =
        slot_before earlier (places (range ∷ ranges)) range.start slot (sym (ap (λ (ps : List Place). slice_get ps slot) whole) ∙ is) ordered.0.found
        (All-map (λ place. Contains earlier place → ⊥) (λ (r : PlacedRange). r.place) (range ∷ ranges) (new_places earlier (range ∷ ranges) ordered))
        (All-map IsOpen (λ (r : PlacedRange). r.place) (range ∷ ranges) (open_places earlier (range ∷ ranges) ordered))

-- a slot that stands for a place is one of so many as there are ranges
start_in : (names : List (List ℕ × Oid)) (fused : List PlacedRange) (place : Place) (start : Start) → IsStartOfPlace names fused place start
    → IsWithin (length fused) start
start_in names fused place (starts.Named oid) stands = tt
start_in names fused place (starts.Slot slot) stands =
    let within = slice_get_within (places fused) slot place stands in
    let same = length-map fused (λ (r : PlacedRange). r.place) in
    omega arith

-- a bound cell shows a start or a slot of the fused ranges
cell_in : (names : List (List ℕ × Oid)) (fused : List PlacedRange) (cell : CellPlace) (bound : CellOf) → IsBoundCell names fused cell bound
    → IsCellWithin (length fused) bound
cell_in names fused (object place) (shown.Object start) stands = start_in names fused place start stands
cell_in names fused (word place) (shown.PathOf slot) stands = start_in names fused place (starts.Slot slot) stands
cell_in names fused (object place) (shown.PathOf slot) stands = absurd stands
cell_in names fused (word place) (shown.Object start) stands = absurd stands

any_start_in : (names : List (List ℕ × Oid)) (fused : List PlacedRange) (place : Place) (start : BoundStart) → IsBoundStart names fused place start
    → IsBoundWithin (length fused) start
any_start_in names fused place (bound_starts.Named oid) stands = tt
any_start_in names fused place (bound_starts.Slot slot) stands = start_in names fused place (starts.Slot slot) stands
any_start_in names fused place (bound_starts.Quantified depth) stands = tt

-- what binding gives of a select that is accepted can be run
pub runs : (names : List (List ℕ × Oid)) (query : SelectTree) (bound : BoundTree) → IsAccepted names query → IsBinding names query bound
    → IsRunnable bound
runs names query bound accepted b =
    let few : HasTooMany query → ⊥ = accepted.1.1.1.0 in
    let ordered = fused_ordered (IsUsed query b.plain) b.plain b.fused (plain_ordered query b.plain b.made) b.fuses in
    let long : length b.fused ≡ length bound.ranges = sym (AllZip-long (IsBoundRange names b.fused) b.fused bound.ranges b.ranges) in
    let IsBoundCond = IsBoundPath names b.plain b.fused in
    let pairs = cond_pairs IsBoundCond (cond_of query) bound.cond b.condition in
    let of_ranges = bound_leaves names b.fused b.fused bound.ranges b.ranges in
    let of_cond = pairs_sum IsBoundCond (λ place. leaves_of (trees_of place.parts)) (λ path. leaves path.rest)
    (bound_path_leaves names b.plain b.fused) (cond_places query) (paths_in bound.cond) pairs in
    let of_text = fused_leaves query b.plain b.fused b.made b.fuses in
    record {
      few_ranges = elim (cases_lt RANGES (length b.fused)) [
        | inl many ↦ absurd (few (inl (b.plain, b.fused, b.made, b.fuses, many)))
        | inr few ↦ subst (λ (n : ℕ). n ≤ RANGES) long few
      ];
      few_leaves = elim (cases_lt LEAVES (leaves_in (text_places query))) [
        | inl many ↦ absurd (few (inr (inr many)))
        | inr few ↦ omega arith
      ];
      in_order = starts_within names b.fused [] b.fused bound.ranges refl ordered b.ranges;
      cells_within = subst (λ (n : ℕ). All (IsCellWithin n) bound.cells) long
          (pairs_right (IsBoundCell names b.fused) (IsCellWithin (length b.fused)) (cell_in names b.fused) (cells_of query) bound.cells b.cells);
      condition_within = subst (λ (n : ℕ). All (λ path. IsBoundWithin n path.start) (paths_in bound.cond)) long
          (pairs_right IsBoundCond (λ path. IsBoundWithin (length b.fused) path.start)
          (λ path q is. any_start_in names b.fused is.fixed q.start is.begins) (cond_places query) (paths_in bound.cond) pairs);
    }
