-- What a moved comparison says, and lists of members that are extended by such.
use Rattle.std.proofs.Common.{◌≡◌, ℕ, ◌<◌, List, [], ◌∷◌, ◌++◌, length, get_or, map, Option, None, Some, option_map, IfSome, All, refl, sym, ap, subst, ◌∙◌, arith}
use Rattle.std.specs.List.{Contains, slice_get}
use Rattle.std.proofs.lemmas.List.{append-nil, append_assoc}
use Rattle.std.proofs.lemmas.List.Elements.{All-nil, All-cons, All-head, All-tail, All-append, All-contains}
use Rattle.std.proofs.lemmas.Option.{same_Some, slice_get_within, slice_get_read, slice_get-map}
use Rattle.list_laws.proofs.MemberLaws.{Contains-map}
use Rattle.list_laws.proofs.PlaceLaws.{Contains-from_place}
use Rattle.list_laws.proofs.ZipLaws.{AllZip-place}
use Rattle.lore_base.specs.Paths.{PathTree, Reaches}
use Rattle.select_hints.specs.Types.{Start, Op}
use Rattle.select_hints.specs.Types.starts
use Rattle.select_hints.specs.Types.bound_starts
use Rattle.lorel_bound.specs.declared.bound.Range.{Range}
use Rattle.lorel_bound.specs.declared.conditions.BoundCond.{BoundCond}
use Rattle.lorel_bound.specs.Bound.{RangeTree, BoundPathTree, range_tree, bound_cond}
use Rattle.lorel_bound.specs.Conditions.{OperandOf, constant, at, CondOf, compare, same}
use Rattle.lorel_bound.specs.Runnable.{IsBoundWithin}
use Rattle.lorel_bound.specs.SlotRows.{StartsAt}
use Rattle.select_hints.specs.Types.{Oid}
use Rattle.select_hints.specs.inside.Moves.{Joins, behind, IsMovedPath, IsMovedOperand, HoldsOn, StartsWithin, IsMoved, IsMovedOf, Extends}

-- ---- a path from where the range of its slot starts
pub moved_path : (ranges : List RangeTree) (range : RangeTree) (slot earlier : ℕ) (rest path : PathTree) → slice_get ranges slot ≡ Some range
    → range.start ≡ starts.Slot earlier → earlier < slot → Joins range.path rest path
    → IsMovedPath ranges (behind slot rest) (behind earlier path)
moved_path ranges range slot earlier rest path there starts_at below leads = record {
  within = let inside = slice_get_within ranges slot range there in omega (arith, below, inside);
  meets = λ labels edges slots filled oid meets.
      let place = AllZip-place (λ (own : RangeTree) (to : Oid). (from : Oid) × StartsAt slots own.start from × Reaches labels edges own.path from to)
      ranges slots slot range filled there in
      let same : place.0 ≡ meets.0 = same_Some place.0 meets.0 (sym place.1 ∙ meets.1) in
      let begins : slice_get slots earlier ≡ Some place.2.0 = subst (λ (s : Start). StartsAt slots s place.2.0) starts_at place.2.1 in
      let reach = subst (λ (to : Oid). Reaches labels edges range.path place.2.0 to) same place.2.2 in
      (place.2.0, begins, leads labels edges place.2.0 meets.0 oid reach meets.2);
}

-- the range of a slot, read from the slice of them
pub range_there : (ranges : List Range) (slot : ℕ) (range : Range) → (slot < length ranges) × ((d : Range) → range ≡ get_or ranges slot d)
    → slice_get (map range_tree ranges) slot ≡ Some (range_tree range)
range_there ranges slot range here =
    slice_get-map range_tree ranges slot ∙ ap (option_map range_tree) (slice_get_read ranges (length ranges) slot range refl here.0 (here.1 range))

-- and so a member of a list
pub member_there : (members : List BoundCond) (list : List (CondOf BoundPathTree)) (place : ℕ) (member : BoundCond)
    → (place < length members) × ((d : BoundCond) → member ≡ get_or members place d) → map bound_cond members ≡ list → Contains list (bound_cond member)
member_there members list place member here are =
    subst (λ (l : List (CondOf BoundPathTree)). Contains l (bound_cond member)) are
    (Contains-map bound_cond members member (Contains-from_place members place member (slice_get_read members (length members) place member refl here.0 (here.1 member))))

-- ---- comparisons with a moved side
pub moved_left : (ranges : List RangeTree) (left more right : OperandOf BoundPathTree) (op : Op) → IsMovedOperand ranges left more
    → IsMoved ranges (compare left op right) (compare more op right)
moved_left ranges (constant value) more right op moves = absurd moves
moved_left ranges (at path) (constant value) right op moves = absurd moves
moved_left ranges (at path) (at more) (constant value) op moves = record {
  within = λ within. All-cons (λ own. IsBoundWithin (length ranges) own.start) more [] moves.within
      (All-tail (λ own. IsBoundWithin (length ranges) own.start) path [] within);
  implied = λ labels edges objects slots filled h.
      (h.0, h.1, (h.2.0, moves.meets labels edges slots filled h.2.0 h.2.1, h.2.2), h.3, h.4);
}
moved_left ranges (at path) (at more) (at other) op moves = record {
  within = λ within. All-cons (λ own. IsBoundWithin (length ranges) own.start) more (other ∷ []) moves.within
      (All-tail (λ own. IsBoundWithin (length ranges) own.start) path (other ∷ []) within);
  implied = λ labels edges objects slots filled h.
      (h.0, h.1, (h.2.0, moves.meets labels edges slots filled h.2.0 h.2.1, h.2.2), h.3, h.4);
}

pub moved_right : (ranges : List RangeTree) (left right more : OperandOf BoundPathTree) (op : Op) → IsMovedOperand ranges right more
    → IsMoved ranges (compare left op right) (compare left op more)
moved_right ranges left (constant value) more op moves = absurd moves
moved_right ranges left (at path) (constant value) op moves = absurd moves
moved_right ranges (constant value) (at path) (at more) op moves = record {
  within = λ within. All-cons (λ own. IsBoundWithin (length ranges) own.start) more [] moves.within
      (All-tail (λ own. IsBoundWithin (length ranges) own.start) path [] within);
  implied = λ labels edges objects slots filled h.
      (h.0, h.1, h.2, (h.3.0, moves.meets labels edges slots filled h.3.0 h.3.1, h.3.2), h.4);
}
moved_right ranges (at other) (at path) (at more) op moves = record {
  within = λ within.
      let Within = λ (own : BoundPathTree). IsBoundWithin (length ranges) own.start in
      All-cons Within other (more ∷ []) (All-head Within other (path ∷ []) within) (All-cons Within more [] moves.within (All-nil Within));
  implied = λ labels edges objects slots filled h.
      (h.0, h.1, h.2, (h.3.0, moves.meets labels edges slots filled h.3.0 h.3.1, h.3.2), h.4);
}

pub moved_left_met : (ranges : List RangeTree) (left more right : BoundPathTree) → IsMovedPath ranges left more
    → IsMoved ranges (same left right) (same more right)
moved_left_met ranges left more right moves = record {
  within = λ within. All-cons (λ own. IsBoundWithin (length ranges) own.start) more (right ∷ []) moves.within
      (All-tail (λ own. IsBoundWithin (length ranges) own.start) left (right ∷ []) within);
  implied = λ labels edges objects slots filled h. (h.0, moves.meets labels edges slots filled h.0 h.1, h.2);
}

pub moved_right_met : (ranges : List RangeTree) (left right more : BoundPathTree) → IsMovedPath ranges right more
    → IsMoved ranges (same left right) (same left more)
moved_right_met ranges left right more moves = record {
  within = λ within.
      let Within = λ (own : BoundPathTree). IsBoundWithin (length ranges) own.start in
      All-cons Within left (more ∷ []) (All-head Within left (right ∷ []) within) (All-cons Within more [] moves.within (All-nil Within));
  implied = λ labels edges objects slots filled h. (h.0, h.1, moves.meets labels edges slots filled h.0 h.2);
}

-- ---- lists of members, extended by what they imply
pub extends_none : (ranges : List RangeTree) (list new : List (CondOf BoundPathTree)) → new ≡ list → Extends ranges list new
extends_none ranges list new is = record {
  added = [];
  are = is ∙ sym (append-nil list);
  within = λ h. subst (All (StartsWithin (length ranges))) (sym is) h;
  implied = λ labels edges objects slots filled h. subst (All (HoldsOn labels edges objects slots)) (sym is) h;
}

-- by what one of them implies
pub extends_by : (ranges : List RangeTree) (list new : List (CondOf BoundPathTree)) (more : CondOf BoundPathTree) → IsMovedOf ranges list more
    → new ≡ list ++ more ∷ [] → Extends ranges list new
extends_by ranges list new more moves is = record {
  added = more ∷ [];
  are = is;
  within = λ h. behind_them (StartsWithin (length ranges)) h
      (moves.2.within (All-contains (StartsWithin (length ranges)) list moves.0 h moves.1));
  implied = λ labels edges objects slots filled h.
      behind_them (HoldsOn labels edges objects slots) h
      (moves.2.implied labels edges objects slots filled (All-contains (HoldsOn labels edges objects slots) list moves.0 h moves.1));
}
  where
    behind_them : (P : CondOf BoundPathTree → Type 0) → All P list → P more → All P new
    behind_them P all own = subst (All P) (sym is) (All-append P list (more ∷ []) all (All-cons P more [] own (All-nil P)))

-- what is found of the member is found of one of the list
pub moved_of : (ranges : List RangeTree) (list : List (CondOf BoundPathTree)) (member : CondOf BoundPathTree) (found : Option BoundCond) → Contains list member
    → IfSome found (λ more. IsMoved ranges member (bound_cond more)) → IfSome found (λ more. IsMovedOf ranges list (bound_cond more))
moved_of ranges list member None there h = tt
moved_of ranges list member (Some more) there h = (member, there, h)

-- and then by more
pub extends_then : (ranges : List RangeTree) (first second third : List (CondOf BoundPathTree)) → Extends ranges first second
    → Extends ranges second third → Extends ranges first third
extends_then ranges first second third before after = record {
  added = before.added ++ after.added;
  are = after.are ∙ ap (λ (l : List (CondOf BoundPathTree)). l ++ after.added) before.are ∙ append_assoc first before.added after.added;
  within = λ h. after.within (before.within h);
  implied = λ labels edges objects slots filled h. after.implied labels edges objects slots filled (before.implied labels edges objects slots filled h);
}
