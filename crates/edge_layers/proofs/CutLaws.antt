-- The run of an object between two cuts of ascending edges.
use Rattle.std.proofs.Common.{◌≡◌, ℕ, ◌-◌, ◌<◌, ◌≤◌, Bool, false, true, nat_eq, Less, Some, List, [], ◌++◌, length, get_or, take, drop, All, sym, ap, ◌∙◌, subst, arith}
use Rattle.std.specs.List.{filter, slice_get}
use Rattle.std.proofs.lemmas.Bool.Decides.{nat_tests}
use Rattle.std.proofs.lemmas.List.{append-nil, take-append-drop}
use Rattle.std.proofs.lemmas.List.Elements.{filter-append}
use Rattle.std.proofs.lemmas.Option.{get_or_from_slice_get}
use Rattle.list_laws.proofs.PairLaws.{AllPairs-front, AllPairs-back}
use Rattle.list_laws.proofs.PartLaws.{filter_all, filter_none}
use Rattle.edge_layers.specs.Types.{Oid, Edge}
use Rattle.lore_base.specs.Walks.{edge_cmp, out_of}
use Rattle.lore_base.specs.Databases.{AreAscendingEdges}
use Rattle.edge_layers.proofs.RunLaws.{parents_rise}

is_of : (a n : ℕ) → a ≡ n → nat_eq a n ≡ true
is_of a n h = grind (arith, nat_tests)

not_below : (a n : ℕ) → n < a → nat_eq a n ≡ false
not_below a n h = grind (arith, nat_tests)

not_above : (a n : ℕ) → a < n → nat_eq a n ≡ false
not_above a n h = grind (arith, nat_tests)

-- edges of which all before some are of lower parents, and all behind them of higher ones
run_between : (before run behind : List Edge) (oid : Oid) → All (λ e. e.parent.0 < oid.0) before → All (λ e. oid.0 < e.parent.0) behind
    → All (λ e. e.parent.0 ≡ oid.0) run → run ≡ out_of oid (before ++ (run ++ behind))
run_between before run behind oid lower higher same =
    let p : Edge → Bool = λ e. nat_eq e.parent.0 oid.0 in
    let low : filter p before ≡ [] = filter_none p before (λ k d lt. not_above _ _ (lower k d lt)) in
    let high : filter p behind ≡ [] = filter_none p behind (λ k d lt. not_below _ _ (higher k d lt)) in
    let kept : filter p run ≡ run = filter_all p run (λ k d lt. is_of _ _ (same k d lt)) in
    let parts : filter p (before ++ (run ++ behind)) ≡ filter p before ++ filter p (run ++ behind) = filter-append p before (run ++ behind) in
    let others : filter p (run ++ behind) ≡ filter p run ++ filter p behind = filter-append p run behind in
    sym (parts ∙ ap (λ l. l ++ filter p (run ++ behind)) low ∙ others ∙ ap (λ l. filter p run ++ l) high ∙ append-nil _ ∙ kept)

cut_is : (edges before others : List Edge) (n : ℕ) → before ≡ take n edges → others ≡ drop n edges → before ++ others ≡ edges
cut_is edges before others n front back = ap (λ l. l ++ others) front ∙ ap (λ l. take n edges ++ l) back ∙ take-append-drop n edges

-- both sides of a cut ascend
pub cut_ascends : (edges before others : List Edge) (n : ℕ) → before ≡ take n edges → others ≡ drop n edges → AreAscendingEdges edges
    → AreAscendingEdges before × AreAscendingEdges others
cut_ascends edges before others n front back ascend =
    let whole : AreAscendingEdges (before ++ others) = subst AreAscendingEdges (sym (cut_is edges before others n front back)) ascend in
    (AllPairs-front (λ a b. edge_cmp a b ≡ Less) before others whole, AllPairs-back (λ a b. edge_cmp a b ≡ Less) before others whole)

-- the run between two cuts is the object's where all before it are of lower parents, and all behind it of higher ones
pub run-cut : (edges before others run behind : List Edge) (start len : ℕ) (oid : Oid)
    → before ≡ take start edges → others ≡ drop start edges → run ≡ take len others → behind ≡ drop len others
    → All (λ e. e.parent.0 < oid.0) before → All (λ e. oid.0 < e.parent.0) behind → All (λ e. e.parent.0 ≡ oid.0) run
    → run ≡ out_of oid edges
run-cut edges before others run behind start len oid front back run_front run_back lower higher same =
    let parts : before ++ (run ++ behind) ≡ edges = ap (λ l. before ++ l) (cut_is others run behind len run_front run_back) ∙ cut_is edges before others start front back in
    run_between before run behind oid lower higher same ∙ ap (out_of oid) parts

-- the parents of ascending edges lie between those of the first and of the last
module _ (edges : List Edge) (ascend : AreAscendingEdges edges) where
  from_first_parent : (first : Edge) → slice_get edges 0 ≡ Some first → (k : ℕ) (d : Edge) → k < length edges → first.parent.0 ≤ (get_or edges k d).parent.0
  from_first_parent first at k d lt =
      let le : (get_or edges 0 d).parent.0 ≤ (get_or edges k d).parent.0 = parents_rise edges ascend 0 k d (omega arith) lt in
      rw (get_or_from_slice_get edges 0 first d at) at le

  to_last_parent : (last : Edge) → slice_get edges (length edges - 1) ≡ Some last → (k : ℕ) (d : Edge) → k < length edges → (get_or edges k d).parent.0 ≤ last.parent.0
  to_last_parent last at k d lt =
      let le : (get_or edges k d).parent.0 ≤ (get_or edges (length edges - 1) d).parent.0 = parents_rise edges ascend k (length edges - 1) d (omega arith) (omega arith) in
      rw (get_or_from_slice_get edges (length edges - 1) last d at) at le

  pub all_below : (last : Edge) → slice_get edges (length edges - 1) ≡ Some last → (n : ℕ) → last.parent.0 < n → All (λ e. e.parent.0 < n) edges
  all_below last at n below k d lt = omega (arith, below, to_last_parent last at k d lt)

  pub all_above : (first : Edge) → slice_get edges 0 ≡ Some first → (n : ℕ) → n < first.parent.0 → All (λ e. n < e.parent.0) edges
  all_above first at n above k d lt = omega (arith, above, from_first_parent first at k d lt)

  pub all_of : (first last : Edge) → slice_get edges 0 ≡ Some first → slice_get edges (length edges - 1) ≡ Some last
      → (n : ℕ) → first.parent.0 ≡ n → last.parent.0 ≡ n → All (λ e. e.parent.0 ≡ n) edges
  all_of first last at_first at_last n from to k d lt =
      omega (arith, from, to, from_first_parent first at_first k d lt, to_last_parent last at_last k d lt)
