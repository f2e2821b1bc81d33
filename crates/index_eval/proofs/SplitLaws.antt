-- A condition by the objects of one of its members and tests of the others.
use Rattle.std.proofs.Common.{◌≡◌, ◌↔◌, ℕ, ◌+◌, ◌<◌, Bool, List, [], ◌∷◌, ◌++◌, get_or, length, map, take, Option, Some, option_map, IsTrue, Result, Ok, Err, IfOk, refl, sym, subst, ap, ◌∙◌, arith}
use Rattle.std.specs.List.{All, slice_get}
use Rattle.std.proofs.lemmas.List.{append_assoc, map_more}
use Rattle.std.proofs.lemmas.List.Elements.{All-nil, All-cons, All-head, All-tail, All-append}
use Rattle.std.proofs.lemmas.List.Sums.{sum_by-append}
use Rattle.lore_base.specs.Paths.{leaves}
use Rattle.index_traits.specs.PartRows.{AreAllThatFit}
use Rattle.lorel_bound.specs.Bound.{BoundPathTree, bound_cond, conds_from}
use Rattle.lorel_bound.specs.Conditions.{CondOf, and, paths_of, paths_of_all}
use Rattle.lorel_bound.specs.SlotRows.{HoldsOver}
use Rattle.lorel_eval.specs.Tests.{CondOver, rest_leaves}
use Rattle.index_eval.specs.Types.{Oid, Edge, Value, BoundCond}
use Rattle.index_eval.specs.declared.listing.Listed.{Listed}
use Rattle.index_eval.specs.inside.Listing.{HasListed, AreObjectsOf, PassesOn, SplitsIn, Splits, cond_over}

-- How many leaves the paths of the members have.

abbrev leaves_of : List BoundCond → ℕ
leaves_of conds = rest_leaves (paths_of_all (conds_from (map bound_cond conds)))

first_leaves : (first : BoundCond) (others : List BoundCond) → leaves_of (first ∷ others) ≡ rest_leaves (paths_of (bound_cond first)) + leaves_of others
first_leaves first others =
    sum_by-append (λ (path : BoundPathTree). leaves path.rest) (paths_of (bound_cond first)) (paths_of_all (conds_from (map bound_cond others)))

parts_leaves : (before rest : List BoundCond) → leaves_of (before ++ rest) ≡ leaves_of before + leaves_of rest
parts_leaves [] rest =
    let none : leaves_of [] ≡ 0 = refl in
    omega (arith, none)
parts_leaves (first ∷ others) rest =
    let whole = first_leaves first (others ++ rest) in
    let part = first_leaves first others in
    let more = parts_leaves others rest in
    omega (arith, whole, part, more)

pub split_leaves : (members before behind : List BoundCond) (own : BoundCond) → members ≡ before ++ own ∷ behind
    → leaves_of members ≡ leaves_of before + (rest_leaves (paths_of (bound_cond own)) + leaves_of behind)
split_leaves members before behind own is =
    let whole = ap leaves_of is ∙ parts_leaves before (own ∷ behind) in
    let part = first_leaves own behind in
    omega (arith, whole, part)

-- What holds of a row.

-- what holds of each of a list holds of each of its parts
parts_all : {X : Type 0} (P : X → Type 0) (xs ys : List X) → All P (xs ++ ys) → All P xs × All P ys
parts_all P [] ys all = (All-nil P, all)
parts_all P (x ∷ xs) ys all =
    let later = parts_all P xs ys (All-tail P x (xs ++ ys) all) in
    (All-cons P x xs (All-head P x (xs ++ ys) all) later.0, later.1)

module _ (labels : List (List ℕ)) (edges : List Edge) (objects : List (Oid × Value)) (row : List Oid) where
  abbrev Holds : BoundCond → Type 0
  Holds cond = HoldsOver labels edges objects row (Some (bound_cond cond))

  -- all members of an `and` hold
  and_holds : (members : List BoundCond) → HoldsOver labels edges objects row (Some (and (conds_from (map bound_cond members)))) ↔ All Holds members
  and_holds [] = (λ holds. All-nil Holds, λ all. tt)
  and_holds (first ∷ others) =
      let rest = and_holds others in (
        λ holds. All-cons Holds first others holds.0 (rest.0 holds.1),
        λ all. (All-head Holds first others all, rest.1 (All-tail Holds first others all)),
      )

  -- and so do their tests
  tests_hold : (members : List BoundCond) → All (PassesOn row) (map (cond_over labels edges objects) members) ↔ All Holds members
  tests_hold [] = (λ pass. All-nil Holds, λ all. All-nil (PassesOn row))
  tests_hold (first ∷ others) =
      let rest = tests_hold others in
      let over = cond_over labels edges objects in (
        λ pass. All-cons Holds first others (All-head (PassesOn row) (over first) (map over others) pass)
            (rest.0 (All-tail (PassesOn row) (over first) (map over others) pass)),
        λ all. All-cons (PassesOn row) (over first) (map over others) (All-head Holds first others all) (rest.1 (All-tail Holds first others all)),
      )

-- an `and` of which one member is listed
pub split_members : (labels : List (List ℕ)) (edges : List Edge) (objects : List (Oid × Value)) (members before behind : List BoundCond)
    (own : BoundCond) (listed : Listed) (others : List CondOver) → members ≡ before ++ own ∷ behind
    → AreObjectsOf labels edges objects (bound_cond own) listed
    → others ≡ map (cond_over labels edges objects) before ++ map (cond_over labels edges objects) behind
    → Splits labels edges objects (and (conds_from (map bound_cond members))) listed others
split_members labels edges objects members before behind own listed others is are tests = record {
  ascend = are.ascend;
  exact = λ row.
      let P = Holds labels edges objects row in
      let Q = PassesOn row in
      let first = map (cond_over labels edges objects) before in
      let last = map (cond_over labels edges objects) behind in (
        λ holds.
            let all = subst (All P) is ((and_holds labels edges objects row members).0 holds) in
            let parts = parts_all P before (own ∷ behind) all in
            let pass = All-append Q first last ((tests_hold labels edges objects row before).1 parts.0)
            ((tests_hold labels edges objects row behind).1 (All-tail P own behind parts.1)) in
            ((are.exact row).0 (All-head P own behind parts.1), subst (All Q) (sym tests) pass),
        λ has.
            let pass = parts_all Q first last (subst (All Q) tests has.1) in
            let all = All-append P before (own ∷ behind) ((tests_hold labels edges objects row before).0 pass.0)
            (All-cons P own behind ((are.exact row).1 has.0) ((tests_hold labels edges objects row behind).0 pass.1)) in
            (and_holds labels edges objects row members).1 (subst (All P) (sym is) all),
      );
}

-- a condition that is listed itself
pub split_alone : (labels : List (List ℕ)) (edges : List Edge) (objects : List (Oid × Value)) (condition : CondOf BoundPathTree) (listed : Listed)
    (others : List CondOver) → AreObjectsOf labels edges objects condition listed → others ≡ [] → Splits labels edges objects condition listed others
split_alone labels edges objects condition listed others are none = record {
  ascend = are.ascend;
  exact = λ row. (
    λ holds. ((are.exact row).0 holds, subst (All (PassesOn row)) (sym none) (All-nil (PassesOn row))),
    λ has. (are.exact row).1 has.0,
  );
}

-- a test of a condition
pub test_is : (labels : List (List ℕ)) (edges : List Edge) (objects : List (Oid × Value)) (cond : BoundCond) (test : CondOver)
    → test.labels ≡ labels → test.edges ≡ edges → test.objects ≡ objects → test.cond ≡ Some cond → test ≡ cond_over labels edges objects cond
test_is labels edges objects cond test texts all_edges all_objects asked =
    ap (λ (l : List (List ℕ)). over_of l test.edges test.objects test.cond) texts
    ∙ ap (λ (es : List Edge). over_of labels es test.objects test.cond) all_edges
    ∙ ap (λ (o : List (Oid × Value)). over_of labels edges o test.cond) all_objects
    ∙ ap (λ (c : Option BoundCond). over_of labels edges objects c) asked
  where
    over_of : List (List ℕ) → List Edge → List (Oid × Value) → Option BoundCond → CondOver
    over_of l es o c = record { labels = l; edges = es; objects = o; cond = c }

-- one test more
pub tests_more : (labels : List (List ℕ)) (edges : List Edge) (objects : List (Oid × Value)) (conds : List BoundCond) (i : ℕ) (cond : BoundCond)
    (old so_far new : List CondOver) (test : CondOver) → i < length conds → cond ≡ get_or conds i cond
    → test ≡ cond_over labels edges objects cond → new ≡ so_far ++ test ∷ []
    → so_far ≡ old ++ map (cond_over labels edges objects) (take i conds)
    → new ≡ old ++ map (cond_over labels edges objects) (take (i + 1) conds)
tests_more labels edges objects conds i cond old so_far new test within there own is before =
    let over = cond_over labels edges objects in
    let last : test ∷ [] ≡ over (get_or conds i cond) ∷ [] = ap (λ (t : CondOver). t ∷ []) (own ∙ ap over there) in
    is ∙ ap (λ (l : List CondOver). l ++ test ∷ []) before ∙ append_assoc old (map over (take i conds)) (test ∷ [])
    ∙ ap (λ (l : List CondOver). old ++ (map over (take i conds) ++ l)) last
    ∙ ap (λ (l : List CondOver). old ++ l) (sym (map_more over conds i cond within))

-- What a test by them answers.

pub holds_by : {E : Type 0} (over : CondOver) (row : List Oid) (listed : Listed) (others : List CondOver) (result : Result Bool E)
    → SplitsIn over.labels over.edges over.objects (option_map bound_cond over.cond) listed others
    → IfOk result (λ answer. IsTrue answer ↔ (HasListed listed row × All (PassesOn row) others))
    → IfOk result (λ answer. IsTrue answer ↔ HoldsOver over.labels over.edges over.objects row (option_map bound_cond over.cond))
holds_by over row listed others (Ok answer) splits tells =
    (λ yes. (splits.exact row).1 (tells.0 yes), λ holds. tells.1 ((splits.exact row).0 holds))
holds_by over row listed others (Err error) splits tells = tt

-- the objects are all that fit their slot
pub fits_listed : (over : CondOver) (known : List Bool) (slot : ℕ) (row : List Oid) (listed : Listed) (others : List CondOver)
    → SplitsIn over.labels over.edges over.objects (option_map bound_cond over.cond) listed others → listed.slot ≡ slot
    → AreAllThatFit (λ slots. HoldsOver over.labels over.edges over.objects slots (option_map bound_cond over.cond)) known slot row listed.oids
fits_listed over known slot row listed others splits is = record {
  ascend = splits.ascend;
  all = λ other completes.
      let has = ((splits.exact other).0 completes.passes).0 in
      (has.0, subst (λ (n : ℕ). slice_get other n ≡ Some has.0) is has.1, has.2);
}
