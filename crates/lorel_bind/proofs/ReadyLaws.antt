-- What is ready to be bound: the fused ranges are those of the select, and each place that is asked for has a start.
use Rattle.std.proofs.Common.{◌≡◌, ℕ, zero, suc, ◌<◌, ◌≤◌, inl, inr, List, [], ◌∷◌, ◌++◌, length, Option, Some, None, Result, Ok, Err, IfErr, All, subst, refl, sym, ap, ◌∙◌, append_assoc, arith}
use Rattle.std.specs.List.{Contains, AllZip}
use Rattle.std.specs.Result.{IsErrAnd}
use Rattle.std.proofs.lemmas.List.Elements.{All-nil, All-cons, All-head, All-tail, All-append, All-contains, Contains-append_left}
use Rattle.std.proofs.lemmas.Option.{slice_get-get_or}
use Rattle.lore_base.specs.Paths.{PathTree}
use Rattle.lore_base.proofs.MemberLaws.{Contains-same}
use Rattle.lorel_trees.specs.Trees.{SelectTree}
use Rattle.lorel_bind.specs.Types.{Oid, RANGES}
use Rattle.lorel_bind.specs.Types.starts
use Rattle.lorel_bind.specs.Types.bound_starts
use Rattle.lorel_ranges.specs.Places.{Place, at_root, cell_places, CellPlace, object, word, cells_of}
use Rattle.lorel_bound.specs.Conditions.{OperandOf, constant, at, CondOf, or, and, not, exists, for_all, compare, same, CondsOf, no_cond, cond, operand_paths, paths_of, paths_of_all, paths_in}
use Rattle.lorel_ranges.specs.Conditions.{cond_of, cond_places}
use Rattle.lorel_ranges.specs.Ranges.{PlacedRange, places, joined_range, ArePlain, IsUsed, IsFixed, Fuses, FusesTimes, AreFused}
use Rattle.lorel_ranges.specs.Texts.{text_places, ranged_identifiers}
use Rattle.lorel_bind.specs.Refusals.{StartsNowhere, HasTooMany, IsRefusedBy, IsAccepted}
use Rattle.lorel_bound.specs.Bound.{BoundTree}
use Rattle.lorel_bind.specs.Bindings.{IsBoundRange, IsBoundCell, IsBoundPath, CorrespondOperands, Correspond, CorrespondEach, CorrespondIf, IsBinding}
use Rattle.lorel_bind.specs.declared.faults.BindFault.TheVariants.{TooManyRanges}
use Rattle.lorel_ranges.specs.inside.Orders.{IsFound, AreOrdered}
use Rattle.lorel_bind.specs.inside.Slots.{CanStart, CanStartAny, CanShow, CanBind, BindsRange, BindsCell, BindsPath}
use Rattle.lorel_bind.specs.inside.Causes.{PassesText}
use Rattle.lorel_ranges.proofs.ListLaws.{All-parts}
use Rattle.lore_base.proofs.ToldLaws.{told_member, told_bytes}
use Rattle.list_laws.proofs.MemberLaws.{All-from_members}
use Rattle.lorel_ranges.proofs.OrderLaws.{IsFound-wider}
use Rattle.lorel_ranges.proofs.GatherLaws.{has_one_plain}
use Rattle.lorel_ranges.proofs.PlainLaws.{plain_ordered}
use Rattle.lorel_ranges.proofs.FuseLaws.{has_one_fused, used_stays, fused_ordered}
use Rattle.lorel_bind.proofs.RootLaws.{IsBoundName, IsKnown, names_bound, plain_roots, known_found, cells_known, cond_known}
use Rattle.lorel_ranges.proofs.ShownLaws.{object_shown, word_found, word_range}
use Rattle.lorel_bind.proofs.SlotLaws.{pairs_where}

-- ---- what fused ranges start at
-- each starts at a name or at one of them
found_among : (all earlier : List Place) (ranges : List PlacedRange) → AreOrdered earlier ranges
    → ((place : Place) → Contains (earlier ++ places ranges) place → Contains all place) → All (λ range. IsFound all range.start) ranges
found_among all earlier [] ordered within = All-nil (λ range. IsFound all range.start)
found_among all earlier (range ∷ ranges) ordered within =
    All-cons (λ r. IsFound all r.start) range ranges
    (IsFound-wider earlier all range.start (λ place here. within place (Contains-append_left earlier (range.place ∷ places ranges) place here)) ordered.0.found)
    (found_among all (earlier ++ range.place ∷ []) ranges ordered.1
    (λ place here. within place (subst (λ (ps : List Place). Contains ps place) (append_assoc earlier (range.place ∷ []) (places ranges)) here)))

-- what holds of the starts of ranges holds of those of fused ones
module _ (Passes : Place → Type 0) where
  Fuses-starts : (Used : Place → Type 0) (old new : List PlacedRange) → Fuses Used old new → All (λ range. Passes range.start) old
      → All (λ range. Passes range.start) new
  Fuses-starts Used old new f all =
      let P = λ (range : PlacedRange). Passes range.start in
      let first = All-parts P f.front (f.range ∷ (f.middle ++ f.other ∷ f.back)) (subst (All P) f.was all) in
      let second = All-parts P f.middle (f.other ∷ f.back) (All-tail P f.range (f.middle ++ f.other ∷ f.back) first.1) in
      subst (All P) (sym f.is)
      (All-append P f.front (f.middle ++ joined_range f.range f.other ∷ f.back) first.0
      (All-append P f.middle (joined_range f.range f.other ∷ f.back) second.0
      (All-cons P (joined_range f.range f.other) f.back (All-head P f.range (f.middle ++ f.other ∷ f.back) first.1) (All-tail P f.other f.back second.1))))

  FusesTimes-starts : (Used : Place → Type 0) (times : ℕ) (old new : List PlacedRange) → FusesTimes Used times old new
      → All (λ range. Passes range.start) old → All (λ range. Passes range.start) new
  FusesTimes-starts Used zero old new steps all = subst (All (λ range. Passes range.start)) steps all
  FusesTimes-starts Used (suc times) old new steps all =
      FusesTimes-starts Used times steps.0 new steps.2 (Fuses-starts Used old steps.0 steps.1 all)

-- ---- some start stands for each place
known_starts : (names : List (List ℕ × Oid)) (fused : List PlacedRange) (place : Place) → IsKnown names (places fused) place → CanStart names fused place
known_starts names fused place (inl known) = (starts.Named known.1, (known.0, known.2, known.3))
known_starts names fused place (inr there) =
    (starts.Slot there.0, slice_get-get_or (places fused) there.0 place there.1 ∙ ap (λ (p : Place). Some p) there.2)

any_starts : (names : List (List ℕ × Oid)) (fused : List PlacedRange) (place : Place) → CanStart names fused place → CanStartAny names fused place
any_starts names fused place (starts.Named oid, stands) = (bound_starts.Named oid, stands)
any_starts names fused place (starts.Slot slot, stands) = (bound_starts.Slot slot, stands)

module _ (names : List (List ℕ × Oid)) (query : SelectTree) (plain fused : List PlacedRange) (made : ArePlain query plain)
    (fuses : AreFused (IsUsed query plain) plain fused) (somewhere : (start : List ℕ) → StartsNowhere names query start → ⊥) where
  all_bound : All (λ place. IsBoundName names place.root) (text_places query)
  all_bound = names_bound names query somewhere

  pub starts_can : All (λ range. CanStart names fused range.start) fused
  starts_can =
      let ordered = fused_ordered (IsUsed query plain) plain fused (plain_ordered query plain made) fuses in
      let found = found_among (places fused) [] fused ordered (λ place here. here) in
      let bound = FusesTimes-starts (λ place. IsBoundName names place.root) (IsUsed query plain) fuses.times plain fused fuses.steps
      (plain_roots (IsBoundName names) query plain made all_bound) in
      All-from_members (λ range. CanStart names fused range.start) fused
      (λ range there. known_starts names fused range.start
      (known_found names (places fused) range.start (All-contains (λ r. IsFound (places fused) r.start) fused range found there)
      (All-contains (λ r. IsBoundName names r.start.root) fused range bound there)))

  place_can : (place : Place) → Contains (cell_places query) place → IsKnown names (places plain) place → CanStart names fused place
  place_can place there (inl known) = known_starts names fused place (inl known)
  place_can place there (inr here) = known_starts names fused place (inr (used_stays (IsUsed query plain) plain fused place (inl there) fuses here))

  cell_can : (cell : CellPlace) → Contains (cells_of query) cell → CanShow names fused cell
  cell_can (object place) there =
      let here = object_shown query place there in
      place_can place here (cells_known names query plain made all_bound place here)
  cell_can (word place) there =
      used_stays (IsUsed query plain) plain fused place (inr (inl (word_range query plain made place there))) fuses (word_found query plain made place there)

  pub cells_can : All (CanShow names fused) (cells_of query)
  cells_can = All-from_members (CanShow names fused) (cells_of query) cell_can

  fixed_can : (path fixed : Place) (rest : List PathTree) → Contains (cond_places query) path → IsFixed plain path fixed rest
      → CanStartAny names fused fixed
  fixed_can path fixed rest there is_fixed =
      let ranged = λ (here : Contains (places plain) fixed). any_starts names fused fixed (known_starts names fused fixed
      (inr (used_stays (IsUsed query plain) plain fused fixed (inr (inr (path, rest, there, is_fixed))) fuses here))) in
      elim is_fixed.stands [
        | inr here ↦ ranged here
        | inl root ↦ elim (cond_known names query plain made all_bound path there) [
          | inl at_quantifier ↦ (bound_starts.Quantified at_quantifier.0, root ∙ ap at_root at_quantifier.1)
          | inr known ↦ elim known [
            | inl name ↦ any_starts names fused fixed (known_starts names fused fixed (inl (name.0, name.1, root ∙ name.2, name.3)))
            | inr here ↦ ranged (Contains-same (places plain) (at_root path.root) fixed (sym root) here)
          ]
        ]
      ]

  pub paths_can : All (CanBind names fused plain) (cond_places query)
  paths_can = All-from_members (CanBind names fused plain) (cond_places query) (λ path there fixed rest is_fixed. fixed_can path fixed rest there is_fixed)

-- ---- conditions
-- what relates paths that pass relates conditions whose paths pass
module _ {P Q : Type 0} (Passes : P → Type 0) (R : P → Q → Type 0) where
  abbrev Relates : P → Q → Type 0
  Relates p q = Passes p → R p q

  operand_where : (a : OperandOf P) (b : OperandOf Q) → CorrespondOperands Relates a b → All Passes (operand_paths a) → CorrespondOperands R a b
  operand_where (constant a) (constant b) like pass = like
  operand_where (at a) (at b) like pass = like (All-head Passes a [] pass)
  operand_where _ _ like pass = absurd like

  mutual
    cond_where : (a : CondOf P) (b : CondOf Q) → Correspond Relates a b → All Passes (paths_of a) → Correspond R a b
    cond_where (or a) (or b) like pass = conds_where a b like pass
    cond_where (and a) (and b) like pass = conds_where a b like pass
    cond_where (not a) (not b) like pass = cond_where a b like pass
    cond_where (exists a body) (exists b other) like pass =
        (like.0 (All-head Passes a (paths_of body) pass), cond_where body other like.1 (All-tail Passes a (paths_of body) pass))
    cond_where (for_all a body) (for_all b other) like pass =
        (like.0 (All-head Passes a (paths_of body) pass), cond_where body other like.1 (All-tail Passes a (paths_of body) pass))
    cond_where (compare a op right) (compare b other last) like pass =
        let both = All-parts Passes (operand_paths a) (operand_paths right) pass in
        (operand_where a b like.0 both.0, like.1, operand_where right last like.2 both.1)
    cond_where (same a right) (same b last) like pass =
        (like.0 (All-head Passes a (right ∷ []) pass), like.1 (All-head Passes right [] (All-tail Passes a (right ∷ []) pass)))
    cond_where _ _ like pass = absurd like

    conds_where : (a : CondsOf P) (b : CondsOf Q) → CorrespondEach Relates a b → All Passes (paths_of_all a) → CorrespondEach R a b
    conds_where no_cond no_cond like pass = tt
    conds_where (cond a others) (cond b more) like pass =
        let both = All-parts Passes (paths_of a) (paths_of_all others) pass in
        (cond_where a b like.0 both.0, conds_where others more like.1 both.1)
    conds_where _ _ like pass = absurd like

  option_where : (a : Option (CondOf P)) (b : Option (CondOf Q)) → CorrespondIf Relates a b → All Passes (paths_in a) → CorrespondIf R a b
  option_where None None like pass = tt
  option_where (Some a) (Some b) like pass = cond_where a b like pass
  option_where _ _ like pass = absurd like

-- ---- the bound select
pub ready_bound : (names : List (List ℕ × Oid)) (query : SelectTree) (plain fused : List PlacedRange) (bound : BoundTree) → ArePlain query plain
    → AreFused (IsUsed query plain) plain fused → ((start : List ℕ) → StartsNowhere names query start → ⊥)
    → AllZip (BindsRange names fused) fused bound.ranges → AllZip (BindsCell names fused) (cells_of query) bound.cells
    → CorrespondIf (BindsPath names fused plain) (cond_of query) bound.cond → IsBinding names query bound
ready_bound names query plain fused bound made fuses somewhere ranges cells condition = record {
  plain = plain;
  fused = fused;
  made = made;
  fuses = fuses;
  ranges = pairs_where (λ (range : PlacedRange). CanStart names fused range.start) (IsBoundRange names fused) fused bound.ranges ranges
      (starts_can names query plain fused made fuses somewhere);
  cells = pairs_where (CanShow names fused) (IsBoundCell names fused) (cells_of query) bound.cells cells
      (cells_can names query plain fused made fuses somewhere);
  condition = option_where (CanBind names fused plain) (IsBoundPath names plain fused) (cond_of query) bound.cond condition
      (paths_can names query plain fused made fuses somewhere);
}

-- ---- what is accepted and what is refused
-- what holds of a fault holds where it is passed on
pub passed_on : {A E : Type 0} (P : E → Type 0) (result : Result A E) (fault : E) → P fault → IsErrAnd result (λ given. given ≡ fault)
    → IfErr result P
passed_on P (Ok x) fault told given = tt
passed_on P (Err own) fault told given = subst P (sym given) told

pub starts_somewhere : (names : List (List ℕ × Oid)) (query : SelectTree) → PassesText names query → (start : List ℕ)
    → StartsNowhere names query start → ⊥
starts_somewhere names query passes start nowhere = elim (told_member told_bytes (ranged_identifiers query) start) [
  | inl there ↦ passes.variables_known (inl (start, nowhere, there))
  | inr absent ↦ passes.names_known (start, nowhere, absent)
]

few_enough : (names : List (List ℕ × Oid)) (query : SelectTree) (plain fused : List PlacedRange) → PassesText names query → ArePlain query plain
    → AreFused (IsUsed query plain) plain fused → length fused ≤ RANGES → HasTooMany query → ⊥
few_enough names query plain fused passes made fuses few (inl many) =
    let same = has_one_plain query many.0 plain many.2 made in
    let here = subst (λ (ranges : List PlacedRange). AreFused (IsUsed query ranges) ranges many.1) same many.3 in
    let long = ap (λ (ranges : List PlacedRange). length ranges) (has_one_fused query plain many.1 fused made here fuses) in
    let over = many.4 in
    omega arith
few_enough names query plain fused passes made fuses few (inr (inl items)) = let within = passes.few_items in omega arith
few_enough names query plain fused passes made fuses few (inr (inr leaves)) = let within = passes.few_leaves in omega arith

pub accepted : (names : List (List ℕ × Oid)) (query : SelectTree) (plain fused : List PlacedRange) → PassesText names query → ArePlain query plain
    → AreFused (IsUsed query plain) plain fused → length fused ≤ RANGES → IsAccepted names query
accepted names query plain fused passes made fuses few =
    (passes.names_known, (passes.variables_known, (passes.ranged_once, (few_enough names query plain fused passes made fuses few, tt))))

pub too_many_ranges : (names : List (List ℕ × Oid)) (query : SelectTree) (plain fused : List PlacedRange) → PassesText names query → ArePlain query plain
    → AreFused (IsUsed query plain) plain fused → RANGES < length fused → IsRefusedBy names query TooManyRanges
too_many_ranges names query plain fused passes made fuses many =
    inr (passes.names_known, inr (passes.variables_known, inr (passes.ranged_once, inl (inl (plain, fused, made, fuses, many), refl))))
