-- A select has some answer: whether a valuation holds can be told, so its rows are a finite list, and they stand in an order.
use Rattle.std.proofs.Common.{◌≡◌, ℕ, ◌⊎◌, inl, inr, ◌↔◌, List, [], Option, Some, None, Less, unwrap_or, slice_get, refl, sym, ap, subst, ◌∙◌}
use Rattle.std.specs.List.{Contains, AllZip}
use Rattle.lore_base.specs.Names.{object_of}
use Rattle.lore_base.specs.Databases.{Database}
use Rattle.lore_base.specs.Paths.{PathTree, seq, trees_of}
use Rattle.lore_base.proofs.MemberLaws.{Contains-none, Contains-same}
use Rattle.lorel_trees.specs.Trees.{SelectTree}
use Rattle.lorel_bind.specs.Types.{Oid, Value, Cell}
use Rattle.lorel_ranges.specs.Places.{Root, named, ranged, quantified, Place, at_root, cells_of}
use Rattle.lorel_bound.specs.Conditions.{CondOf}
use Rattle.lorel_ranges.specs.Conditions.{cond_of}
use Rattle.lorel_ranges.specs.Ranges.{PlacedRange, places, ArePlain, IsFixed}
use Rattle.lorel_bind.specs.Answers.{Leads, IsObjectOf, HasObject, IsReachedBy, HasValue, HoldsAt, ShowsCell, IsRowOver, IsRow}
use Rattle.lorel_bound.specs.CellOrder.{row_cmp, rows_total, tied_rows}
use Rattle.lorel_bind.specs.Refusals.{StartsNowhere}
use Rattle.bind_laws.specs.Laws.{HasSomeAnswer}
use Rattle.lore_base.proofs.ToldLaws.{IsTold, told_oid}
use Rattle.list_laws.proofs.AscentLaws.{IsOrder, total_ordered, some_ordered}
use Rattle.list_laws.proofs.MemberLaws.{All-from_members}
use Rattle.lorel_bound.proofs.ListedLaws.{IsListed, listed_members, listed_one, listed_option, listed_given, listed_same, listed_over, listed_where}
use Rattle.bind_laws.proofs.ReachedLaws.{listed_reached}
use Rattle.bind_laws.proofs.ConditionLaws.{told_holds}
use Rattle.bind_laws.proofs.FusedRowLaws.{AgreeOn, cells_same}
use Rattle.bind_laws.proofs.CellLaws.{listed_shown, cells_agree}
use Rattle.lorel_ranges.proofs.PrefixLaws.{Prefix, listed_fixed}
use Rattle.bind_laws.proofs.ValuationLaws.{AgreeAt, HoldsAt-same}
use Rattle.lorel_ranges.proofs.GatherLaws.{has_one_plain, has_some_plain}
use Rattle.lorel_ranges.proofs.PlainLaws.{plain_ordered}
use Rattle.lorel_bind.proofs.RootLaws.{IsBoundName, IsKnown, names_bound, plain_roots, cond_known}
use Rattle.bind_laws.proofs.RowLaws.{Agree, ShowsBehind, listed_rows}

-- ---- rows in order
rows_ordered : IsOrder (λ a b. row_cmp a b ≡ Less)
rows_ordered = total_ordered row_cmp rows_total tied_rows

-- ---- what paths of the condition reach
listed_values : (db : Database) (oid : Oid) → IsListed (HasValue db oid)
listed_values db oid =
    let objects = db.graph.objects in
    listed_same (λ value. (object : Oid × Value) × (Contains objects object × (object.0 ≡ oid)) × (object.1 ≡ value)) (HasValue db oid)
    (λ value. (
      λ h. Contains-same objects h.0 (oid, value) (λ i. (h.1.1 i, h.2 i)) h.1.0,
      λ h. ((oid, value), (h, refl), refl),
    ))
    (listed_over (λ (object : Oid × Value). Contains objects object × (object.0 ≡ oid)) (λ object value. object.1 ≡ value)
    (listed_where (Contains objects) (λ object. object.0 ≡ oid) (listed_members objects) (λ object. told_oid object.0 oid)) (λ object. listed_one object.1))

listed_objects : (valued : Oid) (objects : List Oid) (root : Root) → IsListed (IsObjectOf valued objects root)
listed_objects valued objects (named name) = listed_one valued
listed_objects valued objects (ranged variable) = listed_one valued
listed_objects valued objects (quantified depth) = listed_option (slice_get objects depth)

module _ (db : Database) (ranges : List PlacedRange) (at : Place → Oid) where
  listed_led : (parts : List PathTree) (start : Oid) → IsListed (Leads db parts start)
  listed_led parts start = listed_reached db.labels db.graph.edges (seq (trees_of parts)) start

  listed_met : (objects : List Oid) (path : Place) → IsListed (IsReachedBy db ranges at objects path)
  listed_met objects path =
      listed_same
      (λ oid. (prefix : Prefix) × IsFixed ranges path prefix.0 prefix.1 × ((start : Oid) × HasObject at objects prefix.0 start × Leads db prefix.1 start oid))
      (IsReachedBy db ranges at objects path)
      (λ oid. (
        λ h. record { fixed = h.0.0; rest = h.0.1; is_fixed = h.1; start = h.2.0; begins = h.2.1; leads = h.2.2 },
        λ h. ((h.fixed, h.rest), h.is_fixed, (h.start, h.begins, h.leads)),
      ))
      (listed_over (λ (prefix : Prefix). IsFixed ranges path prefix.0 prefix.1)
      (λ prefix oid. (start : Oid) × HasObject at objects prefix.0 start × Leads db prefix.1 start oid) (listed_fixed ranges path)
      (λ prefix. listed_over (HasObject at objects prefix.0) (Leads db prefix.1) (listed_objects (at prefix.0) objects prefix.0.root) (listed_led prefix.1)))

  told_held : (condition : Option (CondOf Place)) → IsTold (HoldsAt db ranges at condition)
  told_held None = inl tt
  told_held (Some condition) = told_holds (IsReachedBy db ranges at) (HasValue db) listed_met (listed_values db) condition []

-- where a path of the condition is fixed, valuations that agree on what is known give the same object
fixed_agree : (db : Database) (plain : List PlacedRange) (at other : Place → Oid) → Agree db.graph.names (places plain) at other
    → (path fixed : Place) (rest : List PathTree) → IsFixed plain path fixed rest
    → ((depth : ℕ) × (path.root ≡ quantified depth)) ⊎ IsKnown db.graph.names (places plain) (at_root path.root) → AgreeAt at other fixed
fixed_agree db plain at other agree path fixed rest is_fixed known = elim is_fixed.stands [
  | inr there ↦ inr (agree fixed (inr there))
  | inl same ↦ elim known [
    | inl at_quantifier ↦ inl (at_quantifier.0, ap (λ (place : Place). place.root) same ∙ at_quantifier.1)
    | inr root_known ↦ inr (agree fixed (subst (IsKnown db.graph.names (places plain)) (sym same) root_known))
  ]
]

-- ---- the rows of a select
nobody : Oid
nobody = record { 0 = 0 }

-- the object of a bound name, whatever parts follow
name_object : List (List ℕ × Oid) → Root → Oid
name_object names (named name) = unwrap_or (object_of names name) nobody
name_object names root = nobody

module _ (db : Database) (query : SelectTree) (plain : List PlacedRange) where
  -- a valuation that holds shows this row
  abbrev Shows : (Place → Oid) → List Cell → Type 0
  Shows at row = HoldsAt db plain at (cond_of query) × AllZip (ShowsCell db plain at) (cells_of query) row

  names_only : Place → Oid
  names_only place = name_object db.graph.names place.root

  row_shown : (row : List Cell) → IsRowOver db query plain plain row ↔ ShowsBehind db.graph.names (Leads db) Shows [] plain names_only row
  unfolding names_only name_object
  row_shown row = (
    λ h. (
      h.at,
      λ place known. elim known [
        | inl bound ↦
            subst (λ (p : Place). names_only p ≡ h.at p) (sym bound.2)
            (ap (λ (found : Option Oid). unwrap_or found nobody) bound.3 ∙ sym (h.valuation.named bound.0 bound.1 bound.3))
        | inr none ↦ absurd (Contains-none place none)
      ],
      h.valuation.reached,
      (h.holds, h.shown),
    ),
    λ h. record {
      at = h.0;
      valuation = record {
        named = λ name oid bound. sym (h.1 (at_root (named name)) (inl (name, oid, refl, bound))) ∙ ap (λ (found : Option Oid). unwrap_or found nobody) bound;
        reached = h.2;
      };
      holds = h.3.0;
      shown = h.3.1;
    },
  )

  listed_over_plain : ArePlain query plain → ((start : List ℕ) → StartsNowhere db.graph.names query start → ⊥) → IsListed (IsRowOver db query plain plain)
  listed_over_plain gathered somewhere =
      let bound = names_bound db.graph.names query somewhere in
      listed_same (ShowsBehind db.graph.names (Leads db) Shows [] plain names_only) (IsRowOver db query plain plain)
      (λ row. ((row_shown row).1, (row_shown row).0))
      (listed_rows db.graph.names (Leads db) Shows (listed_led db plain names_only)
      (λ at. listed_given (HoldsAt db plain at (cond_of query)) (AllZip (ShowsCell db plain at) (cells_of query)) (told_held db plain at (cond_of query))
      (listed_shown db plain at (cells_of query)))
      plain []
      (λ at other agree row h.
      let back : Agree db.graph.names (places plain) other at = λ place known. sym (agree place known) in (
        HoldsAt-same db plain other at (cond_of query)
            (λ path fixed rest there is_fixed.
            fixed_agree db plain other at back path fixed rest is_fixed (cond_known db.graph.names query plain gathered bound path there))
            h.0,
        cells_same db plain plain other at (cells_of query) row
            (All-from_members (AgreeOn plain plain other at) (cells_of query) (cells_agree db.graph.names query plain gathered bound other at back)) h.1,
      ))
      (plain_ordered query plain gathered) (plain_roots (IsBoundName db.graph.names) query plain gathered bound) names_only)

-- the rows of a select are a finite list
listed_answer : (db : Database) (query : SelectTree) → ((start : List ℕ) → StartsNowhere db.graph.names query start → ⊥) → IsListed (IsRow db query)
listed_answer db query somewhere =
    let plain = has_some_plain query in
    listed_same (IsRowOver db query plain.0 plain.0) (IsRow db query)
    (λ row. (
      λ h. (plain.0, plain.1, h),
      λ h. subst (λ (ranges : List PlacedRange). IsRowOver db query ranges ranges row) (has_one_plain query h.0 plain.0 h.1 plain.1) h.2,
    ))
    (listed_over_plain db query plain.0 plain.1 somewhere)

pub has_some_answer : HasSomeAnswer
has_some_answer db query somewhere =
    let listed = listed_answer db query somewhere in
    let set = some_ordered (λ a b. row_cmp a b ≡ Less) rows_ordered listed.0 in (
      set.0,
      record {
        ascending = set.1.ascend;
        exact = λ row. (λ h. (listed.1 row).0 (set.1.only row h), λ h. set.1.kept row ((listed.1 row).1 h));
      },
    )
