-- Valuations range by range: where what each path leads to is a finite list, so is what the valuations of ranges in order show.
use Rattle.std.proofs.Common.{◌≡◌, ◌≢◌, inl, inr, ◌↔◌, ℕ, List, [], ◌∷◌, ◌++◌, All, refl, sym, ap, subst, ◌∙◌, append_assoc, append-nil}
use Rattle.std.proofs.lemmas.List.Elements.{All-nil, All-cons, All-head, All-tail, Contains-append_left, Contains-push, Contains-push_cases}
use Rattle.lore_base.specs.Paths.{PathTree}
use Rattle.lore_base.proofs.MemberLaws.{Contains-same}
use Rattle.lorel_bind.specs.Types.{Oid}
use Rattle.lorel_ranges.specs.Places.{Place}
use Rattle.lorel_ranges.specs.Ranges.{PlacedRange, places}
use Rattle.lorel_ranges.specs.inside.Orders.{IsPlaced, AreOrdered}
use Rattle.lorel_bound.proofs.ListedLaws.{IsListed, listed_same, listed_over}
use Rattle.bind_laws.proofs.ValuationLaws.{moved, moved_there, moved_elsewhere}
use Rattle.lorel_bind.proofs.RootLaws.{IsBoundName, IsKnown, known_found}

-- ---- valuations that agree where the objects are known
module _ (names : List (List ℕ × Oid)) where
  -- two valuations have the same objects at bound names and at these places
  abbrev pub Agree : List Place → (Place → Oid) → (Place → Oid) → Type 0
  Agree earlier at other = (place : Place) → IsKnown names earlier place → at place ≡ other place

  -- a range gives an object to a place that isn't known yet
  unknown : (earlier : List Place) (range : PlacedRange) → IsPlaced earlier range → (place : Place) → IsKnown names earlier place → place ≢ range.place
  unknown earlier range placed place (inl named) same = placed.is_open.unnamed (named.0, sym same ∙ named.2)
  unknown earlier range placed place (inr there) same = placed.is_new (Contains-same earlier place range.place same there)

  module _ (earlier : List Place) (range : PlacedRange) (placed : IsPlaced earlier range) (at : Place → Oid) (oid : Oid) (other : Place → Oid) where
    agree_before : Agree (earlier ++ range.place ∷ []) (moved at range.place oid) other → Agree earlier at other
    agree_before agree place (inl named) =
        moved_elsewhere at range.place oid place (unknown earlier range placed place (inl named)) ∙ agree place (inl named)
    agree_before agree place (inr there) =
        moved_elsewhere at range.place oid place (unknown earlier range placed place (inr there))
        ∙ agree place (inr (Contains-append_left earlier (range.place ∷ []) place there))

    agree_here : Agree (earlier ++ range.place ∷ []) (moved at range.place oid) other → oid ≡ other range.place
    agree_here agree = sym (moved_there at range.place oid range.place refl) ∙ agree range.place (inr (Contains-push earlier range.place))

    agree_behind : Agree earlier at other → oid ≡ other range.place → Agree (earlier ++ range.place ∷ []) (moved at range.place oid) other
    agree_behind agree here place (inl named) =
        sym (moved_elsewhere at range.place oid place (unknown earlier range placed place (inl named))) ∙ agree place (inl named)
    agree_behind agree here place (inr there) =
        elim (Contains-push_cases earlier range.place place there) [
          | inl before ↦ sym (moved_elsewhere at range.place oid place (unknown earlier range placed place (inr before))) ∙ agree place (inr before)
          | inr same ↦ moved_there at range.place oid place (sym same) ∙ here ∙ ap other same
        ]

-- ---- what valuations show
module _ (names : List (List ℕ × Oid)) {Row : Type 0} (Leads : List PathTree → Oid → Oid → Type 0) (Shows : (Place → Oid) → Row → Type 0) where
  -- a range has an object that its path leads to
  abbrev Meets : (Place → Oid) → PlacedRange → Type 0
  Meets at range = Leads range.parts (at range.start) (at range.place)

  -- what a valuation of the ranges shows that agrees with one of the earlier places
  abbrev pub ShowsBehind : List Place → List PlacedRange → (Place → Oid) → Row → Type 0
  ShowsBehind earlier ranges at row = (other : Place → Oid) × Agree names earlier at other × All (Meets other) ranges × Shows other row

  -- an object for the first range, and then the others
  shown_next : (earlier : List Place) (range : PlacedRange) (ranges : List PlacedRange) → IsPlaced earlier range → IsBoundName names range.start.root
      → (at : Place → Oid) (row : Row)
      → ((oid : Oid) × Leads range.parts (at range.start) oid × ShowsBehind (earlier ++ range.place ∷ []) ranges (moved at range.place oid) row)
      ↔ ShowsBehind earlier (range ∷ ranges) at row
  shown_next earlier range ranges placed bound at row =
      let known = known_found names earlier range.start placed.found bound in (
        λ h.
            let other = h.2.0 in
            let agree = agree_before names earlier range placed at h.0 other h.2.1 in
            let led : Leads range.parts (at range.start) (other range.place) =
            subst (Leads range.parts (at range.start)) (agree_here names earlier range placed at h.0 other h.2.1) h.1 in
            let meets = subst (λ (start : Oid). Leads range.parts start (other range.place)) (agree range.start known) led in
            (other, agree, All-cons (Meets other) range ranges meets h.2.2, h.2.3),
        λ h.
            let other = h.0 in
            let meets = All-head (Meets other) range ranges h.2 in
            let led = subst (λ (start : Oid). Leads range.parts start (other range.place)) (sym (h.1 range.start known)) meets in
            (other range.place, led, (other, agree_behind names earlier range placed at (other range.place) other h.1 refl, All-tail (Meets other) range ranges h.2, h.3)),
      )

  -- what the valuations show is a finite list, where what is shown hangs on known places alone
  pub listed_rows : ((parts : List PathTree) (start : Oid) → IsListed (Leads parts start)) → ((at : Place → Oid) → IsListed (Shows at))
      → (ranges : List PlacedRange) (earlier : List Place)
      → ((at other : Place → Oid) → Agree names (earlier ++ places ranges) at other → (row : Row) → Shows other row → Shows at row)
      → AreOrdered earlier ranges → All (λ range. IsBoundName names range.start.root) ranges
      → (at : Place → Oid) → IsListed (ShowsBehind earlier ranges at)
  listed_rows led shown [] earlier alike ordered bound at =
      listed_same (Shows at) (ShowsBehind earlier [] at)
      (λ row. (
        λ h. (at, λ place known. refl, All-nil (Meets at), h),
        λ h. alike at h.0 (λ place known. h.1 place (subst (λ (all : List Place). IsKnown names all place) (append-nil earlier) known)) row h.3,
      ))
      (shown at)
  listed_rows led shown (range ∷ ranges) earlier alike ordered bound at =
      let longer : (earlier ++ range.place ∷ []) ++ places ranges ≡ earlier ++ range.place ∷ places ranges = append_assoc earlier (range.place ∷ []) (places ranges) in
      let next : (other : Place → Oid) → IsListed (ShowsBehind (earlier ++ range.place ∷ []) ranges other) =
      listed_rows led shown ranges (earlier ++ range.place ∷ [])
      (λ one other agree. alike one other (subst (λ (all : List Place). Agree names all one other) longer agree)) ordered.1
      (All-tail (λ r. IsBoundName names r.start.root) range ranges bound) in
      listed_same
      (λ row. (oid : Oid) × Leads range.parts (at range.start) oid × ShowsBehind (earlier ++ range.place ∷ []) ranges (moved at range.place oid) row)
      (ShowsBehind earlier (range ∷ ranges) at)
      (shown_next earlier range ranges ordered.0 (All-head (λ r. IsBoundName names r.start.root) range ranges bound) at)
      (listed_over (Leads range.parts (at range.start)) (λ oid. ShowsBehind (earlier ++ range.place ∷ []) ranges (moved at range.place oid))
      (led range.parts (at range.start)) (λ oid. next (moved at range.place oid)))
