-- Which objects locals mark, as more of them are known, and where these are.
use Rattle.std.proofs.Common.{◌≡◌, ◌⊎◌, ℕ, zero, suc, ◌+◌, Bool, true, false, true≢false, if◌then◌else◌, Option, List, [], ◌∷◌, ◌++◌, length, Some, None, refl, sym, ap, subst, ◌∙◌, inl, inr, arith}
use Rattle.std.proofs.lemmas.Option.{none-some, same_Some}
use Rattle.std.proofs.lemmas.Bool.Decides.{nat_tests}
use Rattle.std.proofs.lemmas.Bool.{cases_Bool}
use Rattle.list_laws.proofs.PlaceLaws.{slice_get-push_cases, slice_get-append_left, slice_get-push}
use Rattle.list_laws.proofs.OrderLaws.{eqb_itself}
use Rattle.oem_text.specs.Literals.{Body, IsMarkedAt, is_mark, marked_place}
use Rattle.oem_text.specs.Layouts.{PlacedArc, placed_arc}
use Rattle.oem_text.specs.inside.Views.{target_of}
use Rattle.oem_text.specs.inside.Places.{AreDouble, ArePlaces}

-- ---- one object more
pub marked_left : (xs ys : List Body) (number place : ℕ) → IsMarkedAt xs number place → IsMarkedAt (xs ++ ys) number place
marked_left xs ys number place h = record { body = h.body; at = slice_get-append_left xs ys place h.body h.at; marked = h.marked }

pub marked_last : (xs : List Body) (b : Body) (number : ℕ) → b.mark ≡ Some number → IsMarkedAt (xs ++ b ∷ []) number (length xs)
marked_last xs b number h = record { body = b; at = slice_get-push xs b; marked = h }

pub marked_cases : (xs : List Body) (b : Body) (number place : ℕ) → IsMarkedAt (xs ++ b ∷ []) number place → IsMarkedAt xs number place ⊎ ((place ≡ length xs) × (b.mark ≡ Some number))
marked_cases xs b number place h =
    elim (slice_get-push_cases xs b place h.body h.at) [
      | inl left ↦ inl (record { body = h.body; at = left; marked = h.marked })
      | inr last ↦ inr (last.0, ap (λ (x : Body). x.mark) last.1 ∙ h.marked)
    ]

-- ---- the place of each local
-- where each local has its place no local marks two objects
pub places_single : (xs : List Body) (places : ℕ → Option ℕ) → ArePlaces xs places → AreDouble xs → ⊥
places_single xs places are double =
    let one = are.known double.number double.first double.one in
    let other = are.known double.number double.second double.other in
    let same : double.first ≡ double.second = same_Some double.first double.second (sym one ∙ other) in
    let apart = double.apart in
    absurd (omega (arith, same, apart))

-- ---- the first object that a local marks
is_mark-true : (mark : Option ℕ) (number : ℕ) → is_mark number mark ≡ true → mark ≡ Some number
is_mark-true None number h = absurd (true≢false (sym h))
is_mark-true (Some own) number h = let same : own ≡ number = grind (arith, nat_tests) in ap (λ (n : ℕ). Some n) same

is_mark-same : (mark : Option ℕ) (number : ℕ) → mark ≡ Some number → is_mark number mark ≡ true
is_mark-same mark number h = ap (is_mark number) h ∙ eqb_itself number

first_here : (b : Body) (xs : List Body) (number : ℕ) → b.mark ≡ Some number → IsMarkedAt (b ∷ xs) number (marked_place (b ∷ xs) number)
first_here b xs number h =
    let first = ap (λ (t : Bool). if t then 0 else (1 + marked_place xs number)) (is_mark-same b.mark number h) in
    subst (λ (p : ℕ). IsMarkedAt (b ∷ xs) number p) (sym first) (record { body = b; at = refl; marked = h })

pub first_marked : (xs : List Body) (number place : ℕ) → IsMarkedAt xs number place → IsMarkedAt xs number (marked_place xs number)
first_marked [] number place h = absurd (none-some h.body h.at)
first_marked (b ∷ xs) number zero h =
    let is = same_Some b h.body h.at in
    first_here b xs number (ap (λ (x : Body). x.mark) is ∙ h.marked)
first_marked (b ∷ xs) number (suc place) h =
    elim (cases_Bool (is_mark number b.mark)) [
      | inl e ↦ first_here b xs number (is_mark-true b.mark number e)
      | inr e ↦ (
          let rest = first_marked xs number place (record { body = h.body; at = h.at; marked = h.marked }) in
          let behind : suc (marked_place xs number) ≡ 1 + marked_place xs number = omega arith in
          subst (λ (p : ℕ). IsMarkedAt (b ∷ xs) number p) (behind ∙ sym (ap (λ (t : Bool). if t then 0 else (1 + marked_place xs number)) e))
          (record { body = rest.body; at = rest.at; marked = rest.marked }))
    ]

-- the place that a local has is the first that it marks
pub place_found : (xs : List Body) (places : ℕ → Option ℕ) (number place : ℕ) → ArePlaces xs places → places number ≡ Some place → marked_place xs number ≡ place
place_found xs places number place are h =
    let first = first_marked xs number place (are.marked number place h) in
    same_Some (marked_place xs number) place (sym (are.known number (marked_place xs number) first) ∙ h)

-- an edge to a local that has its place
pub placed_local : (xs : List Body) (places : ℕ → Option ℕ) (parent child place : ℕ) (label : List ℕ) (is_local : Bool) → is_local ≡ true → places child ≡ Some place → ArePlaces xs places
    → ◌≡◌ {A = PlacedArc} (record { parent = parent; label = label; child = place }) (placed_arc xs (record { parent = parent; label = label; target = target_of is_local child }))
placed_local xs places parent child place label true is h are =
    ap (λ (n : ℕ). let made : PlacedArc = record { parent = parent; label = label; child = n } in made) (sym (place_found xs places child place are h))
placed_local xs places parent child place label false is h are = absurd (true≢false (sym is))
