-- It can be told of a literal whether a local marks two of its objects, and whether it uses a local that marks none.
use Rattle.std.proofs.Common.{◌≡◌, ℕ, zero, suc, ◌<◌, ◌⊎◌, inl, inr, List, [], ◌∷◌, map, Option, Some, None, refl, sym}
use Rattle.std.proofs.Common.{ap, subst, ◌∙◌, arith}
use Rattle.std.specs.List.{Contains}
use Rattle.std.proofs.lemmas.Bool.{cases_eq}
use Rattle.std.proofs.lemmas.Option.{none-some, same_Some}
use Rattle.lore_base.proofs.ToldLaws.{IsTold, told_same, told_not, told_some}
use Rattle.lorel_trees.specs.Trees.{LiteralTree}
use Rattle.oem_text.specs.Literals.{Body, Target, placed, called, target, bodies, arcs_of, IsMarkedAt, HasDouble}
use Rattle.oem_text.specs.Literals.{HasUndefined}

-- ---- one object more
marked_head : (body : Body) (others : List Body) (number : ℕ) → body.mark ≡ Some number
    → IsMarkedAt (body ∷ others) number zero
marked_head body others number is = record { body = body; at = refl; marked = is }

marked_tail : (body : Body) (others : List Body) (number place : ℕ) → IsMarkedAt others number place
    → IsMarkedAt (body ∷ others) number (suc place)
marked_tail body others number place h = record { body = h.body; at = h.at; marked = h.marked }

marked_cases : (body : Body) (others : List Body) (number place : ℕ) → IsMarkedAt (body ∷ others) number place
    → ((place ≡ zero) × (body.mark ≡ Some number)) ⊎ ((rest : ℕ) × (place ≡ suc rest) × IsMarkedAt others number rest)
marked_cases body others number zero h =
    inl (refl, ap (λ (b : Body). b.mark) (same_Some body h.body h.at) ∙ h.marked)
marked_cases body others number (suc rest) h = inr (rest, refl, record { body = h.body; at = h.at; marked = h.marked })

-- ---- objects that a local marks
abbrev IsMarked : List Body → ℕ → Type 0
IsMarked places number = (place : ℕ) × IsMarkedAt places number place

told_mark : (mark : Option ℕ) (number : ℕ) → IsTold (mark ≡ Some number)
told_mark None number = inr (λ is. none-some number is)
told_mark (Some own) number =
    told_same (λ (same : own ≡ number). ap (λ (n : ℕ). Some n) same) (same_Some own number)
    (cases_eq own number)

told_marked : (places : List Body) (number : ℕ) → IsTold (IsMarked places number)
told_marked [] number = inr (λ h. none-some h.1.body h.1.at)
told_marked (body ∷ others) number = elim (told_mark body.mark number) [
  | inl is ↦ inl (zero, marked_head body others number is)
  | inr other ↦ told_same
      (λ h. (suc h.0, marked_tail body others number h.0 h.1))
      (λ h. elim (marked_cases body others number h.0 h.1) [
        | inl first ↦ absurd (other first.1)
        | inr later ↦ (later.0, later.2)
      ])
      (told_marked others number)
]

-- the mark is one of the others' too
abbrev IsMarkedAgain : Option ℕ → List Body → Type 0
IsMarkedAgain mark others = (number : ℕ) × (mark ≡ Some number) × IsMarked others number

told_again : (mark : Option ℕ) (others : List Body) → IsTold (IsMarkedAgain mark others)
told_again None others = inr (λ h. none-some h.0 h.1)
told_again (Some own) others =
    told_same (λ h. (own, refl, h)) (λ h. subst (IsMarked others) (sym (same_Some own h.0 h.1)) h.2)
    (told_marked others own)

-- ---- two objects of one local
abbrev AreDouble : List Body → Type 0
AreDouble places = (number : ℕ) × (first : ℕ) × (second : ℕ)
    × (first < second) × IsMarkedAt places number first × IsMarkedAt places number second

double_cases : (body : Body) (others : List Body) → AreDouble (body ∷ others)
    → AreDouble others ⊎ IsMarkedAgain body.mark others
double_cases body others h = elim (marked_cases body others h.0 h.2 h.5) [
  | inl none ↦ absurd (omega (arith, h.3, none.0))
  | inr second ↦ elim (marked_cases body others h.0 h.1 h.4) [
    | inl first ↦ inr (h.0, first.1, (second.0, second.2))
    | inr first ↦ inl (h.0, first.0, second.0, omega (arith, h.3, first.1, second.1), first.2, second.2)
  ]
]

told_two : (places : List Body) → IsTold (AreDouble places)
told_two [] = inr (λ h. none-some h.4.body h.4.at)
told_two (body ∷ others) = elim (told_two others) [
  | inl h ↦ inl (
    h.0,
    suc h.1,
    suc h.2,
    omega (arith, h.3),
    marked_tail body others h.0 h.1 h.4,
    marked_tail body others h.0 h.2 h.5,
  )
  | inr none ↦ told_same
      (λ (h : IsMarkedAgain body.mark others). (
        h.0,
        zero,
        suc h.2.0,
        omega arith,
        marked_head body others h.0 h.1,
        marked_tail body others h.0 h.2.0 h.2.1,
      ))
      (λ h. elim (double_cases body others h) [ inl later ↦ absurd (none later) | inr again ↦ again ])
      (told_again body.mark others)
]

pub told_double : (literal : LiteralTree) → IsTold (HasDouble literal)
told_double literal =
    told_same
    (λ (h : AreDouble (bodies literal)). record {
      number = h.0;
      first = h.1;
      second = h.2;
      apart = h.3;
      one = h.4;
      other = h.5;
    })
    (λ (h : HasDouble literal). (h.number, h.first, h.second, h.apart, h.one, h.other)) (told_two (bodies literal))

-- ---- a local of no object
abbrev LeadsNowhere : List Body → Target → Type 0
LeadsNowhere places leads = (number : ℕ) × (leads ≡ called number) × (IsMarked places number → ⊥)

abbrev local_of : Target → ℕ
local_of (placed place) = 0
local_of (called number) = number

number_same : (a b : ℕ) → called a ≡ called b → a ≡ b
number_same a b same = ap local_of same

told_nowhere : (places : List Body) (leads : Target) → IsTold (LeadsNowhere places leads)
told_nowhere places (placed place) = inr (λ h. let apart : placed place ≡ called h.0 = h.1 in cc)
told_nowhere places (called own) =
    told_same (λ none. (own, refl, none))
    (λ h. λ marked. h.2 (subst (IsMarked places) (number_same own h.0 h.1) marked))
    (told_not (told_marked places own))

pub told_undefined : (literal : LiteralTree) → IsTold (HasUndefined literal)
told_undefined literal =
    let list = target 0 literal ∷ map (λ arc. arc.target) (arcs_of literal) in
    told_same
    (λ h. record {
      number = h.2.0;
      used = subst (λ (leads : Target). Contains list leads) h.2.1 h.1;
      unmarked = λ place at. h.2.2 (place, at);
    })
    (λ (h : HasUndefined literal). (called h.number, h.used, (h.number, refl, λ marked. h.unmarked marked.0 marked.1)))
    (told_some (LeadsNowhere (bodies literal)) (told_nowhere (bodies literal)) list)
