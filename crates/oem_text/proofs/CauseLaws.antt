-- Why locals are refused, and that none is once each local has its place.
use Rattle.std.proofs.Common.{Option, ◌≡◌, ℕ, [], map, All, Contains, refl, sym, ap, subst, ◌∙◌, inl, inr}
use Rattle.std.proofs.lemmas.Option.{none-some}
use Rattle.std.proofs.lemmas.List.Elements.{All-contains}
use Rattle.lore_base.specs.Verdicts.{IsFirst, IsClear}
use Rattle.lore_base.proofs.MemberLaws.{Contains-head, Contains-tail, Contains-cases, Contains-same}
use Rattle.list_laws.proofs.MemberLaws.{Contains-map, Contains-from_map}
use Rattle.lorel_trees.specs.Trees.{LiteralTree, local, atom, node}
use Rattle.oem_text.specs.Types.refusals
use Rattle.oem_text.specs.Literals.{Arc, called, target, bodies, arcs_of, HasDouble, HasUndefined}
use Rattle.oem_text.specs.Parts.{LocalCause, local_order}
use Rattle.oem_text.specs.inside.Places.{AreDouble, ArePlaces, IsLost, IsFound}
use Rattle.oem_text.proofs.PlaceLaws.{places_single}

double_of : (literal : LiteralTree) → AreDouble (bodies literal) → HasDouble literal
double_of literal h = record { number = h.number; first = h.first; second = h.second; apart = h.apart; one = h.one; other = h.other }

single_of : (literal : LiteralTree) (places : ℕ → Option ℕ) → ArePlaces (bodies literal) places → HasDouble literal → ⊥
single_of literal places are h =
    places_single (bodies literal) places are (record { number = h.number; first = h.first; second = h.second; apart = h.apart; one = h.one; other = h.other })

-- a local that marks two objects
pub told_double : (literal : LiteralTree) → AreDouble (bodies literal) → IsFirst (LocalCause literal) local_order refusals.DuplicateLocal
told_double literal h = inl (double_of literal h, refl)

-- a literal that is a local marks nothing
pub told_local : (literal : LiteralTree) (number : ℕ) → literal ≡ local number → IsFirst (LocalCause literal) local_order refusals.UndefinedLocal
told_local literal number is =
    subst (λ (t : LiteralTree). IsFirst (LocalCause t) local_order refusals.UndefinedLocal) (sym is)
    (inr (
      (λ h. none-some h.one.body h.one.at),
      inl (
        record {
          number = number;
          used = Contains-head (called number) [];
          unmarked = λ place h. none-some h.body h.at;
        },
        refl,
      ),
    ))

-- an edge leads to a local that marks nothing
pub told_undefined : (literal : LiteralTree) (places : ℕ → Option ℕ) (number : ℕ) (arc : Arc) → ArePlaces (bodies literal) places → Contains (arcs_of literal) arc → IsLost places number arc
    → IsFirst (LocalCause literal) local_order refusals.UndefinedLocal
told_undefined literal places number arc are at lost =
    let targets = map (λ (a : Arc). a.target) (arcs_of literal) in
    inr (
      single_of literal places are,
      inl (
        record {
          number = number;
          used = Contains-tail (target 0 literal) targets (called number)
              (Contains-same targets arc.target (called number) lost.leads (Contains-map (λ (a : Arc). a.target) (arcs_of literal) arc at));
          unmarked = λ place h. none-some place (sym lost.nowhere ∙ are.known number place h);
        },
        refl,
      ),
    )

-- each local has its place
pub clear_locals : (literal : LiteralTree) (places : ℕ → Option ℕ) → ((number : ℕ) → literal ≡ local number → ⊥) → ArePlaces (bodies literal) places
    → All (IsFound places) (arcs_of literal) → IsClear (LocalCause literal) local_order
clear_locals literal places other are found = (single_of literal places are, (defined, tt))
  where
    whole : (t : LiteralTree) (number : ℕ) → target 0 t ≡ called number → t ≡ local number
    whole (local own) number is = let same : own ≡ number = cc in ap (λ (n : ℕ). local n) same
    whole (atom mark value) number is = absurd (cc)
    whole (node mark members) number is = absurd (cc)

    defined : HasUndefined literal → ⊥
    defined h = elim (Contains-cases (target 0 literal) (map (λ (a : Arc). a.target) (arcs_of literal)) (called h.number) h.used) [
      | inl is ↦ other h.number (whole literal h.number is)
      | inr later ↦ (
          let arc = Contains-from_map (λ (a : Arc). a.target) (arcs_of literal) (called h.number) later in
          let there = (All-contains (IsFound places) (arcs_of literal) arc.0 found arc.1).place h.number arc.2 in
          h.unmarked there.0 (are.marked h.number there.0 there.1))
    ]
