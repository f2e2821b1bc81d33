-- What finitely many arcs lead to from listed items can be listed.
use Rattle.std.proofs.Common.{◌≡◌, inl, inr, List, [], ◌∷◌, ◌++◌, sym, ap, subst}
use Rattle.std.specs.List.{Contains}
use Rattle.std.proofs.lemmas.List.Elements.{Contains-append_left, Contains-append_right, Contains-append_cases}
use Rattle.lore_base.proofs.MemberLaws.{Contains-none, Contains-head, Contains-tail, Contains-cases, Contains-same}
use Rattle.lore_base.proofs.ToldLaws.{IsTold, told_member}

-- the list has the starts and what arcs lead to from its items, and all its items pass
pub record IsClosed {X : Type 0} (P : X → Type 0) (arcs : List (X × X)) (starts found : List X) : Type 0 where
  pub started : (x : X) → Contains starts x → Contains found x
  pub closed : (arc : X × X) → Contains arcs arc → Contains found arc.0 → Contains found arc.1
  pub sound : (x : X) → Contains found x → P x

module _ {X : Type 0} (P : X → Type 0) (arc : X × X) (arcs : List (X × X)) (starts found : List X)
    (is : IsClosed P arcs starts found) where
  -- an arc more, that leads from no item of the list
  closed_without : (Contains found arc.0 → ⊥) → IsClosed P (arc ∷ arcs) starts found
  closed_without apart = record {
    started = is.started;
    closed = λ other at from. elim (Contains-cases arc arcs other at) [
      | inl same ↦ absurd (apart
          (Contains-same found other.0 arc.0 (sym (ap (λ (a : X × X). a.0) same)) from))
      | inr old ↦ is.closed other old from
    ];
    sound = is.sound;
  }

  -- an arc more, and what its end leads to
  closed_with : (more : List X) → IsClosed P arcs (arc.1 ∷ []) more
      → IsClosed P (arc ∷ arcs) starts (found ++ more)
  closed_with more behind = record {
    started = λ x at. Contains-append_left found more x (is.started x at);
    closed = λ other at from. elim (Contains-cases arc arcs other at) [
      | inl same ↦ Contains-append_right found more other.1
          (Contains-same more arc.1 other.1 (ap (λ (a : X × X). a.1) same)
          (behind.started arc.1 (Contains-head arc.1 [])))
      | inr old ↦ elim (Contains-append_cases found more other.0 from) [
        | inl left ↦ Contains-append_left found more other.1 (is.closed other old left)
        | inr right ↦ Contains-append_right found more other.1 (behind.closed other old right)
      ]
    ];
    sound = λ x at. elim (Contains-append_cases found more x at) [
      | inl left ↦ is.sound x left
      | inr right ↦ behind.sound x right
    ];
  }

pub some_closed : {X : Type 0} → ((a b : X) → IsTold (a ≡ b)) → (P : X → Type 0) (arcs : List (X × X))
    → ((arc : X × X) → Contains arcs arc → P arc.0 → P arc.1)
    → (starts : List X) → ((x : X) → Contains starts x → P x)
    → (found : List X) × IsClosed P arcs starts found
some_closed told P [] keeps starts passes = (
  starts,
  record { started = λ x at. at; closed = λ arc at from. absurd (Contains-none arc at); sound = passes },
)
some_closed {X} told P (arc ∷ arcs) keeps starts passes =
    let kept : (other : X × X) → Contains arcs other → P other.0 → P other.1 =
    λ other at. keeps other (Contains-tail arc arcs other at) in
    let first = some_closed told P arcs kept starts passes in
    elim (told_member told first.0 arc.0) [
      | inr apart ↦ (first.0, closed_without P arc arcs starts first.0 first.1 apart)
      | inl there ↦ (
          let passes_on = keeps arc (Contains-head arc arcs) (first.1.sound arc.0 there) in
          let behind = some_closed told P arcs kept (arc.1 ∷ [])
          (λ x at. elim (Contains-cases arc.1 [] x at) [
            | inl same ↦ subst P same passes_on
            | inr none ↦ absurd (Contains-none x none)
          ]) in
          (first.0 ++ behind.0, closed_with P arc arcs starts first.0 first.1 behind.0 behind.1))
    ]
