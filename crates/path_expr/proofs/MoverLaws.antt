-- Moves of an automaton, and what is remembered of them.
use Rattle.std.proofs.Common.{◌≡◌, ◌↔◌, ℕ, ◌+◌, ◌<◌, ◌≤◌, ◌⊎◌, inl, inr, cond, List, Option, Some, sym, ap, ◌∙◌, subst, arith}
use Rattle.std.specs.Option.{IfSome}
use Rattle.std.proofs.lemmas.Bool.{cases_lt}
use Rattle.std.proofs.lemmas.Bool.Decides.{eqb_tells}
use Rattle.path_expr.specs.Machines.{Machine, IsIn, Follows, IsStep}
use Rattle.path_expr.specs.Types.{Label, States}
use Rattle.path_expr.specs.inside.Movers.{FollowsSome, AreReaders, IsMove, Remembers, same_label}
use Rattle.path_expr.specs.declared.mover.Move.{Move}

-- those that follow one state more
pub followers_more : (machine : Machine) (states after follow more : States) (from state : ℕ)
    → ((next : ℕ) → IsIn after next ↔ ((s : ℕ) × IsIn states s × (s < from) × Follows machine s next))
    → from ≤ state → IsIn states state → ((other : ℕ) → from ≤ other → other < state → IsIn states other → ⊥)
    → ((next : ℕ) → IsIn follow next ↔ Follows machine state next)
    → ((next : ℕ) → IsIn more next ↔ (IsIn after next ⊎ IsIn follow next))
    → (next : ℕ) → IsIn more next ↔ ((s : ℕ) × IsIn states s × (s < state + 1) × Follows machine s next)
followers_more machine states after follow more from state exact behind within least follows joined next = (
  λ h. elim ((joined next).0 h) [
    | inl earlier ↦ (let found = (exact next).0 earlier in (found.0, found.1, omega (arith, found.2, behind), found.3))
    | inr now ↦ (state, within, omega arith, (follows next).0 now)
  ],
  λ h. (joined next).1 (elim (cases_lt h.0 from) [
    | inl earlier ↦ inl ((exact next).1 (h.0, h.1, earlier, h.3))
    | inr later ↦ elim (cases_lt h.0 state) [
      | inl between ↦ absurd (least h.0 later between h.1)
      | inr here ↦ inr ((follows next).1 (subst (λ s. Follows machine s next) (omega (arith, here, h.2)) h.3))
    ]
  ]),
)

-- none follows before any state
pub followers_none : (machine : Machine) (states after : States) → ((next : ℕ) → IsIn after next → ⊥)
    → (next : ℕ) → IsIn after next ↔ ((s : ℕ) × IsIn states s × (s < 0) × Follows machine s next)
followers_none machine states after none next = (λ h. absurd (none next h), λ h. absurd (omega (arith, h.2)))

-- none follows from a place on
pub followers_all : (machine : Machine) (states after : States) (from : ℕ)
    → ((next : ℕ) → IsIn after next ↔ ((s : ℕ) × IsIn states s × (s < from) × Follows machine s next))
    → ((state : ℕ) → from ≤ state → IsIn states state → ⊥) → (next : ℕ) → IsIn after next ↔ FollowsSome machine states next
followers_all machine states after from exact none next = (
  λ h. (let found = (exact next).0 h in (found.0, found.1, found.3)),
  λ h. (exact next).1 (h.0, h.1, elim (cases_lt h.0 from) [ inl below ↦ below | inr later ↦ absurd (none h.0 later h.1) ], h.2),
)

-- the last move on a label is remembered
pub Remembers-more : (labels : List (List ℕ)) (machine : Machine) (before after : Label → Option Move) (label : Label) (move : Move)
    → Remembers labels machine before → IsMove labels machine label move
    → ((other : Label) → after other ≡ cond (same_label label other) (Some move) (before other)) → Remembers labels machine after
Remembers-more labels machine before after label move earlier now updates other = elim (eqb_tells label.0 other.0) [
  | inl here ↦
      let same : label ≡ other = λ i. record { 0 = here.1 i } in
      subst (λ r. IfSome r (IsMove labels machine other)) (sym (updates other ∙ ap (λ b. cond b (Some move) (before other)) here.0))
      (subst (λ l. IsMove labels machine l move) same now)
  | inr apart ↦
      subst (λ r. IfSome r (IsMove labels machine other)) (sym (updates other ∙ ap (λ b. cond b (Some move) (before other)) apart.0)) (earlier other)
]

-- the followers of those states that read a label
pub IsStep-followers : (labels : List (List ℕ)) (machine : Machine) (states readers both after : States) (label : Label) → AreReaders labels machine label readers
    → ((state : ℕ) → IsIn both state ↔ (IsIn states state × IsIn readers state)) → ((next : ℕ) → IsIn after next ↔ FollowsSome machine both next)
    → IsStep labels machine states label after
IsStep-followers labels machine states readers both after label reads meet follow next = (
  λ h.
      let found = (follow next).0 h in
      let read = (meet found.0).0 found.1 in
      (found.0, read.0, ((reads found.0).0 read.1, found.2)),
  λ h. (follow next).1 (h.0, (meet h.0).1 (h.1, (reads h.0).1 h.2.0), h.2.1),
)

-- the same move again
pub IsStep-again : (labels : List (List ℕ)) (machine : Machine) (states others after : States) (label : Label)
    → IsStep labels machine others label after → others.0 ≡ states.0 → IsStep labels machine states label after
IsStep-again labels machine states others after label step same_states =
    let stated : others ≡ states = λ i. record { 0 = same_states i } in
    subst (λ s. IsStep labels machine s label after) stated step
