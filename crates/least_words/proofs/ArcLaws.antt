-- Arcs that are appended: none, those of an edge, of an object's edges, of a place and of places.
use Rattle.std.proofs.Common.{◌≡◌, ◌↔◌, ℕ, ◌<◌, ◌⊎◌, inl, inr, false, List, [], ◌∷◌, ◌++◌, length, sym, ap, ◌∙◌, subst, arith}
use Rattle.std.specs.List.{Contains}
use Rattle.std.proofs.lemmas.List.{append-nil, append_assoc}
use Rattle.std.proofs.lemmas.List.Elements.{Contains-append_left, Contains-append_right, Contains-append_cases, Contains-push, Contains-push_cases}
use Rattle.std.specs.List.Sorted.{IsPermutation}
use Rattle.std.proofs.lemmas.List.Sorted.{Contains-permutation, IsPermutation-sym}
use Rattle.std.proofs.lemmas.Option.{slice_get_within}
use Rattle.lore_base.specs.Walks.{out_of}
use Rattle.lore_base.proofs.MemberLaws.{Contains-none}
use Rattle.path_expr.specs.Machines.{Machine, IsBounded, StepsTo, IsStep, reads_on}
use Rattle.path_expr.proofs.ReadsOnLaws.{reads_on-false}
use Rattle.product_walk.proofs.ArcLaws.{arcs_along}
use Rattle.least_words.specs.Types.{Oid, Label, Edge, States, Arc, Place}
use Rattle.least_words.specs.inside.Arcs.{LeadsBy, LeadsFrom, LeadsFromSome, IsArcTo, IsListed, IsNext, AddsArcs, AreArcsFrom}

IsListed-cases : (first later : List Arc) (label : Label) (there : Oid × ℕ) → IsListed (first ++ later) label there ↔ (IsListed first label there ⊎ IsListed later label there)
IsListed-cases first later label there = (
  λ listed. elim (Contains-append_cases first later listed.0 listed.1) [
    | inl front ↦ inl (listed.0, front, listed.2)
    | inr back ↦ inr (listed.0, back, listed.2)
  ],
  λ either. elim either [
    | inl front ↦ (front.0, Contains-append_left first later front.0 front.1, front.2)
    | inr back ↦ (back.0, Contains-append_right first later back.0 back.1, back.2)
  ],
)

pub AddsArcs-none : (Passes : Label → Oid × ℕ → Type 0) (arcs : List Arc) → ((label : Label) (there : Oid × ℕ) → Passes label there → ⊥) → AddsArcs Passes arcs arcs
AddsArcs-none Passes arcs none = record {
  more = [];
  is = sym (append-nil arcs);
  exact = λ label there. (λ listed. absurd (Contains-none listed.0 listed.1), λ passes. absurd (none label there passes));
}

pub AddsArcs-same : (P Q : Label → Oid × ℕ → Type 0) (old new : List Arc) → ((label : Label) (there : Oid × ℕ) → P label there ↔ Q label there) → AddsArcs P old new → AddsArcs Q old new
AddsArcs-same P Q old new same adds = record {
  more = adds.more;
  is = adds.is;
  exact = λ label there. (λ listed. (same label there).0 ((adds.exact label there).0 listed), λ passes. (adds.exact label there).1 ((same label there).1 passes));
}

pub AddsArcs-then : (P Q R : Label → Oid × ℕ → Type 0) (old middle new : List Arc) → AddsArcs P old middle → AddsArcs Q middle new
    → ((label : Label) (there : Oid × ℕ) → R label there ↔ (P label there ⊎ Q label there)) → AddsArcs R old new
AddsArcs-then P Q R old middle new first second both = record {
  more = first.more ++ second.more;
  is = second.is ∙ ap (λ l. l ++ second.more) first.is ∙ append_assoc old first.more second.more;
  exact = λ label there. (
    λ listed. (both label there).1 (elim ((IsListed-cases first.more second.more label there).0 listed) [
      | inl front ↦ inl ((first.exact label there).0 front)
      | inr back ↦ inr ((second.exact label there).0 back)
    ]),
    λ passes. (IsListed-cases first.more second.more label there).1 (elim ((both label there).0 passes) [
      | inl front ↦ inl ((first.exact label there).1 front)
      | inr back ↦ inr ((second.exact label there).1 back)
    ]),
  );
}

module _ (labels : List (List ℕ)) (machine : Machine) where
  -- edges, one after another
  pub IsNext-none : (states : States) (label : Label) (there : Oid × ℕ) → IsNext labels machine states [] label there → ⊥
  IsNext-none states label there next = Contains-none next.0 next.1

  pub IsNext-more : (states : States) (edges : List Edge) (edge : Edge) (arc : Arc) → arc.label ≡ edge.label → arc.oid ≡ edge.child → IsStep labels machine states arc.label arc.states
      → (label : Label) (there : Oid × ℕ) → IsNext labels machine states (edges ++ edge ∷ []) label there ↔ (IsNext labels machine states edges label there ⊎ IsArcTo arc label there)
  IsNext-more states edges edge arc same_label same_child step label there = (
    λ next. elim (Contains-push_cases edges edge next.0 next.1) [
      | inl earlier ↦ inl (next.0, earlier, next.2, next.3, next.4)
      | inr same ↦
          let here : arc.label ≡ label = same_label ∙ ap (λ (e : Edge). e.label) same ∙ next.2 in
          inr (here, same_child ∙ ap (λ (e : Edge). e.child) same ∙ next.3, (step there.1).1 (subst (λ l. StepsTo labels machine states l there.1) (sym here) next.4))
    ],
    λ either. elim either [
      | inl earlier ↦ (earlier.0, Contains-append_left edges (edge ∷ []) earlier.0 earlier.1, earlier.2, earlier.3, earlier.4)
      | inr now ↦ (
        edge,
        Contains-push edges edge,
        sym same_label ∙ now.0,
        sym same_child ∙ now.1,
        subst (λ l. StepsTo labels machine states l there.1) now.0 ((step there.1).0 now.2),
      )
    ],
  )

  -- the edges of an object show where a place leads
  pub IsNext-place : (edges : List Edge) (place : Place) (label : Label) (there : Oid × ℕ)
      → IsNext labels machine place.states (out_of place.oid edges) label there ↔ LeadsFrom (LeadsBy labels machine edges) place label there
  IsNext-place edges place label there =
      let arcs = arcs_along edges place.oid label there.0 in (
        λ next. (next.4.0, next.4.1, (arcs.1 (next.0, next.1, next.2, next.3), next.4.2)),
        λ leads. (let edge = arcs.0 leads.2.0 in (edge.0, edge.1, edge.2, edge.3, (leads.0, leads.1, leads.2.1))),
      )

  -- at the end alone a place leads nowhere
  pub leads_nowhere : (edges : List Edge) (place : Place) → IsBounded machine → reads_on place.states ≡ false
      → (label : Label) (there : Oid × ℕ) → LeadsFrom (LeadsBy labels machine edges) place label there → ⊥
  leads_nowhere edges place bounded ended label there leads =
      let read = leads.2.1.0 in
      let within : leads.0 < length machine.leaves = slice_get_within machine.leaves leads.0 read.0 read.1 in
      reads_on-false place.states ended leads.0 (omega (arith, within, bounded.few)) leads.1

-- places, one after another
module _ (leads : Oid × ℕ → Label → Oid × ℕ → Type 0) where
  pub LeadsFromSome-none : (label : Label) (there : Oid × ℕ) → LeadsFromSome leads [] label there → ⊥
  LeadsFromSome-none label there some = Contains-none some.0 some.1

  pub LeadsFromSome-more : (places : List Place) (place : Place) (label : Label) (there : Oid × ℕ)
      → LeadsFromSome leads (places ++ place ∷ []) label there ↔ (LeadsFromSome leads places label there ⊎ LeadsFrom leads place label there)
  LeadsFromSome-more places place label there = (
    λ some. elim (Contains-push_cases places place some.0 some.1) [
      | inl earlier ↦ inl (some.0, earlier, some.2)
      | inr same ↦ inr (subst (λ (p : Place). LeadsFrom leads p label there) (sym same) some.2)
    ],
    λ either. elim either [
      | inl earlier ↦ (earlier.0, Contains-append_left places (place ∷ []) earlier.0 earlier.1, earlier.2)
      | inr now ↦ (place, Contains-push places place, now)
    ],
  )

  -- in any order they show the same
  pub AreArcsFrom-sorted : (places : List Place) (old new sorted : List Arc) → old ≡ [] → AddsArcs (LeadsFromSome leads places) old new → IsPermutation new sorted
      → AreArcsFrom leads places sorted
  AreArcsFrom-sorted places old new sorted none adds moved label there =
      let is : new ≡ adds.more = adds.is ∙ ap (λ l. l ++ adds.more) none in
      let exact = adds.exact label there in (
        λ listed. exact.0 (listed.0, subst (λ l. Contains l listed.0) is (Contains-permutation sorted new listed.0 (IsPermutation-sym new sorted moved) listed.1), listed.2),
        λ leads_there.
            let listed = exact.1 leads_there in
            (listed.0, Contains-permutation new sorted listed.0 moved (subst (λ l. Contains l listed.0) (sym is) listed.1), listed.2),
      )
