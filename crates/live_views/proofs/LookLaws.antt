-- What is looked at: no place, one place more, and those of a text.
use Rattle.std.proofs.Common.{◌≡◌, ℕ, ◌⊎◌, inl, inr, ◌↔◌, false, true≢false, IsTrue, List, [], ◌∷◌, ◌++◌, sym, ap, subst, ◌∙◌, append_assoc}
use Rattle.std.specs.List.{Contains}
use Rattle.std.proofs.lemmas.List.Elements.{Contains-append_left, Contains-push, Contains-push_cases}
use Rattle.lore_base.specs.Paths.{trees_of}
use Rattle.lore_base.proofs.MemberLaws.{Contains-none}
use Rattle.list_laws.proofs.MemberLaws.{none_in}
use Rattle.lorel_trees.specs.Trees.{SelectTree}
use Rattle.lorel_ranges.specs.Places.{named, Root, Place, cell_places}
use Rattle.lorel_ranges.specs.Conditions.{cond_places}
use Rattle.lorel_ranges.specs.Texts.{from_places, text_places}
use Rattle.live_views.specs.Concerns.{HasStepIn, ComparesValues}
use Rattle.live_views.specs.inside.Looks.{TakesLabel, GainsSteps, LooksAt, IsLookOf}
use Rattle.live_views.specs.declared.looks.Looks.{Looks}

-- where what holds comes to be what held or what holds of one item more, and it held of some item, it holds of some
pub some_pushed : {X : Type 0} (P : X → Type 0) (Before After : Type 0) (xs : List X) (x : X) → After ↔ (Before ⊎ P x)
    → Before ↔ ((y : X) × Contains xs y × P y) → After ↔ ((y : X) × Contains (xs ++ x ∷ []) y × P y)
some_pushed P Before After xs x step some = (
  λ after. elim (step.0 after) [
    | inl before ↦ (let h = some.0 before in (h.0, Contains-append_left xs (x ∷ []) h.0 h.1, h.2))
    | inr own ↦ (x, Contains-push xs x, own)
  ],
  λ h. elim (Contains-push_cases xs x h.0 h.1) [
    | inl earlier ↦ step.1 (inl (some.1 (h.0, earlier, h.2)))
    | inr same ↦ step.1 (inr (subst P (sym same) h.2))
  ],
)

pub LooksAt-none : (looks : Looks) → looks.starts ≡ [] → looks.steps.patterns ≡ [] → looks.steps.any ≡ false → LooksAt [] looks
LooksAt-none looks starts patterns any = record {
  starts = λ name. (λ at. absurd (none_in looks.starts name starts at), λ h. absurd (Contains-none h.0 h.1));
  steps = λ labels label. (
    λ h. elim h [
      | inl is ↦ absurd (true≢false (sym is ∙ any))
      | inr some ↦ absurd (none_in looks.steps.patterns some.0 patterns some.1)
    ],
    λ h. absurd (Contains-none h.0 h.1),
  );
}

pub LooksAt-push : (places : List Place) (place : Place) (before after : Looks)
    → ((name : List ℕ) → Contains after.starts name ↔ (Contains before.starts name ⊎ (place.root ≡ named name)))
    → GainsSteps before.steps after.steps (λ labels label. HasStepIn labels (trees_of place.parts) label)
    → LooksAt places before → LooksAt (places ++ place ∷ []) after
LooksAt-push places place before after starts steps looks = record {
  starts = λ name. some_pushed (λ (p : Place). p.root ≡ named name) (Contains before.starts name) (Contains after.starts name) places place
      (starts name) (looks.starts name);
  steps = λ labels label. some_pushed (λ (p : Place). HasStepIn labels (trees_of p.parts) label)
      (TakesLabel labels before.steps label) (TakesLabel labels after.steps label) places place (steps labels label) (looks.steps labels label);
}

-- ---- the name that a path starts at
pub start_named : (starts : List (List ℕ)) (own name : List ℕ) (root : Root) → root ≡ named own
    → Contains (starts ++ own ∷ []) name ↔ (Contains starts name ⊎ (root ≡ named name))
start_named starts own name root is = (
  λ at. elim (Contains-push_cases starts own name at) [ inl early ↦ inl early | inr same ↦ inr (is ∙ ap named same) ],
  λ h. elim h [
    | inl early ↦ Contains-append_left starts (own ∷ []) name early
    | inr other ↦
        let both : named own ≡ named name = sym is ∙ other in
        let same : own ≡ name = cc in
        subst (Contains (starts ++ own ∷ [])) same (Contains-push starts own)
  ],
)

pub start_unnamed : (starts : List (List ℕ)) (name : List ℕ) (root : Root) → (root ≡ named name → ⊥)
    → Contains starts name ↔ (Contains starts name ⊎ (root ≡ named name))
start_unnamed starts name root apart = (λ at. inl at, λ h. elim h [ inl at ↦ at | inr is ↦ absurd (apart is) ])

-- ---- the places of a text
pub looks_of : (query : SelectTree) (looks : Looks) (from items condition : List Place) → from ≡ from_places [] query.tail.ranges
    → items ≡ cell_places query → condition ≡ cond_places query → IsTrue looks.compares ↔ ComparesValues query
    → LooksAt ((([] ++ from) ++ items) ++ condition) looks → IsLookOf query looks
looks_of query looks from items condition from_is items_is condition_is compares looks_at =
    let whole : (from ++ items) ++ condition ≡ text_places query = append_assoc from items condition ∙ (λ i. from_is i ++ (items_is i ++ condition_is i)) in
    let all = subst (λ (places : List Place). LooksAt places looks) whole looks_at in
    record { starts = all.starts; steps = all.steps; compares = compares }
