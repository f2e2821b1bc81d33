-- What steps take once those of one part more are added.
use Rattle.std.proofs.Common.{◌≡◌, ◌⊎◌, inl, inr, ◌↔◌, List, [], ◌∷◌, ◌++◌, sym, ap, subst, ◌∙◌}
use Rattle.std.proofs.lemmas.List.Elements.{Contains-append_left, Contains-push, Contains-push_cases}
use Rattle.lore_base.specs.Paths.{PathTree, step, path_step, list_step, path_tree, Fits}
use Rattle.lore_base.specs.declared.paths.Path.{Path, Step}
use Rattle.lore_base.specs.declared.paths.Path.TheVariants.{rolls-Step}
use Rattle.lore_base.specs.declared.paths.Path.TheOpen as layer
use Rattle.lore_base.specs.declared.paths.Path.TheFolds.{fold-roll-Path}
use Rattle.live_views.specs.Types.{Pattern}
use Rattle.live_views.specs.inside.Looks.{TakesLabel, GainsSteps}
use Rattle.live_views.specs.declared.steps.StepPatterns.{StepPatterns}

-- the plain data of a step
pub step_tree : (path : Path) (pattern : Pattern) → path ≡ Step pattern → path_tree path ≡ step pattern
step_tree path pattern is = ap path_tree (is ∙ sym (rolls-Step pattern)) ∙ fold-roll-Path PathTree (List PathTree) path_step list_step (layer.Step pattern)

-- a pattern comes to the others
pub gains_pattern : (before : StepPatterns) (patterns : List Pattern) (pattern : Pattern) → patterns ≡ before.patterns ++ pattern ∷ []
    → GainsSteps before (record { patterns = patterns; any = before.any }) (λ labels label. Fits labels pattern label)
gains_pattern before patterns pattern pushed = λ labels label.
    subst (λ (l : List Pattern). TakesLabel labels (record { patterns = l; any = before.any }) label ↔ (TakesLabel labels before label ⊎ Fits labels pattern label))
    (sym pushed) (
      λ h. elim h [
        | inl any ↦ inl (inl any)
        | inr some ↦ elim (Contains-push_cases before.patterns pattern some.0 some.1) [
          | inl early ↦ inl (inr (some.0, early, some.2))
          | inr same ↦ inr (subst (λ (p : Pattern). Fits labels p label) (sym same) some.2)
        ]
      ],
      λ h. elim h [
        | inl taken ↦ elim taken [
          | inl any ↦ inl any
          | inr some ↦ inr (some.0, Contains-append_left before.patterns (pattern ∷ []) some.0 some.1, some.2)
        ]
        | inr fits ↦ inr (pattern, Contains-push before.patterns pattern, fits)
      ],
    )

pub one_more : (Before Part Rest Whole After : Type 0) → (Before ⊎ (Part ⊎ Rest)) ↔ Whole → After ↔ (Before ⊎ Part) → (After ⊎ Rest) ↔ Whole
one_more Before Part Rest Whole After before added = (
  λ h. elim h [
    | inl after ↦ elim (added.0 after) [ inl own ↦ before.0 (inl own) | inr part ↦ before.0 (inr (inl part)) ]
    | inr rest ↦ before.0 (inr (inr rest))
  ],
  λ whole. elim (before.1 whole) [
    | inl own ↦ inl (added.1 (inl own))
    | inr left ↦ elim left [ inl part ↦ inl (added.1 (inr part)) | inr rest ↦ inr rest ]
  ],
)
