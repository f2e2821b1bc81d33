use Rattle.std.proofs.Common.{◌≡◌, ◌++◌, ◌∷◌, take}
use Rattle.std.specs.List.{flat_map}
use Rattle.guide_query.specs.GuideLines.{label_text}
use Rattle.guide_query.proofs.browsing.put_steps.Given as goal

abbrev pub invariant-texts : goal.invariant-texts
invariant-texts l =
    l.line.items ≡ l.fn.line.items ++ flat_map (λ label. 46 ∷ label_text label) (take l.text-index l.texts)
