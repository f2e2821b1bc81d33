use Rattle.std.proofs.Common.{ℕ, List, take, All, Contains}
use Rattle.lorel_ranges.specs.Views.{texts}
use Rattle.oem_labels.specs.Labels.{TextFits}
use Rattle.live_views.specs.Types.{Pattern}
use Rattle.live_views.proofs.concerning.some_fit.Given as goal

abbrev pub invariant-patterns : goal.invariant-patterns
invariant-patterns l =
    All (λ (pattern : Pattern). ((text : List ℕ) × Contains (texts l.labels) text × TextFits pattern text) → ⊥)
    (take l.pattern-index l.patterns)
