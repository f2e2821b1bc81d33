use Rattle.std.proofs.Common.{ℕ, List, take, All}
use Rattle.lorel_ranges.specs.Views.{texts}
use Rattle.oem_labels.specs.Labels.{TextFits}
use Rattle.live_views.proofs.concerning.fits_some.Given as goal

abbrev pub invariant-labels : goal.invariant-labels
invariant-labels l = All (λ (text : List ℕ). TextFits l.pattern text → ⊥) (texts (take l.text-index l.labels))
