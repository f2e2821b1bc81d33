use Rattle.std.proofs.Common.{ℕ, List, Contains}
use Rattle.lorel_ranges.specs.Views.{texts}
use Rattle.oem_labels.specs.Labels.{TextFits}
use Rattle.live_views.specs.Types.{Pattern}
use Rattle.live_views.proofs.SearchLaws.{none_more, none_passes}
use Rattle.live_views.proofs.concerning.some_fit.Goals as goal

pub patterns-preserved : goal.patterns-preserved
patterns-preserved c =
    none_more (λ (pattern : Pattern). (text : List ℕ) × Contains (texts c.args.labels.now) text × TextFits pattern text) c.args.patterns.now
    c.patterns.pattern-index c.pattern-item.result c.patterns-test.true c.pattern-item.is
    (λ fits. let is = c.if-fits_some.ensures.1 fits in cc) c.patterns.invariant

pub returns : goal.returns
returns c = (
  λ is. cc,
  λ some. absurd (none_passes (λ (pattern : Pattern). (text : List ℕ) × Contains (texts c.args.labels.now) text × TextFits pattern text)
      c.args.patterns.now c.patterns.pattern-index c.patterns-test.false c.patterns.invariant some),
)
