use Rattle.std.proofs.Common.{◌∙◌, sym}
use Rattle.lorel_ranges.proofs.ScopeLaws.{innermost-read_same, innermost-read_other}
use Rattle.lorel_ranges.proofs.variables.innermost.Goals as goal
use Rattle.lorel_ranges.proofs.variables.innermost.Goals.{then-eq, else-eq}

pub quantifiers-preserved : goal.quantifiers-preserved
quantifiers-preserved c =
    let at = c.index-quantified-depth in
    elim c.if-eq.branch [
      | then-eq w ↦ w.found-is ∙ innermost-read_same c.args.quantified.now c.quantifiers.depth at.result c.args.start.now c.quantifiers-test.true at.is (sym c.eq.ensures ∙ w.if-eq.true)
      | else-eq w ↦ w.found-is ∙ c.quantifiers.invariant ∙ innermost-read_other c.args.quantified.now c.quantifiers.depth at.result c.args.start.now c.quantifiers-test.true at.is (sym c.eq.ensures ∙ w.if-eq.false)
    ]
