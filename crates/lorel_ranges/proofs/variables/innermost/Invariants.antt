use Rattle.std.proofs.Common.{◌≡◌, take}
use Rattle.lorel_ranges.specs.inside.Scopes.{innermost}
use Rattle.lorel_ranges.specs.Views.{texts}
use Rattle.lorel_ranges.proofs.variables.innermost.Given as goal

abbrev pub invariant-quantifiers : goal.invariant-quantifiers
invariant-quantifiers l = l.found ≡ innermost (texts (take l.depth l.quantified)) l.start
