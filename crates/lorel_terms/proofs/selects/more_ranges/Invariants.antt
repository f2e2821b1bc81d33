use Rattle.std.proofs.Common.{◌≡◌, ◌-◌, map}
use Rattle.lorel_tokens.specs.declared.token_types.Sign.TheVariants as s
use Rattle.lorel_trees.specs.Trees.{from_tree}
use Rattle.lorel_terms.specs.Outcomes.{sees}
use Rattle.lorel_terms.specs.Repetitions.{each, each_in}
use Rattle.lorel_terms.specs.Selects as spec
use Rattle.lorel_terms.proofs.selects.more_ranges.Given as goal

abbrev pub invariant-turns : goal.invariant-turns
invariant-turns l =
    each (sees s.Comma) spec.range (map from_tree l.fn.found) l.fn.tokens
    ≡ each_in (sees s.Comma) spec.range (l._turn-end - l._turn) (map from_tree l.found) l.tokens
