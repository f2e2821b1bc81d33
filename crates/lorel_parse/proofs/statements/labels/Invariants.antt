use Rattle.std.proofs.Common.{◌≡◌, ◌-◌, []}
use Rattle.lorel_tokens.specs.declared.token_types.Sign.TheVariants as s
use Rattle.lorel_terms.specs.Outcomes.{sees}
use Rattle.lorel_terms.specs.Names.{label}
use Rattle.lorel_terms.specs.Repetitions.{each_in}
use Rattle.lorel_parse.specs.inside.Statements as spec
use Rattle.lorel_parse.proofs.statements.labels.Given as goal

abbrev pub invariant-turns : goal.invariant-turns
invariant-turns l = spec.labels [] l.fn.tokens ≡ each_in (sees s.Dot) label (l._turn-end - l._turn) l.labels l.tokens
