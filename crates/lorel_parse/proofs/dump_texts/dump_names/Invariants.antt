use Rattle.std.proofs.Common.{◌≡◌, ◌-◌, [], codes}
use Rattle.lorel_terms.specs.Outcomes.{sees_word}
use Rattle.lorel_terms.specs.Repetitions.{each_in}
use Rattle.lorel_parse.specs.inside.Statements as spec
use Rattle.lorel_parse.proofs.dump_texts.dump_names.Given as goal

abbrev pub invariant-turns : goal.invariant-turns
invariant-turns l = spec.dump_names [] l.fn.tokens ≡ each_in (sees_word (codes "name")) spec.dump_name (l._turn-end - l._turn) l.names l.tokens
