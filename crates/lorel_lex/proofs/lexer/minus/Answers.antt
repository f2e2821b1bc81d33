use Rattle.std.proofs.Common.{sym, ◌∙◌}
use Rattle.lorel_lex.proofs.NumberLaws.{minus_symbol}
use Rattle.lorel_lex.proofs.lexer.minus.Goals as goal

pub symbol-requires-clause-symbol : goal.symbol-requires-clause-symbol
symbol-requires-clause-symbol c = minus_symbol c.args.bytes.now c.requires.some c.requires.minus (sym c.digit_follows.ensures ∙ c.if-digit_follows.false)
