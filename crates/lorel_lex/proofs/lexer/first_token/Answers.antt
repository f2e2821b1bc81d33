use Rattle.std.proofs.Common.{sym, ◌∙◌}
use Rattle.lorel_lex.proofs.SignLaws.{other_symbol}
use Rattle.lorel_lex.proofs.lexer.first_token.Goals as goal

pub symbol-requires-clause-symbol : goal.symbol-requires-clause-symbol
symbol-requires-clause-symbol c = other_symbol c.args.bytes.now (sym c.class_of.ensures ∙ c.in-Other.is)
