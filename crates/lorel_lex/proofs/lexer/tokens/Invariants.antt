use Rattle.std.proofs.Common.{◌-◌, length}
use Rattle.lorel_lex.proofs.TokenLaws.{GoesOnFrom}
use Rattle.lorel_lex.proofs.lexer.tokens.Given as goal

abbrev pub invariant-tokens : goal.invariant-tokens
invariant-tokens l = GoesOnFrom l.at l.chunk l.tokens

abbrev pub decreases-tokens : goal.decreases-tokens
decreases-tokens l = length l.chunk - l.at
