use Rattle.std.proofs.Common.{[]}
use Rattle.lorel_lex.proofs.ReadBackLaws.{line_read_back}
use Rattle.lorel_ast.specs.Printing.{print_statement}
use Rattle.grammar_laws.proofs.CanonStatementLaws.{prints_back}
use Rattle.grammar_laws.proofs.laws.printed_statements.Goals as goal

pub returns : goal.returns
returns c = λ statement sound texts. record {
  lexed = line_read_back (print_statement statement []) (prints_back.formed statement sound) texts;
  parsed = prints_back.sound statement sound;
}
