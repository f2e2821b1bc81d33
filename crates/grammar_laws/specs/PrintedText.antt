-- The text of a statement is read back as the statement.
use Rattle.std.specs.Prelude.{[]}
use Rattle.lorel_lex.specs.Writing.{line_text, HasKinds}
use Rattle.lorel_trees.specs.Trees.{StatementTree}
use Rattle.lorel_trees.specs.Tokens.{HasTokens}
use Rattle.lorel_trees.specs.Sound.{IsSound}
use Rattle.lorel_ast.specs.Printing.{print_statement, HasUtf8Texts}

-- the text has the canonical tokens of the statement, and these are tokens of it
pub record IsPrintedBack (statement : StatementTree) : Type 0 where
  pub lexed : HasKinds (line_text (print_statement statement [])) (print_statement statement [])
  pub parsed : HasTokens statement (print_statement statement [])

-- so it is for each sound statement whose texts are UTF-8
abbrev pub ArePrintedBack : Type 0
ArePrintedBack = (statement : StatementTree) → IsSound statement → HasUtf8Texts statement
    → IsPrintedBack statement
