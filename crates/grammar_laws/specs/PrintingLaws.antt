-- The canonical tokens of a statement are tokens of it.
use Rattle.std.specs.Prelude.{◌≡◌, ◌≤◌, List, [], All}
use Rattle.lorel_trees.specs.Types.{Kind}
use Rattle.lorel_tokens.specs.Forms.{HasForm}
use Rattle.lorel_trees.specs.Trees.{StatementTree}
use Rattle.lorel_trees.specs.Grammar.{Statement}
use Rattle.lorel_trees.specs.Statements.{spell_statement, tree_statement, nest_statement}
use Rattle.lorel_trees.specs.Tokens.{HasTokens}
use Rattle.lorel_trees.specs.Sound.{IsSound}
use Rattle.lorel_ast.specs.Printing.{print_statement}

-- a derivation of the canonical tokens, with the same tree, that nests no deeper
pub record HasCanonical (by : Statement) : Type 0 where
  pub canonical : Statement
  pub spelled : spell_statement canonical [] ≡ print_statement (tree_statement by) []
  pub tree : tree_statement canonical ≡ tree_statement by
  pub nest : nest_statement canonical ≤ nest_statement by

-- the canonical tokens of a statement that has tokens are tokens of it, and no text with its tree nests less
-- deep
pub record PrintsBack : Type 0 where
  pub shallow : (by : Statement) → HasCanonical by
  pub has : (statement : StatementTree) (kinds : List Kind) → HasTokens statement kinds
      → HasTokens statement (print_statement statement [])
  pub sound : (statement : StatementTree) → IsSound statement
      → HasTokens statement (print_statement statement [])
  pub formed : (statement : StatementTree) → IsSound statement → All HasForm (print_statement statement [])
