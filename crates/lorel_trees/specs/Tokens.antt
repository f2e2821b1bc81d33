-- Which statement has which tokens.
use Rattle.std.specs.Prelude.{◌≡◌, ◌≤◌, List, []}
use Rattle.lorel_trees.specs.Types.{NESTING, Kind}
use Rattle.lorel_trees.specs.Trees.{StatementTree}
use Rattle.lorel_trees.specs.Grammar.{Statement}
use Rattle.lorel_trees.specs.Statements.{spell_statement, tree_statement, nest_statement}

-- the statement has these tokens: a derivation that keeps the limit of nesting spells them and stands for the
-- statement
pub record HasTokens (statement : StatementTree) (kinds : List Kind) : Type 0 where
  pub by : Statement
  pub deep : nest_statement by ≤ NESTING
  pub spelled : kinds ≡ spell_statement by []
  pub tree : tree_statement by ≡ statement

-- no two statements have the same tokens
abbrev pub IsUnambiguous : Type 0
IsUnambiguous =
    (statement other : StatementTree) (kinds : List Kind) → HasTokens statement kinds → HasTokens other kinds
    → statement ≡ other
