-- A statement is sound where it has tokens that all have their form: identifiers, labels, patterns and texts
-- within their limits, numbers of 64 bits with a sign, and locals and object numbers of 32 bits.
use Rattle.std.specs.Prelude.{◌≡◌, ◌≤◌, List, [], All}
use Rattle.lorel_trees.specs.Types.{NESTING, Kind}
use Rattle.lorel_tokens.specs.Forms.{HasForm}
use Rattle.lorel_trees.specs.declared.dump_trees.DumpTree.{DumpTree}
use Rattle.lorel_trees.specs.Trees as t
use Rattle.lorel_trees.specs.Grammar.{Literal, DumpText}
use Rattle.lorel_trees.specs.Literals.{spell_literal, tree_literal, nest_literal}
use Rattle.lorel_trees.specs.Statements.{spell_dump_text, tree_dump_text}
use Rattle.lorel_trees.specs.Tokens.{HasTokens}

-- the statement has tokens that all have their form
pub record IsSound (statement : t.StatementTree) : Type 0 where
  pub kinds : List Kind
  pub spelled : HasTokens statement kinds
  pub formed : All HasForm kinds

-- a literal is sound where it stands in the grammar within the limit of nesting, with tokens that all have
-- their form: it is then part of a sound statement
pub record IsSoundLiteral (literal : t.LiteralTree) : Type 0 where
  pub by : Literal
  pub deep : nest_literal by ≤ NESTING
  pub tree : tree_literal by ≡ literal
  pub formed : All HasForm (spell_literal by [])

-- and so for a dump text
pub record IsSoundDump (text : DumpTree) : Type 0 where
  pub by : DumpText
  pub tree : tree_dump_text by ≡ text
  pub formed : All HasForm (spell_dump_text by [])
