-- What a statement makes of a database by changes that it lists.
use Rattle.std.specs.Prelude.{List}
use Rattle.statements.specs.Types.{Oid}
use Rattle.lore_base.specs.Databases.{Database}
use Rattle.lore_base.specs.ChangeSets.{IsAfter}
use Rattle.lore_base.specs.Verdicts.{IsClear}
use Rattle.lorel_trees.specs.Trees.{StatementTree}
use Rattle.statements.specs.Forms.{MakesChanges}
use Rattle.statements.specs.Effects.{AreRowsOf, effects}
use Rattle.statements.specs.Statements.{Cause, cause_order}

-- nothing refuses the statement, which makes changes, and the database is there after them
pub record IsMade (before : Database) (statement : StatementTree) (after : Database) : Type 0 where
  pub changing : MakesChanges statement
  pub clear : IsClear (Cause before statement) cause_order
  pub rows : List (List Oid)
  pub are : AreRowsOf before statement rows
  pub is : IsAfter before (effects before statement rows) after
