-- The changes that a statement lists over the database before it.
use Rattle.std.specs.Prelude.{List}
use Rattle.statements.specs.Types.{Oid, Changes}
use Rattle.lore_base.specs.Databases.{Database}
use Rattle.lore_base.specs.ChangeSets.{AreSame}
use Rattle.lore_base.specs.Verdicts.{IsClear}
use Rattle.lorel_trees.specs.Trees.{StatementTree}
use Rattle.statements.specs.Forms.{MakesChanges}
use Rattle.statements.specs.Effects.{AreRowsOf, effects}
use Rattle.statements.specs.Statements.{Cause}
use Rattle.statements.specs.inside.Stages.{fit_order}

-- the changes of a statement that makes some: what it does over its rows, where nothing refuses it before they are made
pub record ListsChanges (db : Database) (statement : StatementTree) (changes : Changes) : Type 0 where
  pub changing : MakesChanges statement
  pub rows : List (List Oid)
  pub are : AreRowsOf db statement rows
  pub same : AreSame (effects db statement rows) changes
  pub clear : IsClear (Cause db statement) fit_order
