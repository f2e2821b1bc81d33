-- A store with the history, the blocks and the views that are kept of it.
pub use Rattle.kept_history.specs.Kept.{kept_moments, moments_then, IsLast, IsFullWith}
use Rattle.std.specs.Prelude.{List, Option, None, is_some, IfSome}
use Rattle.lore_base.specs.Databases.{Database, IsValid}
use Rattle.lorel_trees.specs.Trees.{StatementTree}
use Rattle.doem_history.specs.Histories.{KeptHistory}
use Rattle.one_index.specs.declared.blocks.Block.{Block}
use Rattle.live_views.specs.Views.{NamedView}
use Rattle.view_laws.specs.Freshness.{queries_of, fresh_of, AreViewsOf}
use Rattle.statements.specs.Blocks.{AreBlocksIn}
use Rattle.lore_db.specs.Types.{Reply}
use Rattle.lore_db.specs.States.{Kept, present, IsRestore}
use Rattle.lore_db.specs.Freshness.{IsRefused}

-- the database is valid; the last moment of its history, where one is kept, is the present one; and the blocks that are kept,
-- if any, and the views are its own
pub record IsKept (db : Database) (history : Option KeptHistory) (blocks : Option (List Block)) (named : List NamedView) : Type 0 where
  pub valid : IsValid db
  pub last : IsLast history (present db)
  pub blocked : IfSome blocks (AreBlocksIn db)
  pub views : AreViewsOf db named

-- what contracts see of these
abbrev pub kept_with : Database → Option KeptHistory → Option (List Block) → List NamedView → Kept
kept_with db history blocks views = record {
  state = record { db = db; history = kept_moments history; views = queries_of views };
  blocked = is_some blocks;
  fresh = fresh_of views;
}

-- and where no blocks are kept: what is told of views asks for none
abbrev pub kept_of : Database → Option KeptHistory → List NamedView → Kept
kept_of db history views = kept_with db history None views

-- the statement with this reply restored a dump
abbrev pub IsRestored : StatementTree → Reply → Type 0
IsRestored statement reply = IsRestore statement × ¬ IsRefused reply
