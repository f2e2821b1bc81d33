-- What `dump` prints for a database is read back as the tree of that database.
use Rattle.std.specs.Prelude.{◌≡◌, ℕ, List, [], ◌∷◌, ◌++◌, codes, All, ⊤, IsUtf8, IsTrue}
use Rattle.dump_laws.specs.Types.{Value, Chars, Kind}
use Rattle.lore_base.specs.Databases.{Database}
use Rattle.lorel_lex.specs.Gaps.{is_blank}
use Rattle.lorel_tokens.specs.Forms.{HasForm}
use Rattle.lorel_lex.specs.Writing.{HasKinds}
use Rattle.lorel_trees.specs.Trees.{StatementTree, restore}
use Rattle.lorel_trees.specs.Grammar.{DumpText}
use Rattle.lorel_trees.specs.Statements.{spell_dump_text, tree_dump_text}
use Rattle.lorel_trees.specs.Tokens.{HasTokens}
use Rattle.lorel_trees.specs.Sound.{IsSoundDump}
use Rattle.dump_text.specs.Dumps.{dump_tree, printed_dump}
use Rattle.lore_base.specs.Databases.{IsRestorable}

-- a value is UTF-8 where it is a text
abbrev pub IsText : Value → Type 0
IsText (Chars text) = IsUtf8 text
IsText _ = ⊤

-- labels and values that are texts are UTF-8
pub record AreTexts (db : Database) : Type 0 where
  pub labels : All IsUtf8 db.labels
  pub values : All (λ object. IsText object.1) db.graph.objects

-- the bytes are read as the statement: their tokens are tokens of it
abbrev pub IsReadAs : List ℕ → StatementTree → Type 0
IsReadAs bytes statement = (kinds : List Kind) × HasKinds bytes kinds × HasTokens statement kinds

-- what is printed has the tokens of a dump text, which keep their forms, and its tree is the database's; behind
-- `restore` and a blank byte it is read as the statement that restores this tree
pub record ReadsBack (db : Database) : Type 0 where
  pub by : DumpText
  pub tree : tree_dump_text by ≡ dump_tree db
  pub kinds : HasKinds (printed_dump db) (spell_dump_text by [])
  pub formed : All HasForm (spell_dump_text by [])
  pub restored : (blank : ℕ) → IsTrue (is_blank blank)
      → IsReadAs (codes "restore" ++ blank ∷ printed_dump db) (restore (dump_tree db))

-- what `dump` prints for a restorable database whose texts are UTF-8 is read back
abbrev pub DumpsReadBack : Type 0
DumpsReadBack = (db : Database) → IsRestorable db → AreTexts db → ReadsBack db

-- the tree of a restorable database is sound
abbrev pub DumpsAreSound : Type 0
DumpsAreSound = (db : Database) → IsRestorable db → IsSoundDump (dump_tree db)
