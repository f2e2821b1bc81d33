-- The forms of statement: which are none on a database alone, what the others bind and read, what they make, and which of
-- them list changes of the graph.
use Rattle.std.specs.Prelude.{◌≡◌, ℕ, ℤ, pos, ◌≤◌, [], Option, Some, None}
use Rattle.statements.specs.Types.{SEED, FEWEST_PERSONS, MOST_PERSONS}
use Rattle.lorel_trees.specs.Trees.{LiteralTree, RootedTree}
use Rattle.lorel_trees.specs.Trees.{SelectTree, StatementTree}
use Rattle.lorel_trees.specs.Trees.{history, select_at, changes, blocks, blocks_of, watch, unwatch, show}
use Rattle.lorel_trees.specs.Trees.{load, bind, unname, assign, add_new, add_link, remove, select, explain, generate}
use Rattle.lorel_trees.specs.UpdateRows.{target_select, rows_of}

-- a statement of this form keeps a history or views, or asks them: what it does isn't told of a database alone
abbrev pub IsOfSession : StatementTree → Type 0
IsOfSession (history on) = Unit {0}
IsOfSession (select_at moment query) = Unit {0}
IsOfSession (changes first last) = Unit {0}
IsOfSession (watch name query) = Unit {0}
IsOfSession (unwatch name) = Unit {0}
IsOfSession (show name) = Unit {0}
IsOfSession statement = ⊥

-- a statement of this form asks the blocks of the database, which are kept beside it
abbrev pub IsOfBlocks : StatementTree → Type 0
IsOfBlocks blocks = Unit {0}
IsOfBlocks (blocks_of query) = Unit {0}
IsOfBlocks statement = ⊥

-- the select of one path
abbrev pub path_select : RootedTree → SelectTree
path_select path = target_select path (record { ranges = []; cond = None })

-- the select whose rows a statement is executed over: its own, that of the path to name, or that of an update
abbrev pub reads : StatementTree → Option SelectTree
reads (bind name path) = Some (path_select path)
reads (select query) = Some query
reads (blocks_of query) = Some query
reads statement = rows_of statement

-- the select whose rows are counted: of a path to name any number of objects but one is refused
abbrev pub counted_rows : StatementTree → Option SelectTree
counted_rows (bind name path) = None
counted_rows statement = reads statement

-- the select that a statement binds: that whose rows it is executed over, or that whose plan it shows
abbrev pub binds : StatementTree → Option SelectTree
binds (explain query) = Some query
binds statement = reads statement

-- the literal that a statement makes objects of
abbrev pub makes : StatementTree → Option LiteralTree
makes (load name literal) = Some literal
makes (add_new target label literal tail) = Some literal
makes statement = None

-- the number is from the least to the most
abbrev pub IsBetween : (least most : ℕ) → ℤ → Type 0
IsBetween least most value = (number : ℕ) × (value ≡ pos number) × (least ≤ number) × (number ≤ most)

-- a seed and a number of persons that objects are generated for
abbrev pub AreGenerable : (seed count : ℤ) → Type 0
AreGenerable seed count = IsBetween 0 SEED seed × IsBetween FEWEST_PERSONS MOST_PERSONS count

-- a statement of this form lists changes of the graph; a restore lists none, as it puts a whole database in place, and of
-- numbers out of range nothing is generated
abbrev pub MakesChanges : StatementTree → Type 0
MakesChanges (load name literal) = Unit {0}
MakesChanges (bind name path) = Unit {0}
MakesChanges (unname name) = Unit {0}
MakesChanges (assign target value tail) = Unit {0}
MakesChanges (add_new target label literal tail) = Unit {0}
MakesChanges (add_link target label right tail) = Unit {0}
MakesChanges (remove target label right tail) = Unit {0}
MakesChanges (generate seed count) = AreGenerable seed count
MakesChanges statement = ⊥

-- a statement of this form is executed by changes that it lists: it makes them, or is to generate objects
abbrev pub IsChanging : StatementTree → Type 0
IsChanging (generate seed count) = Unit {0}
IsChanging statement = MakesChanges statement
