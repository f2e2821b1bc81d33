-- What one statement answers, and the database that it leaves.
use Rattle.std.specs.Prelude.{◌≡◌, ◌≢◌, ℕ, ℤ, pos, ◌⊎◌, List, [], ◌∷◌, length, MatchOption}
use Rattle.statements.specs.Types.{SAMPLE, Oid, Mode, Refusal, Cell, Reply, Changed, Rows, Lines, Dump, Refused}
use Rattle.statements.specs.Types.refusals
use Rattle.lore_base.specs.Databases.{Database, IsValid, new_database}
use Rattle.lore_base.specs.TargetSets.{AreTargetSets}
use Rattle.lore_base.specs.ChangeSets.{IsBound, IsAfter}
use Rattle.lore_base.specs.ChangeCauses.{DatabaseCause}
use Rattle.lore_base.specs.Verdicts.{IsFirst, IsClear}
use Rattle.lorel_trees.specs.declared.dump_trees.DumpTree.{DumpTree}
use Rattle.lorel_trees.specs.Trees.{LiteralTree, SelectTree, StatementTree}
use Rattle.lorel_trees.specs.Trees.{bind, unname, select, explain, guide, browse, sample, set_nodes, set_plan}
use Rattle.lorel_trees.specs.Trees.{dump, restore, generate}
use Rattle.lorel_trees.specs.Trees.{history, select_at, changes, blocks, blocks_of, watch, unwatch, show}
use Rattle.lorel_bind.specs.Answers.{IsAnswer}
use Rattle.lorel_bind.specs.Refusals as binding
use Rattle.lorel_bound.specs.Answers.{IsTooMuch}
use Rattle.oem_text.specs.Literals.{HasDouble, HasUndefined}
use Rattle.dump_text.specs.Dumps.{printed_dump}
use Rattle.dump_text.specs.Restores.{IsDumpOf}
use Rattle.guide_query.specs.GuideLines.{AreGuideLines}
use Rattle.guide_query.specs.PathLines.{AreBrowseLines, AreSampleLines}
use Rattle.block_lines.specs.BlockLines.{AreBlockLines}
use Rattle.lore_store.specs.Stores.{IsLimit}
use Rattle.statements.specs.Blocks.{named_graph}
use Rattle.statements.specs.Forms.{counted_rows, binds, makes, path_select}
use Rattle.statements.specs.Forms.{MakesChanges, IsBetween, AreGenerable}
use Rattle.statements.specs.Effects.{AreRowsOf, effects}
use Rattle.statements.specs.Plans.{ShowsPlan}

-- Why a statement is refused.

-- the name that is to be taken away, or that a label path starts at, isn't bound
abbrev pub IsUnbound : Database → StatementTree → Type 0
IsUnbound db (unname name) = ¬ IsBound db.graph.names name
IsUnbound db (browse start labels) = ¬ IsBound db.graph.names start
IsUnbound db (sample start labels count) = ¬ IsBound db.graph.names start
IsUnbound db statement = ⊥

-- the select has more rows than an answer may have, or more labels in their words
abbrev pub HasTooManyRows : Database → SelectTree → Type 0
HasTooManyRows db query = (rows : List (List Cell)) × IsAnswer db query rows × IsTooMuch rows

-- the path to name reaches no object, or several
abbrev pub IsNotOne : Database → StatementTree → Type 0
IsNotOne db (bind name path) =
    (rows : List (List Cell)) × IsAnswer db (path_select path) rows × (length rows ≢ 1)
IsNotOne db statement = ⊥

-- the changes that a statement makes have this cause: one of the graph's (`ChangeCause`), or a limit of the guide, which
-- only a database has (`DatabaseCause`)
abbrev pub ChangesCause : Database → StatementTree → Refusal → Type 0
ChangesCause db statement refusal =
    MakesChanges statement
    × ((rows : List (List Oid)) × AreRowsOf db statement rows × DatabaseCause db (effects db statement rows) refusal)

-- the number is no limit on the guide's nodes
abbrev pub IsNoLimit : Database → ℤ → Type 0
IsNoLimit db nodes = (limit : ℕ) → nodes ≡ pos limit → ¬ IsLimit db limit

-- a number of the statement is out of its range
abbrev pub IsOutOfRange : Database → StatementTree → Type 0
IsOutOfRange db (set_nodes nodes) = IsNoLimit db nodes
IsOutOfRange db (sample start labels count) = ¬ IsBetween 1 SAMPLE count
IsOutOfRange db (generate seed count) = ¬ AreGenerable seed count
IsOutOfRange db statement = ⊥

-- a database is restored where there is another one than the new one
abbrev pub IsNotFresh : Database → StatementTree → Type 0
IsNotFresh db (restore text) = db ≢ new_database
IsNotFresh db statement = ⊥

-- the text is the dump of no valid database
abbrev pub IsNoDump : StatementTree → Type 0
IsNoDump (restore text) = (db : Database) → IsDumpOf text db → ¬ IsValid db
IsNoDump statement = ⊥

-- the select that a statement binds has this
abbrev pub OfBinds : StatementTree → (SelectTree → Type 0) → Type 0
OfBinds statement Has = MatchOption (binds statement) ⊥ Has

-- the select whose rows are counted has this
abbrev pub OfCounted : StatementTree → (SelectTree → Type 0) → Type 0
OfCounted statement Has = MatchOption (counted_rows statement) ⊥ Has

-- the literal that a statement makes objects of has this
abbrev pub OfMakes : StatementTree → (LiteralTree → Type 0) → Type 0
OfMakes statement Has = MatchOption (makes statement) ⊥ Has

-- the cause of each refusal of a statement; no other refusal has one
abbrev pub Cause : Database → StatementTree → Refusal → Type 0
Cause db statement refusals.UnknownName =
    IsUnbound db statement
    ⊎ OfBinds statement (λ query. binding.BindCause db.graph.names query refusals.UnknownName)
Cause db statement refusals.UnknownVariable =
    OfBinds statement (λ query. binding.BindCause db.graph.names query refusals.UnknownVariable)
Cause db statement refusals.DuplicateVariable =
    OfBinds statement (λ query. binding.BindCause db.graph.names query refusals.DuplicateVariable)
Cause db statement refusals.TooManyRanges =
    OfBinds statement (λ query. binding.BindCause db.graph.names query refusals.TooManyRanges)
Cause db statement refusals.DuplicateLocal = OfMakes statement HasDouble
Cause db statement refusals.UndefinedLocal = OfMakes statement HasUndefined
Cause db statement refusals.TooManyRows = OfCounted statement (HasTooManyRows db)
Cause db statement refusals.NotOne = IsNotOne db statement
Cause db statement refusals.AtomicParent = ChangesCause db statement refusals.AtomicParent
Cause db statement refusals.HasChildren = ChangesCause db statement refusals.HasChildren
Cause db statement refusals.OidsSpent = ChangesCause db statement refusals.OidsSpent
Cause db statement refusals.TooManyLabels = ChangesCause db statement refusals.TooManyLabels
Cause db statement refusals.TooManyNames = ChangesCause db statement refusals.TooManyNames
Cause db statement refusals.TooManyObjects = ChangesCause db statement refusals.TooManyObjects
Cause db statement refusals.TooManyEdges = ChangesCause db statement refusals.TooManyEdges
Cause db statement refusals.GuideNodes = ChangesCause db statement refusals.GuideNodes
Cause db statement refusals.GuideCells = ChangesCause db statement refusals.GuideCells
Cause db statement refusals.LimitRange = IsOutOfRange db statement
Cause db statement refusals.NotFresh = IsNotFresh db statement
Cause db statement refusals.BadRestore = IsNoDump statement
Cause db statement _ = ⊥

-- the order in which causes are tried: that of their numbers, but GuideCells right behind GuideNodes. Syntax has no cause in
-- a statement: it is said of a text that is none
abbrev pub cause_order : List Refusal
cause_order =
    refusals.Syntax ∷ refusals.UnknownName ∷ refusals.UnknownVariable ∷ refusals.DuplicateVariable
    ∷ refusals.TooManyRanges ∷ refusals.DuplicateLocal ∷ refusals.UndefinedLocal
    ∷ refusals.TooManyRows ∷ refusals.NotOne ∷ refusals.AtomicParent ∷ refusals.HasChildren
    ∷ refusals.OidsSpent ∷ refusals.TooManyLabels ∷ refusals.TooManyNames ∷ refusals.TooManyObjects
    ∷ refusals.TooManyEdges ∷ refusals.GuideNodes ∷ refusals.GuideCells ∷ refusals.LimitRange
    ∷ refusals.NotFresh ∷ refusals.BadRestore ∷ []

-- What a statement does where nothing refuses it.

-- the reply counts what the database holds: objects, edges, and the sets that label paths lead to
abbrev pub Counts : Database → Reply → Type 0
Counts db reply =
    (sets : List (List Oid)) × AreTargetSets db.graph.names db.graph.edges sets
    × (reply ≡ Changed (length db.graph.objects) (length db.graph.edges) (length sets))

-- the database after the changes that a statement makes, and the reply that counts what it holds
abbrev pub MakesItsChanges : Database → StatementTree → Reply → Database → Type 0
MakesItsChanges before statement reply after =
    ((rows : List (List Oid)) × AreRowsOf before statement rows × IsAfter before (effects before statement rows) after)
    × Counts after reply

-- the lines of the guide, and nothing changes
abbrev pub Shows : Database → Reply → Database → Type 0
Shows before reply after =
    (after ≡ before) × ((lines : List (List ℕ)) × (reply ≡ Lines lines)
    × AreGuideLines before.graph.names before.graph.edges before.labels lines)

-- the lines of the blocks, and nothing changes
abbrev pub ShowsBlocks : Database → Reply → Database → Type 0
ShowsBlocks before reply after =
    (after ≡ before) × ((lines : List (List ℕ)) × (reply ≡ Lines lines) × AreBlockLines (named_graph before) lines)

-- the lines that show where a label path leads, and nothing changes
abbrev pub Browses : Database → List ℕ → List (List ℕ) → Reply → Database → Type 0
Browses before start labels reply after =
    (after ≡ before) × ((lines : List (List ℕ)) × (reply ≡ Lines lines)
    × AreBrowseLines before.graph.names before.graph.edges before.labels start labels lines)

-- the lines that show the first objects that it leads to, at most so many, and nothing changes
abbrev pub Samples : Database → List ℕ → List (List ℕ) → ℤ → Reply → Database → Type 0
Samples before start labels count reply after =
    (after ≡ before) × ((most : ℕ) × (count ≡ pos most) × (lines : List (List ℕ)) × (reply ≡ Lines lines)
    × AreSampleLines before.graph.names before.graph.objects before.graph.edges before.labels start labels most lines)

-- the plan of the select, which is not carried out, and nothing changes
abbrev pub Explains : Database → SelectTree → Reply → Database → Type 0
Explains before query reply after = (after ≡ before) × ShowsPlan before query reply

-- the limit on the guide's nodes becomes the number
abbrev pub Limits : Database → ℤ → Reply → Database → Type 0
Limits before nodes reply after =
    ((limit : ℕ) × (nodes ≡ pos limit) × (after ≡ record before { nodes = limit })) × Counts after reply

-- plans are chosen in this mode from then on
abbrev pub ChoosesBy : Database → Mode → Reply → Database → Type 0
ChoosesBy before mode reply after = (after ≡ record before { mode = mode }) × Counts after reply

-- what a dump prints, and nothing changes
abbrev pub Dumps : Database → Reply → Database → Type 0
Dumps before reply after = (after ≡ before) × (reply ≡ Dump (printed_dump before))

-- the database becomes that of which the text is the dump, a valid one
abbrev pub Restores : DumpTree → Reply → Database → Type 0
Restores text reply after = IsDumpOf text after × IsValid after × Counts after reply

-- a select answers all of its rows and changes nothing
abbrev pub Answers : Database → SelectTree → Reply → Database → Type 0
Answers before query reply after =
    (after ≡ before) × ((rows : List (List Cell)) × (reply ≡ Rows rows) × IsAnswer before query rows)

abbrev pub Fulfils : Database → StatementTree → Reply → Database → Type 0
Fulfils before (select query) reply after = Answers before query reply after
Fulfils before (explain query) reply after = Explains before query reply after
Fulfils before guide reply after = Shows before reply after
Fulfils before (browse start labels) reply after = Browses before start labels reply after
Fulfils before (sample start labels count) reply after = Samples before start labels count reply after
Fulfils before (set_nodes nodes) reply after = Limits before nodes reply after
Fulfils before (set_plan mode) reply after = ChoosesBy before mode reply after
Fulfils before dump reply after = Dumps before reply after
Fulfils before (restore text) reply after = Restores text reply after
Fulfils before (history on) reply after = ⊥
Fulfils before (select_at moment query) reply after = ⊥
Fulfils before (changes first last) reply after = ⊥
Fulfils before blocks reply after = ShowsBlocks before reply after
Fulfils before (blocks_of query) reply after = Answers before query reply after
Fulfils before (watch name query) reply after = ⊥
Fulfils before (unwatch name) reply after = ⊥
Fulfils before (show name) reply after = ⊥
Fulfils before statement reply after = MakesItsChanges before statement reply after

-- a refusal changes nothing
abbrev pub Refuses : Refusal → Database → Reply → Database → Type 0
Refuses refusal before reply after = (reply ≡ Refused refusal) × (after ≡ before)

-- one statement, its reply and the database after it: it is fulfilled where no cause of a refusal applies, and the
-- first that applies refuses it
abbrev pub Executes : Database → StatementTree → Reply → Database → Type 0
Executes before statement reply after =
    (IsClear (Cause before statement) cause_order × Fulfils before statement reply after)
    ⊎ ((refusal : Refusal) × IsFirst (Cause before statement) cause_order refusal × Refuses refusal before reply after)
