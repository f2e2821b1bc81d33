-- From each valid database a sound statement has a reply, and leaves a valid one.
use Rattle.std.proofs.Common.{◌≡◌, ◌≢◌, ℕ, ◌+◌, ◌<◌, ◌≤◌, inl, inr, List, [], ◌∷◌, ◌++◌}
use Rattle.std.proofs.Common.{length, map, sum_by, Option, Some, None, refl, sym, subst}
use Rattle.std.specs.Prelude.{ℤ, MatchOption}
use Rattle.std.proofs.lemmas.Bool.{cases_eq, cases_lt}
use Rattle.lore_base.specs.Databases.{OemGraph, Database, IsValid}
use Rattle.lore_base.specs.Names.{IsNameTable}
use Rattle.lore_base.specs.GuideLimits.{ExceedsNodes, ExceedsCells}
use Rattle.lore_base.specs.ChangeSets.{Fits, IsGraphAfter}
use Rattle.lore_base.specs.ChangeCauses.{Outgrows, LeadsToMore, LeadsToLarger, DatabaseCause}
use Rattle.lore_base.specs.Verdicts.{IsClear}
use Rattle.lore_base.proofs.VerdictLaws.{clear_left, clear_right, clear_both}
use Rattle.lore_base.proofs.ToldLaws.{IsTold, told_same, told_not, told_both, told_either, told_paired, told_bytes, told_below}
use Rattle.oem_changes.proofs.ToldCauseLaws.{told_adds_to_atom, told_hides_children, told_outgrows}
use Rattle.oem_changes.proofs.DeterminedLaws.{one_after}
use Rattle.oem_changes.proofs.SomeAfterLaws.{some_database_after}
use Rattle.oem_changes.proofs.ValidLaws.{valid_after}
use Rattle.guide_laws.proofs.TargetSetLaws.{target_sets_exist}
use Rattle.guide_laws.proofs.FitLaws.{guides_fit_or_pass}
use Rattle.guide_laws.proofs.LimitLaws.{fitting_passes_none, one_limit_is_passed}
use Rattle.guide_query.proofs.SomeLines.{lines_exist}
use Rattle.guide_query.proofs.SomePathLines.{browsing_exists, sample_exists}
use Rattle.block_lines.proofs.BlockLineLaws.{lines_exist as block_lines_exist}
use Rattle.dump_text.specs.Dumps.{printed_dump}
use Rattle.lore_store.proofs.ModeLaws.{valid_in_mode}
use Rattle.lore_store.proofs.LimitLaws.{valid_limited}
use Rattle.lorel_trees.specs.Trees as t
use Rattle.lorel_trees.specs.Trees.{LiteralTree, SelectTree, StatementTree, load, bind, unname, assign, add_new, add_link}
use Rattle.lorel_trees.specs.Trees.{remove, select, explain, guide, browse, sample, set_nodes, set_plan, dump, restore, generate}
use Rattle.lorel_trees.specs.Trees.{history, select_at, blocks, blocks_of, watch, unwatch, show}
use Rattle.lorel_trees.specs.Formed.{IsFormedStatement}
use Rattle.lorel_trees.proofs.FormLaws.{sound_statement}
use Rattle.lorel_bind.specs.Answers.{IsAnswer}
use Rattle.lorel_bind.specs.Refusals.{HasUnknownName, HasUnknownVariable, IsAccepted}
use Rattle.lorel_bind.specs.Refusals as binding
use Rattle.bind_laws.proofs.AnswerLaws.{has_one_answer}
use Rattle.bind_laws.proofs.SomeAnswerLaws.{has_some_answer}
use Rattle.bind_laws.proofs.RefusalLaws.{has_some_verdict}
use Rattle.oem_text.specs.Literals.{HasDouble, HasUndefined}
use Rattle.answers.specs.Types.{ROWS, PATH_LABELS}
use Rattle.lorel_bound.specs.Answers.{row_labels, IsTooMuch}
use Rattle.statements.specs.Types.{SAMPLE, Oid, Edge, Cell, Mode, Changes, Refusal, LABELS, NAMES, OBJECTS, EDGES, NEXT_NUMBER}
use Rattle.lore_db.specs.Types.{Reply, Changed, Rows, Lines, Dump, Refused}
use Rattle.statements.specs.Types.refusals
use Rattle.statements.specs.Forms.{IsOfSession, reads, counted_rows, binds, makes, path_select, MakesChanges}
use Rattle.statements.specs.Blocks.{named_graph}
use Rattle.statements.specs.Effects.{object_cells, AreRowsOf, effects}
use Rattle.statements.specs.Statements.{IsUnbound, HasTooManyRows, IsNotOne, IsOutOfRange, IsNotFresh, IsNoDump, ChangesCause}
use Rattle.statements.specs.Statements.{OfBinds, OfCounted}
use Rattle.statements.specs.Statements.{Cause, cause_order, MakesItsChanges, Fulfils}
use Rattle.reply_laws.specs.Laws.{ExecutesAlways}
use Rattle.statements.specs.inside.Stages.{fit_order}
use Rattle.reply_laws.proofs.TurnLaws.{AreTold, some_verdict, told_from_verdict, told_of_none, told_append}
use Rattle.reply_laws.proofs.LocalToldLaws.{told_double, told_undefined}
use Rattle.statements.proofs.LiveRowLaws.{starts_somewhere}
use Rattle.statements.proofs.BlockLaws.{sound_graph}
use Rattle.statements.proofs.EffectLaws.{effects_fit}
use Rattle.reply_laws.proofs.SomePlanLaws.{some_plan}
use Rattle.statements.proofs.ObjectRowLaws.{answer_objects, changing_shows}
use Rattle.statements.proofs.CauseLaws.{early, sizes, late, over_rows}
use Rattle.statements.proofs.QuietLaws.{no_changes}
use Rattle.statements.proofs.RangeLaws.{told_between, between_not, told_generable, told_changing, in_range}
use Rattle.reply_laws.proofs.ToldStatementLaws.{told_no_dump, some_restored, told_new, GivesLimit, told_no_limit, some_limit}

-- the order in stages: what is told of the text, where the last are told of a select and of a literal; of rows and the
-- changes over them; and of what these leave
abbrev bound_order : List Refusal
bound_order = refusals.UnknownVariable ∷ refusals.DuplicateVariable ∷ refusals.TooManyRanges ∷ []

abbrev local_order : List Refusal
local_order = refusals.DuplicateLocal ∷ refusals.UndefinedLocal ∷ []

abbrev pub text_order : List Refusal
text_order = refusals.Syntax ∷ refusals.UnknownName ∷ (bound_order ++ local_order)

abbrev pub row_order : List Refusal
row_order =
    refusals.TooManyRows ∷ refusals.NotOne ∷ refusals.AtomicParent ∷ refusals.HasChildren ∷ refusals.OidsSpent
    ∷ refusals.TooManyLabels ∷ []

abbrev pub limit_order : List Refusal
limit_order =
    refusals.TooManyNames ∷ refusals.TooManyObjects ∷ refusals.TooManyEdges ∷ refusals.GuideNodes ∷ refusals.GuideCells ∷ late

-- ---- what is told of the text
told_unbound : (db : Database) (statement : StatementTree) → IsTold (IsUnbound db statement)
told_unbound db (unname name) = told_not (told_paired told_bytes db.graph.names name)
told_unbound db (browse start labels) = told_not (told_paired told_bytes db.graph.names start)
told_unbound db (sample start labels count) = told_not (told_paired told_bytes db.graph.names start)
told_unbound db statement = inr (λ h. h)

-- the causes that the select of a statement is refused for before it runs
told_read : (names : List (List ℕ × Oid)) (read : Option SelectTree)
    → AreTold (λ refusal. MatchOption read ⊥ (λ query. binding.BindCause names query refusal)) binding.bind_order
told_read names None = told_of_none (λ refusal. ⊥) (λ refusal h. h) binding.bind_order
told_read names (Some query) =
    told_from_verdict (binding.BindCause names query) binding.bind_order (has_some_verdict names query)

told_made : (Has : LiteralTree → Type 0) → ((literal : LiteralTree) → IsTold (Has literal))
    → (made : Option LiteralTree) → IsTold (MatchOption made ⊥ Has)
told_made Has told None = inr (λ h. h)
told_made Has told (Some literal) = told literal

-- ---- the rows
-- what is read is bound
read_binds : (statement : StatementTree) (Has : SelectTree → Type 0) → MatchOption (reads statement) ⊥ Has → OfBinds statement Has
read_binds (explain query) Has h = absurd h
read_binds statement Has h = h

-- what is read has an answer
pub some_read : (db : Database) (statement : StatementTree) → (Cause db statement refusals.UnknownName → ⊥)
    → (Cause db statement refusals.UnknownVariable → ⊥) → (query : SelectTree) → reads statement ≡ Some query
    → (rows : List (List Cell)) × IsAnswer db query rows
some_read db statement known ranged query reading =
    let of = λ (Has : SelectTree → Type 0) (has : Has query).
    read_binds statement Has (subst (λ (o : Option SelectTree). MatchOption o ⊥ Has) (sym reading) has) in
    has_some_answer db query (starts_somewhere db.graph.names query
    (λ h. known (inr (of (HasUnknownName db.graph.names) h))) (λ h. ranged (of (HasUnknownVariable db.graph.names) h)))

-- where changes are made it is rows of objects
some_rows : (db : Database) (statement : StatementTree) → MakesChanges statement
    → (Cause db statement refusals.UnknownName → ⊥) → (Cause db statement refusals.UnknownVariable → ⊥)
    → (rows : List (List Oid)) × AreRowsOf db statement rows
some_rows db statement changing known ranged =
    elim (reads statement)
    as (λ read. reads statement ≡ read → (rows : List (List Oid)) × MatchOption read (rows ≡ []) (λ query. IsAnswer db query (map object_cells rows))) [
      | None ↦ λ reading. ([], refl)
      | Some query ↦ λ reading. (
          let answer = some_read db statement known ranged query reading in
          let found = answer_objects db query (changing_shows statement changing query reading) answer.0 answer.1 in
          (found.0, subst (IsAnswer db query) found.1 answer.1))
    ] refl

-- ---- what is told of the rows
-- rows that are counted are those of what is read
counted_reading : (statement : StatementTree) (query : SelectTree) → counted_rows statement ≡ Some query → reads statement ≡ Some query
counted_reading (bind name path) query counting = cc
counted_reading statement query counting = counting

told_many_rows : (db : Database) (statement : StatementTree) → (Cause db statement refusals.UnknownName → ⊥)
    → (Cause db statement refusals.UnknownVariable → ⊥) → IsTold (OfCounted statement (HasTooManyRows db))
told_many_rows db statement known ranged =
    elim (counted_rows statement) as (λ read. counted_rows statement ≡ read → IsTold (MatchOption read ⊥ (HasTooManyRows db))) [
      | None ↦ λ counting. inr (λ h. h)
      | Some query ↦ λ counting. (
          let answer = some_read db statement known ranged query (counted_reading statement query counting) in
          told_same (λ many. (answer.0, answer.1, many))
          (λ (h : HasTooManyRows db query). subst IsTooMuch (has_one_answer db query h.0 answer.0 h.1 answer.1) h.2)
          (told_either (told_below ROWS (length answer.0)) (told_below PATH_LABELS (sum_by row_labels answer.0))))
    ] refl

told_not_one : (db : Database) (statement : StatementTree) (rows : List (List Oid)) → AreRowsOf db statement rows
    → IsTold (IsNotOne db statement)
told_not_one db (bind name path) rows are =
    let Other = λ (l : List (List Cell)). length l ≢ 1 in
    told_same (λ other. (map object_cells rows, are, other))
    (λ h. subst Other (has_one_answer db (path_select path) h.0 (map object_cells rows) h.1 are) h.2)
    (told_not (cases_eq (length (map object_cells rows)) 1))
told_not_one db statement rows are = inr (λ h. h)

-- of changes it is told with any list of the rows
told_changes : (db : Database) (statement : StatementTree) (rows : List (List Oid)) → AreRowsOf db statement rows
    → (refusal : Refusal)
    → IsTold (DatabaseCause db (effects db statement rows) refusal)
    → IsTold (ChangesCause db statement refusal)
told_changes db statement rows are refusal told =
    let over = over_rows db statement rows are refusal in
    told_both (told_changing statement) (told_same over.0 over.1 told)

-- it is told which limit a guide passes
told_passes_nodes : (limit : ℕ) (names : List (List ℕ × Oid)) (edges : List Edge) → IsNameTable names → IsTold (ExceedsNodes limit names edges)
told_passes_nodes limit names edges table = elim (guides_fit_or_pass limit names edges table) [
  | inl fits ↦ inr (λ nodes. fitting_passes_none limit names edges fits (inl nodes))
  | inr passed ↦ elim passed [
    | inl nodes ↦ inl nodes
    | inr cells ↦ inr (λ nodes. one_limit_is_passed limit names edges nodes cells)
  ]
]

told_passes_cells : (limit : ℕ) (names : List (List ℕ × Oid)) (edges : List Edge) → IsNameTable names → IsTold (ExceedsCells limit names edges)
told_passes_cells limit names edges table = elim (guides_fit_or_pass limit names edges table) [
  | inl fits ↦ inr (λ cells. fitting_passes_none limit names edges fits (inr cells))
  | inr passed ↦ elim passed [
    | inl nodes ↦ inr (λ cells. one_limit_is_passed limit names edges nodes cells)
    | inr cells ↦ inl cells
  ]
]

-- where changes leave a graph, it is told whether its guide has more nodes than a limit
told_leads_to_more : (graph : OemGraph) (changes : Changes) (limit : ℕ) (after : OemGraph) → IsGraphAfter graph changes after
    → IsTold (LeadsToMore graph changes limit)
told_leads_to_more graph changes limit after leaves =
    told_same
    (λ more. (after, leaves, more))
    (λ (h : LeadsToMore graph changes limit). subst (λ (g : OemGraph). ExceedsNodes limit g.names g.edges)
    (one_after graph changes h.0 after h.1 leaves) h.2)
    (told_passes_nodes limit after.names after.edges leaves.names_ascend)

-- or its sets too many members
told_leads_to_larger : (graph : OemGraph) (changes : Changes) (limit : ℕ) (after : OemGraph) → IsGraphAfter graph changes after
    → IsTold (LeadsToLarger graph changes limit)
told_leads_to_larger graph changes limit after leaves =
    told_same
    (λ larger. (after, leaves, larger))
    (λ (h : LeadsToLarger graph changes limit). subst (λ (g : OemGraph). ExceedsCells limit g.names g.edges)
    (one_after graph changes h.0 after h.1 leaves) h.2)
    (told_passes_cells limit after.names after.edges leaves.names_ascend)

told_range : (db : Database) (statement : StatementTree) → IsTold (IsOutOfRange db statement)
told_range db (set_nodes nodes) = told_no_limit db nodes
told_range db (sample start labels count) = told_not (told_between 1 SAMPLE count)
told_range db (generate seed count) = told_not (told_generable seed count)
told_range db statement = inr (λ h. h)

told_fresh : (db : Database) (statement : StatementTree) → IsTold (IsNotFresh db statement)
told_fresh db (restore text) = told_not (told_new db)
told_fresh db statement = inr (λ h. h)

told_dump : (statement : StatementTree) → IsTold (IsNoDump statement)
told_dump (restore text) = told_no_dump text
told_dump statement = inr (λ h. h)

told_late : (db : Database) (statement : StatementTree) → AreTold (Cause db statement) late
told_late db statement =
    (told_range db statement, λ within. (told_fresh db statement, λ fresh. (told_dump statement, λ dumped. tt)))

module _ (db : Database) (statement : StatementTree) where
  -- ---- what is told of the text
  pub told_text : AreTold (Cause db statement) text_order
  told_text =
      let read = told_read db.graph.names (binds statement) in (
        inr (λ h. h),
        λ formed. (
          told_either (told_unbound db statement) read.0,
          λ known. told_append (Cause db statement) bound_order local_order (read.1 (λ h. known (inr h)))
              (λ bound. (
                told_made HasDouble told_double (makes statement),
                λ single. (told_made HasUndefined told_undefined (makes statement), λ defined. tt),
              )),
        ),
      )

  -- what makes no changes is refused for none
  pub told_still : (MakesChanges statement → ⊥) → IsClear (Cause db statement) text_order
      → AreTold (Cause db statement) (row_order ++ limit_order)
  told_still still clear = (
    told_many_rows db statement clear.1.0 clear.1.1.0,
    λ few. told_append (Cause db statement) (refusals.NotOne ∷ (early ++ sizes)) late
        (told_from_verdict (Cause db statement) (refusals.NotOne ∷ (early ++ sizes)) (inl (no_changes db statement still)))
        (λ unchanged. told_late db statement),
  )

module _ (db : Database) (valid : IsValid db) (statement : StatementTree) (formed : IsFormedStatement statement) where
  -- ---- what is told of the changes
  module _ (rows : List (List Oid)) (are : AreRowsOf db statement rows) where
    abbrev changes : Changes
    changes = effects db statement rows

    told_changed : (refusal : Refusal) → IsTold (DatabaseCause db changes refusal)
        → IsTold (ChangesCause db statement refusal)
    told_changed = told_changes db statement rows are

    -- where nothing before refuses them, they leave a graph
    told_limits : MakesChanges statement → IsClear (Cause db statement) fit_order → AreTold (Cause db statement) limit_order
    told_limits changing clear =
        let fits = effects_fit db valid statement formed rows are changing clear in
        let left = some_database_after db changes valid.restorable.rooted.well_formed.ordered fits.graph in
        let told : (count : OemGraph → ℕ) (limit : ℕ) → IsTold (Outgrows db.graph changes count limit) =
        λ count limit. told_outgrows db.graph changes count limit left.0.graph left.1.graph in (
          told_changed refusals.TooManyNames (told (λ after. length after.names) NAMES),
          λ names. (
            told_changed refusals.TooManyObjects (told (λ after. length after.objects) OBJECTS),
            λ objects. (
              told_changed refusals.TooManyEdges (told (λ after. length after.edges) EDGES),
              λ edges. (
                told_changed refusals.GuideNodes (told_leads_to_more db.graph changes db.nodes left.0.graph left.1.graph),
                λ sets. (
                  told_changed refusals.GuideCells (told_leads_to_larger db.graph changes db.nodes left.0.graph left.1.graph),
                  λ cells. told_late db statement,
                ),
              ),
            ),
          ),
        )

    told_rows : (Cause db statement refusals.UnknownName → ⊥) → (Cause db statement refusals.UnknownVariable → ⊥)
        → AreTold (Cause db statement) row_order
    told_rows known ranged = (
      told_many_rows db statement known ranged,
      λ short. (
        told_not_one db statement rows are,
        λ one. (
          told_changed refusals.AtomicParent (told_adds_to_atom db.graph changes),
          λ unatomic. (
            told_changed refusals.HasChildren (told_hides_children db.graph changes),
            λ shown. (
              told_changed refusals.OidsSpent (told_below NEXT_NUMBER (db.graph.next + length changes.made)),
              λ unspent. (
                told_changed refusals.TooManyLabels (told_below LABELS (length db.labels + length changes.labels)),
                λ labels. tt,
              ),
            ),
          ),
        ),
      ),
    )

    told_behind : MakesChanges statement → IsClear (Cause db statement) text_order
        → AreTold (Cause db statement) (row_order ++ limit_order)
    told_behind changing clear =
        told_append (Cause db statement) row_order limit_order (told_rows clear.1.0 clear.1.1.0)
        (λ behind. told_limits changing (clear_both (Cause db statement) text_order row_order clear behind))

  -- ---- what is told of all
  pub told_order : AreTold (Cause db statement) cause_order
  told_order = told_append (Cause db statement) text_order (row_order ++ limit_order) (told_text db statement) (λ clear.
      elim (told_changing statement) [
        | inl changing ↦ (let found = some_rows db statement changing clear.1.0 clear.1.1.0 in told_behind found.0 found.1 changing clear)
        | inr still ↦ told_still db statement still clear
      ])

  -- ---- what is done where nothing refuses
  at_most : (count limit : ℕ) → (limit < count → ⊥) → count ≤ limit
  at_most count limit few = elim (cases_lt limit count) [ inl many ↦ absurd (few many) | inr low ↦ low ]

  some_led : (rows : List (List Oid)) → AreRowsOf db statement rows → Fits db (effects db statement rows)
      → (Outgrows db.graph (effects db statement rows) (λ after. length after.names) NAMES → ⊥)
      → (Outgrows db.graph (effects db statement rows) (λ after. length after.objects) OBJECTS → ⊥)
      → (Outgrows db.graph (effects db statement rows) (λ after. length after.edges) EDGES → ⊥)
      → (LeadsToMore db.graph (effects db statement rows) db.nodes → ⊥)
      → (LeadsToLarger db.graph (effects db statement rows) db.nodes → ⊥)
      → (reply : Reply) × (after : Database) × MakesItsChanges db statement reply after × IsValid after
  some_led rows are fits names objects edges sets larger =
      let made = effects db statement rows in
      let left = some_database_after db made valid.restorable.rooted.well_formed.ordered fits.graph in
      let after = left.0 in
      let graph = left.1.graph in
      let then_valid = valid_after db made after valid fits left.1
      (at_most (length after.graph.names) NAMES (λ many. names (after.graph, graph, many)))
      (at_most (length after.graph.objects) OBJECTS (λ many. objects (after.graph, graph, many)))
      (at_most (length after.graph.edges) EDGES (λ many. edges (after.graph, graph, many)))
      (elim (guides_fit_or_pass after.nodes after.graph.names after.graph.edges graph.names_ascend) [
        | inl fits_guide ↦ fits_guide
        | inr passed ↦ elim passed [
          | inl nodes ↦ absurd (sets (
            after.graph,
            graph,
            subst (λ (n : ℕ). ExceedsNodes n after.graph.names after.graph.edges) left.1.nodes nodes,
          ))
          | inr cells ↦ absurd (larger (
            after.graph,
            graph,
            subst (λ (n : ℕ). ExceedsCells n after.graph.names after.graph.edges) left.1.nodes cells,
          ))
        ]
      ]) in
      let all = target_sets_exist after.graph.names after.graph.edges in (
        Changed (length after.graph.objects) (length after.graph.edges) (length all.0),
        after,
        ((rows, are, left.1), (all.0, all.1, refl)),
        then_valid,
      )

-- a limit is set
some_limited : (db : Database) → IsValid db → (nodes : ℤ) → GivesLimit db nodes
    → (reply : Reply) × (after : Database) × Fulfils db (set_nodes nodes) reply after × IsValid after
some_limited db valid nodes is =
    let all = target_sets_exist db.graph.names db.graph.edges in (
      Changed (length db.graph.objects) (length db.graph.edges) (length all.0),
      record db { nodes = is.limit },
      ((is.limit, is.is, refl), (all.0, all.1, refl)),
      valid_limited db valid is.limit is.within,
    )

-- a mode is set
some_chosen : (db : Database) → IsValid db → (mode : Mode)
    → (reply : Reply) × (after : Database) × Fulfils db (set_plan mode) reply after × IsValid after
some_chosen db valid mode =
    let all = target_sets_exist db.graph.names db.graph.edges in (
      Changed (length db.graph.objects) (length db.graph.edges) (length all.0),
      record db { mode = mode },
      (refl, (all.0, all.1, refl)),
      valid_in_mode db mode valid,
    )

-- changes are made
pub some_changed : (db : Database) → IsValid db → (statement : StatementTree) → IsFormedStatement statement
    → MakesChanges statement → IsClear (Cause db statement) cause_order
    → (reply : Reply) × (after : Database) × MakesItsChanges db statement reply after × IsValid after
some_changed db valid statement formed changing clear =
    let found = some_rows db statement changing clear.1.0 clear.1.1.0 in
    let limits = clear_right (Cause db statement) fit_order limit_order clear in
    let fits = effects_fit db valid statement formed found.0 found.1 changing
    (clear_left (Cause db statement) fit_order limit_order clear) in
    some_led db valid statement formed found.0 found.1 fits (λ many. limits.0 (changing, (found.0, found.1, many)))
    (λ many. limits.1.0 (changing, (found.0, found.1, many)))
    (λ many. limits.1.1.0 (changing, (found.0, found.1, many)))
    (λ many. limits.1.1.1.0 (changing, (found.0, found.1, many)))
    (λ many. limits.1.1.1.1.0 (changing, (found.0, found.1, many)))

pub some_performed : (db : Database) → IsValid db → (statement : StatementTree) → IsFormedStatement statement
    → (IsOfSession statement → ⊥) → IsClear (Cause db statement) cause_order
    → (reply : Reply) × (after : Database) × Fulfils db statement reply after × IsValid after
some_performed db valid (select query) formed plain clear =
    let found = some_read db (select query) clear.1.0 clear.1.1.0 query refl in
    (Rows found.0, db, (refl, (found.0, refl, found.1)), valid)
some_performed db valid (explain query) formed plain clear =
    let accepted : IsAccepted db.graph.names query = (λ unknown. clear.1.0 (inr unknown), (clear.1.1.0, (clear.1.1.1.0, (clear.1.1.1.1.0, tt)))) in
    let plan = some_plan db valid query accepted in
    (plan.0, db, (refl, plan.1), valid)
some_performed db valid (set_plan mode) formed plain clear = some_chosen db valid mode
some_performed db valid guide formed plain clear =
    let lines = lines_exist db.graph.names db.graph.edges db.labels valid.restorable.rooted.well_formed.ordered.names_ascend valid.restorable.labelled in
    (Lines lines.0, db, (refl, (lines.0, refl, lines.1)), valid)
some_performed db valid (set_nodes nodes) formed plain clear =
    let within = clear_right (Cause db (set_nodes nodes)) (fit_order ++ sizes) late clear in
    some_limited db valid nodes (some_limit db nodes within.0)
some_performed db valid (load name literal) formed plain clear = some_changed db valid (load name literal) formed tt clear
some_performed db valid (bind name path) formed plain clear = some_changed db valid (bind name path) formed tt clear
some_performed db valid (unname name) formed plain clear = some_changed db valid (unname name) formed tt clear
some_performed db valid (assign target value tail) formed plain clear =
    some_changed db valid (assign target value tail) formed tt clear
some_performed db valid (add_new target label literal tail) formed plain clear =
    some_changed db valid (add_new target label literal tail) formed tt clear
some_performed db valid (add_link target label right tail) formed plain clear =
    some_changed db valid (add_link target label right tail) formed tt clear
some_performed db valid (remove target label right tail) formed plain clear =
    some_changed db valid (remove target label right tail) formed tt clear
some_performed db valid (generate seed count) formed plain clear =
    some_changed db valid (generate seed count) formed (in_range db seed count (clear_right (Cause db (generate seed count)) (fit_order ++ sizes) late clear).0) clear
some_performed db valid (browse start labels) formed plain clear =
    let lines = browsing_exists db.graph.names db.graph.edges db.labels start labels valid.restorable.rooted.well_formed.ordered.names_ascend valid.restorable.labelled in
    (Lines lines.0, db, (refl, (lines.0, refl, lines.1)), valid)
some_performed db valid (sample start labels count) formed plain clear =
    let within = clear_right (Cause db (sample start labels count)) (fit_order ++ sizes) late clear in
    let size = between_not 1 SAMPLE count within.0 in
    let lines = sample_exists db.graph.names db.graph.objects db.graph.edges db.labels start labels size.0 valid.restorable.rooted.well_formed.ordered.names_ascend in
    (Lines lines.0, db, (refl, (size.0, size.1, lines.0, refl, lines.1)), valid)
some_performed db valid dump formed plain clear = (Dump (printed_dump db), db, (refl, refl), valid)
some_performed db valid (restore text) formed plain clear =
    let dumped = clear_right (Cause db (restore text)) (fit_order ++ sizes) late clear in
    some_restored text dumped.1.1.0
some_performed db valid (history on) formed plain clear = absurd (plain tt)
some_performed db valid (select_at moment query) formed plain clear = absurd (plain tt)
some_performed db valid (t.changes first last) formed plain clear = absurd (plain tt)
some_performed db valid blocks formed plain clear =
    let lines = block_lines_exist (named_graph db) (sound_graph db valid) in
    (Lines lines.0, db, (refl, (lines.0, refl, lines.1)), valid)
some_performed db valid (blocks_of query) formed plain clear =
    let found = some_read db (blocks_of query) clear.1.0 clear.1.1.0 query refl in
    (Rows found.0, db, (refl, (found.0, refl, found.1)), valid)
some_performed db valid (watch name query) formed plain clear = absurd (plain tt)
some_performed db valid (unwatch name) formed plain clear = absurd (plain tt)
some_performed db valid (show name) formed plain clear = absurd (plain tt)

pub executes_always : ExecutesAlways
executes_always db statement valid sound plain =
    let formed = sound_statement statement sound in
    elim (some_verdict (Cause db statement) cause_order (told_order db valid statement formed)) [
      | inl clear ↦ (
          let done = some_performed db valid statement formed plain clear in
          record { reply = done.0; after = done.1; executed = inl (clear, done.2); valid = done.3 })
      | inr first ↦ record {
        reply = Refused first.0;
        after = db;
        executed = inr (first.0, first.1, (refl, refl));
        valid = valid;
      }
    ]
