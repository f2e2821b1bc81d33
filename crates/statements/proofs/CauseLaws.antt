-- Causes of refusals by the forms of statements: those that a form can't have, and those of its changes over its rows.
use Rattle.std.proofs.Common.{◌≡◌, ◌≢◌, ◌↔◌, inl, inr, ℕ, ◌+◌, ◌<◌, ◌≤◌, List, [], ◌∷◌, ◌++◌, length, map, Option, Some, None, refl, sym, ap, subst, ◌∙◌, arith}
use Rattle.std.specs.Prelude.{MatchOption}
use Rattle.std.proofs.lemmas.List.Elements.{All-contains}
use Rattle.lore_base.specs.Databases.{Database, IsValid}
use Rattle.lore_base.specs.ChangeSets.{AreSame}
use Rattle.lore_base.specs.ChangeCauses.{DatabaseCause, AddsToAtom, HidesChildren}
use Rattle.lore_base.specs.Verdicts.{IsClear, IsToldBy}
use Rattle.lore_base.proofs.MemberLaws.{Contains-none}
use Rattle.lore_base.proofs.VerdictLaws.{clear_both}
use Rattle.list_laws.proofs.MemberLaws.{Contains-from_map}
use Rattle.oem_text.proofs.NumberedLaws.{length-objects_of}
use Rattle.lorel_trees.specs.Trees as t
use Rattle.lorel_trees.specs.Trees.{RootedTree, SelectTree, StatementTree, LiteralTree}
use Rattle.lorel_bind.specs.Answers.{IsAnswer}
use Rattle.bind_laws.proofs.AnswerLaws.{has_one_answer}
use Rattle.oem_labels.specs.Labels.{first_uses}
use Rattle.oem_text.specs.Literals.{bodies, arcs_of, labels_of, edge_at}
use Rattle.oem_text.specs.Parts as text
use Rattle.updates.specs.Effects.{Pair, changes_by}
use Rattle.updates.specs.Causes.{IsUpdate}
use Rattle.statements.specs.Types.{Oid, Edge, Value, Cell, Changes, Refusal, LABELS, NEXT_NUMBER}
use Rattle.statements.specs.Types.refusals
use Rattle.statements.specs.Forms.{reads, path_select, MakesChanges}
use Rattle.statements.specs.Effects.{object_cells, pair_of, AreRowsOf, loading, naming, effects}
use Rattle.statements.specs.Statements.{IsUnbound, IsOutOfRange, IsNotFresh, IsNoDump, ChangesCause, Cause, cause_order}
use Rattle.statements.specs.inside.Stages.{bound_order, found_order, fit_order}
use Rattle.statements.proofs.ObjectRowLaws.{one_lists}
use Rattle.statements.proofs.OrderLaws.{AreAlike, told_left, told_right, told_between, clear_between, clear_alike, told_alike}
use Rattle.statements.proofs.ChangedCauseLaws.{cause_same}

-- the refusals of a literal's locals, of changes before they are made, of how large the database and its guide get, and
-- of numbers out of range and dump texts
abbrev pub locals : List Refusal
locals = refusals.DuplicateLocal ∷ refusals.UndefinedLocal ∷ []

abbrev pub sizes : List Refusal
sizes = refusals.TooManyNames ∷ refusals.TooManyObjects ∷ refusals.TooManyEdges ∷ refusals.GuideNodes ∷ refusals.GuideCells ∷ []

abbrev pub late : List Refusal
late = refusals.LimitRange ∷ refusals.NotFresh ∷ refusals.BadRestore ∷ []

abbrev pub early : List Refusal
early = refusals.AtomicParent ∷ refusals.HasChildren ∷ refusals.OidsSpent ∷ refusals.TooManyLabels ∷ []

-- ---- rows
pub one_rows : (db : Database) (statement : StatementTree) (rows other : List (List Oid)) → AreRowsOf db statement rows → AreRowsOf db statement other
    → rows ≡ other
one_rows db statement rows other are also = by (reads statement) are also
  where
    by : (query : Option SelectTree) → MatchOption query (rows ≡ []) (λ q. IsAnswer db q (map object_cells rows))
        → MatchOption query (other ≡ []) (λ q. IsAnswer db q (map object_cells other)) → rows ≡ other
    by None a b = a ∙ sym b
    by (Some query) a b = one_lists rows other (has_one_answer db query (map object_cells rows) (map object_cells other) a b)

-- the changes over some rows have the cause
abbrev pub OverRows : Database → StatementTree → Refusal → Type 0
OverRows db statement refusal =
    (rows : List (List Oid)) × AreRowsOf db statement rows × DatabaseCause db (effects db statement rows) refusal

module _ (db : Database) (statement : StatementTree) (rows : List (List Oid)) (are : AreRowsOf db statement rows) where
  pub over_rows : (refusal : Refusal) → DatabaseCause db (effects db statement rows) refusal ↔ OverRows db statement refusal
  over_rows refusal = (
    λ h. (rows, are, h),
    λ h. subst (λ (l : List (List Oid)). DatabaseCause db (effects db statement l) refusal) (one_rows db statement h.0 rows h.1 are) h.2,
  )

  -- the causes of a statement's changes are its own, and so are those of changes that are the same
  module _ (changes : Changes) (same : AreSame (effects db statement rows) changes)
      (changing : MakesChanges statement) where
    given : (refusal : Refusal) → DatabaseCause db changes refusal ↔ ChangesCause db statement refusal
    given refusal =
        let first = cause_same db (effects db statement rows) changes same refusal in
        let second = over_rows refusal in
        (λ h. (changing, second.0 (first.1 h)), λ h. first.0 (second.1 h.1))

    sizes_alike : AreAlike (DatabaseCause db changes) (Cause db statement) sizes
    sizes_alike = (
      given refusals.TooManyNames,
      (
        given refusals.TooManyObjects,
        (given refusals.TooManyEdges, (given refusals.GuideNodes, (given refusals.GuideCells, tt))),
      ),
    )

    -- how large the database gets is tried last, where the statement is a change
    pub sizes_told : (told : Option Refusal) → IsClear (Cause db statement) fit_order → IsToldBy (DatabaseCause db changes) sizes told
        → IsToldBy (Cause db statement) cause_order told
    sizes_told told clear h =
        told_right (Cause db statement) fit_order (sizes ++ late) told clear
        (told_left (Cause db statement) sizes late told (told_alike (DatabaseCause db changes) (Cause db statement) sizes told sizes_alike h))

    -- which has no number out of range
    pub sizes_clear : IsClear (Cause db statement) late → IsClear (Cause db statement) fit_order → IsClear (DatabaseCause db changes) sizes
        → IsClear (Cause db statement) cause_order
    sizes_clear within clear h =
        clear_both (Cause db statement) fit_order (sizes ++ late) clear
        (clear_both (Cause db statement) sizes late (clear_alike (DatabaseCause db changes) (Cause db statement) sizes sizes_alike h) within)

-- ---- statements that make changes
-- they have no number out of range, and restore nothing
changing_within : (db : Database) (statement : StatementTree) → MakesChanges statement → IsOutOfRange db statement → ⊥
changing_within db (t.set_nodes nodes) changing outside = changing
changing_within db (t.sample start labels count) changing outside = changing
changing_within db (t.generate seed count) changing outside = outside changing
changing_within db _ changing outside = outside

changing_fresh : (db : Database) (statement : StatementTree) → MakesChanges statement → IsNotFresh db statement → ⊥
changing_fresh db (t.restore text) changing stale = changing
changing_fresh db _ changing stale = stale

changing_dumped : (statement : StatementTree) → MakesChanges statement → IsNoDump statement → ⊥
changing_dumped (t.restore text) changing none = changing
changing_dumped _ changing none = none

pub changing_late : (db : Database) (statement : StatementTree) → MakesChanges statement → IsClear (Cause db statement) late
changing_late db statement changing =
    (changing_within db statement changing, (changing_fresh db statement changing, (changing_dumped statement changing, tt)))

-- ---- loads
module _ (db : Database) (valid : IsValid db) (name : List ℕ) (literal : LiteralTree) where
  abbrev load_tree : StatementTree
  load_tree = t.load name literal

  -- objects that are made weren't there
  made_anew : AddsToAtom db.graph (loading db name literal) → ⊥
  made_anew adds =
      let table = db.labels ++ first_uses db.labels (labels_of literal) in
      let arc = Contains-from_map (edge_at db.graph.next table (bodies literal)) (arcs_of literal) adds.edge adds.added in
      let number : db.graph.next + arc.0.parent ≡ adds.edge.parent.0 = ap (λ (e : Edge). e.parent.0) arc.2 in
      let old = All-contains (λ (o : Oid × Value). (1 ≤ o.0.0) × (o.0.0 < db.graph.next)) db.graph.objects (adds.edge.parent, adds.value)
      valid.restorable.rooted.well_formed.ordered.objects_numbered adds.valued in
      omega (arith, number, old.1)

  no_value : HidesChildren db.graph (loading db name literal) → ⊥
  no_value hides = Contains-none (hides.oid, hides.value) hides.valued

  load_binds : IsClear (Cause db load_tree) bound_order
  load_binds = (λ h. h, (λ h. elim h [ inl unbound ↦ unbound | inr unknown ↦ unknown ], (λ h. h, (λ h. h, (λ h. h, tt)))))

  load_between : IsClear (Cause db load_tree) (refusals.TooManyRows ∷ refusals.NotOne ∷ refusals.AtomicParent ∷ refusals.HasChildren ∷ [])
  load_between = (λ h. h, (λ h. h, (λ h. made_anew h.1.2, (λ h. no_value h.1.2, tt))))

  load_alike : AreAlike (text.PartCause db.labels db.graph.next literal) (Cause db load_tree) text.part_order
  load_alike =
      let count = length-objects_of db.graph.next literal in (
        (λ h. h, λ h. h),
        (
          (λ h. h, λ h. h),
          (
            (λ h. (tt, ([], refl, omega (arith, h, count))), λ h. (let over = h.1.2 in omega (arith, over, count))),
            ((λ h. (tt, ([], refl, h)), λ h. h.1.2), tt),
          ),
        ),
      )

  pub load_told : (told : Option Refusal) → IsToldBy (text.PartCause db.labels db.graph.next literal) text.part_order told → IsToldBy (Cause db load_tree) cause_order told
  load_told told h =
      let back = refusals.OidsSpent ∷ refusals.TooManyLabels ∷ [] in
      let middle = refusals.TooManyRows ∷ refusals.NotOne ∷ refusals.AtomicParent ∷ refusals.HasChildren ∷ [] in
      told_left (Cause db load_tree) fit_order (sizes ++ late) told
      (told_right (Cause db load_tree) bound_order (locals ++ (middle ++ back)) told load_binds
      (told_between (Cause db load_tree) locals middle back told load_between
      (told_alike (text.PartCause db.labels db.graph.next literal) (Cause db load_tree) text.part_order told load_alike h)))

  pub load_clear : IsClear (text.PartCause db.labels db.graph.next literal) text.part_order → IsClear (Cause db load_tree) fit_order
  load_clear h =
      let back = refusals.OidsSpent ∷ refusals.TooManyLabels ∷ [] in
      let middle = refusals.TooManyRows ∷ refusals.NotOne ∷ refusals.AtomicParent ∷ refusals.HasChildren ∷ [] in
      clear_both (Cause db load_tree) bound_order (locals ++ (middle ++ back)) load_binds
      (clear_between (Cause db load_tree) locals middle back load_between
      (clear_alike (text.PartCause db.labels db.graph.next literal) (Cause db load_tree) text.part_order load_alike h))

-- ---- names
module _ (db : Database) (valid : IsValid db) where
  named_atom : (name : List ℕ) (rows : List Pair) → AddsToAtom db.graph (naming name rows) → ⊥
  named_atom name [] adds = Contains-none adds.edge adds.added
  named_atom name (row ∷ rows) adds = Contains-none adds.edge adds.added

  named_value : (name : List ℕ) (rows : List Pair) → HidesChildren db.graph (naming name rows) → ⊥
  named_value name [] hides = Contains-none (hides.oid, hides.value) hides.valued
  named_value name (row ∷ rows) hides = Contains-none (hides.oid, hides.value) hides.valued

  unspent : db.graph.next + 0 ≤ NEXT_NUMBER
  unspent = omega (arith, valid.restorable.rooted.well_formed.ordered.next_numbered.1)

  named_number : (name : List ℕ) (rows : List Pair) → NEXT_NUMBER < db.graph.next + length (naming name rows).made → ⊥
  named_number name [] over = omega (arith, over, unspent)
  named_number name (row ∷ rows) over = omega (arith, over, unspent)

  named_label : (name : List ℕ) (rows : List Pair) → LABELS < length db.labels + length (naming name rows).labels → ⊥
  named_label name [] over = omega (arith, over, valid.restorable.few_labels)
  named_label name (row ∷ rows) over = omega (arith, over, valid.restorable.few_labels)

  -- binding a name has no cause of its own before the changes are made
  pub name_early : (name : List ℕ) (path : RootedTree) → IsClear (Cause db (t.bind name path)) early
  name_early name path = (
    λ h. named_atom name (map pair_of h.1.0) h.1.2,
    (
      λ h. named_value name (map pair_of h.1.0) h.1.2,
      (λ h. named_number name (map pair_of h.1.0) h.1.2, (λ h. named_label name (map pair_of h.1.0) h.1.2, tt)),
    ),
  )

  pub name_locals : (name : List ℕ) (path : RootedTree) → IsClear (Cause db (t.bind name path)) locals
  name_locals name path = (λ h. h, (λ h. h, tt))

  unnamed_early : (name : List ℕ) → IsClear (Cause db (t.unname name)) early
  unnamed_early name = (
    λ h. (let adds = h.1.2 in Contains-none adds.edge adds.added),
    (
      λ h. (let hides = h.1.2 in Contains-none (hides.oid, hides.value) hides.valued),
      (λ h. (let over = h.1.2 in omega (arith, over, unspent)), (λ h. (let over = h.1.2 in omega (arith, over, valid.restorable.few_labels)), tt)),
    ),
  )

  pub unname_clear : (name : List ℕ) → (IsUnbound db (t.unname name) → ⊥) → IsClear (Cause db (t.unname name)) fit_order
  unname_clear name bound =
      let first : IsClear (Cause db (t.unname name)) (found_order ++ refusals.NotOne ∷ []) = (
        λ h. h,
        (
          λ h. elim h [ inl unbound ↦ bound unbound | inr unknown ↦ unknown ],
          (λ h. h, (λ h. h, (λ h. h, (λ h. h, (λ h. h, (λ h. h, (λ h. h, tt))))))),
        ),
      ) in
      clear_both (Cause db (t.unname name)) (found_order ++ refusals.NotOne ∷ []) early first (unnamed_early name)

  pub unname_told : (name : List ℕ) → IsUnbound db (t.unname name) → IsToldBy (Cause db (t.unname name)) cause_order (Some refusals.UnknownName)
  unname_told name unbound = inr (λ h. h, inl (inl unbound, refl))

  -- the path has one object, or not
  pub name_clear : (name : List ℕ) (path : RootedTree) (rows : List (List Cell)) → IsAnswer db (path_select path) rows → length rows ≡ 1
      → IsClear (Cause db (t.bind name path)) found_order → IsClear (Cause db (t.bind name path)) fit_order
  name_clear name path rows answer one clear =
      let single : Cause db (t.bind name path) refusals.NotOne → ⊥ = (λ h.
      h.2 (ap length (has_one_answer db (path_select path) h.0 rows h.1 answer) ∙ one)) in
      clear_both (Cause db (t.bind name path)) found_order (refusals.NotOne ∷ early) clear (single, name_early name path)

  pub name_told : (name : List ℕ) (path : RootedTree) (rows : List (List Cell)) → IsAnswer db (path_select path) rows → length rows ≢ 1
      → IsClear (Cause db (t.bind name path)) found_order → IsToldBy (Cause db (t.bind name path)) cause_order (Some refusals.NotOne)
  name_told name path rows answer several clear =
      told_right (Cause db (t.bind name path)) found_order (refusals.NotOne ∷ (early ++ (sizes ++ late))) (Some refusals.NotOne) clear
      (inl ((rows, answer, several), refl))

-- ---- updates
pub update_changes : (statement : StatementTree) → IsUpdate statement → MakesChanges statement
update_changes (t.assign target value tail) update = tt
update_changes (t.add_new target label literal tail) update = tt
update_changes (t.add_link target label right tail) update = tt
update_changes (t.remove target label right tail) update = tt
update_changes _ update = absurd (update refl)

-- an update needs no name of its own
pub update_names : (db : Database) (statement : StatementTree) → IsUpdate statement → IsUnbound db statement → ⊥
update_names db (t.unname name) update unbound = update refl
update_names db (t.browse start labels) update unbound = update refl
update_names db (t.sample start labels count) update unbound = update refl
update_names db _ update unbound = unbound

pub update_single : (db : Database) (statement : StatementTree) → IsUpdate statement → Cause db statement refusals.NotOne → ⊥
update_single db (t.bind name path) update h = update refl
update_single db _ update h = h

pub update_effects : (db : Database) (statement : StatementTree) → IsUpdate statement → (rows : List (List Oid))
    → changes_by db.labels db.graph statement (map pair_of rows) ≡ effects db statement rows
update_effects db (t.assign target value tail) update rows = refl
update_effects db (t.add_new target label literal tail) update rows = refl
update_effects db (t.add_link target label right tail) update rows = refl
update_effects db (t.remove target label right tail) update rows = refl
update_effects db _ update rows = absurd (update refl)

-- what an update does binds no name and takes none away
pub update_named : (table : List (List ℕ)) (db : Database) (statement : StatementTree) (rows : List Pair)
    → ((changes_by table db.graph statement rows).named ≡ []) × ((changes_by table db.graph statement rows).unnamed ≡ [])
update_named table db statement [] = (refl, refl)
update_named table db (t.assign target value tail) (row ∷ rows) = (refl, refl)
update_named table db (t.add_new target label literal tail) (row ∷ rows) = (refl, refl)
update_named table db (t.add_link target label right tail) (row ∷ rows) = (refl, refl)
update_named table db (t.remove target label right tail) (row ∷ rows) = (refl, refl)
update_named table db _ (row ∷ rows) = (refl, refl)
