-- Statements that make no changes: what they are not refused for.
use Rattle.std.proofs.Common.{◌≡◌, inl, inr, List, ◌∷◌, ◌++◌, Option, None, subst}
use Rattle.std.specs.Prelude.{MatchOption}
use Rattle.lore_base.specs.Databases.{Database}
use Rattle.lore_base.specs.Verdicts.{IsClear}
use Rattle.lorel_trees.specs.Trees as t
use Rattle.lorel_trees.specs.Trees.{LiteralTree, SelectTree, StatementTree}
use Rattle.lorel_bind.specs.Refusals as binding
use Rattle.oem_text.specs.Literals.{HasDouble, HasUndefined}
use Rattle.statements.specs.Types.{Refusal}
use Rattle.statements.specs.Types.refusals
use Rattle.statements.specs.Forms.{reads, binds, MakesChanges}
use Rattle.statements.specs.Statements.{IsUnbound, HasTooManyRows, IsNotOne, ChangesCause, OfBinds, OfCounted, OfMakes, Cause}
use Rattle.statements.specs.inside.Stages.{fit_order}
use Rattle.statements.proofs.CauseLaws.{locals, early, sizes}

-- what binds a name or makes objects makes changes
naming_changes : (db : Database) (statement : StatementTree) → IsNotOne db statement → MakesChanges statement
naming_changes db (t.bind name path) several = tt
naming_changes db _ several = absurd several

making_changes : (statement : StatementTree) (Has : LiteralTree → Type 0) → OfMakes statement Has → MakesChanges statement
making_changes (t.load name literal) Has has = tt
making_changes (t.add_new target label literal tail) Has has = tt
making_changes _ Has has = absurd has

-- what is tried behind a name that isn't bound, up to how large the database gets
abbrev behind_order : List Refusal
behind_order =
    refusals.UnknownVariable ∷ refusals.DuplicateVariable ∷ refusals.TooManyRanges
    ∷ (locals ++ (refusals.TooManyRows ∷ refusals.NotOne ∷ (early ++ sizes)))

-- rows that are counted are those of what is read
pub counted_read : (statement : StatementTree) (Has : SelectTree → Type 0) → OfCounted statement Has → MatchOption (reads statement) ⊥ Has
counted_read (t.bind name path) Has h = absurd h
counted_read _ Has h = h

module _ (db : Database) (statement : StatementTree) (quiet : MakesChanges statement → ⊥) where
  caused : (refusal : Refusal) → ChangesCause db statement refusal → ⊥
  caused refusal h = quiet h.0

  pub no_locals : IsClear (Cause db statement) locals
  no_locals = (
    λ h. quiet (making_changes statement HasDouble h),
    (λ h. quiet (making_changes statement HasUndefined h), tt),
  )

  pub no_changes : IsClear (Cause db statement) (refusals.NotOne ∷ (early ++ sizes))
  no_changes = (
    λ h. quiet (naming_changes db statement h),
    (
      caused refusals.AtomicParent,
      (
        caused refusals.HasChildren,
        (
          caused refusals.OidsSpent,
          (
            caused refusals.TooManyLabels,
            (
              caused refusals.TooManyNames,
              (
                caused refusals.TooManyObjects,
                (caused refusals.TooManyEdges, (caused refusals.GuideNodes, (caused refusals.GuideCells, tt))),
              ),
            ),
          ),
        ),
      ),
    ),
  )

  -- what reads nothing either is refused for no row
  module _ (reading : reads statement ≡ None) where
    unread : OfCounted statement (HasTooManyRows db) → ⊥
    unread h = subst (λ (o : Option SelectTree). MatchOption o ⊥ (HasTooManyRows db)) reading (counted_read statement (HasTooManyRows db) h)

    pub behind_binding : IsClear (Cause db statement) (locals ++ (refusals.TooManyRows ∷ refusals.NotOne ∷ (early ++ sizes)))
    behind_binding = (no_locals.0, (no_locals.1.0, (unread, no_changes)))

  -- what binds nothing either is refused for no cause before its own
  module _ (named : IsUnbound db statement → ⊥) (unbound_select : binds statement ≡ None)
      (reading : reads statement ≡ None) where
    unbound : (Has : SelectTree → Type 0) → OfBinds statement Has → ⊥
    unbound Has h = subst (λ (o : Option SelectTree). MatchOption o ⊥ Has) unbound_select h

    nameless : Cause db statement refusals.UnknownName → ⊥
    nameless h = elim h [
      | inl missing ↦ named missing
      | inr unknown ↦ unbound (λ query. binding.BindCause db.graph.names query refusals.UnknownName) unknown
    ]

    behind_name : IsClear (Cause db statement) behind_order
    behind_name = (
      unbound (λ query. binding.BindCause db.graph.names query refusals.UnknownVariable),
      (
        unbound (λ query. binding.BindCause db.graph.names query refusals.DuplicateVariable),
        (unbound (λ query. binding.BindCause db.graph.names query refusals.TooManyRanges), behind_binding reading),
      ),
    )

    pub nothing_before : IsClear (Cause db statement) (fit_order ++ sizes)
    nothing_before = (λ h. h, (nameless, behind_name))
