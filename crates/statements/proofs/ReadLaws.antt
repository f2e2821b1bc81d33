-- A statement that is executed over a select is refused for what the select is refused for.
use Rattle.std.proofs.Common.{◌≡◌, ◌≢◌, ◌↔◌, inl, inr, List, [], ◌∷◌, ◌++◌, Option, Some, None, AllPairs, All, sym, subst, arith}
use Rattle.std.specs.Prelude.{MatchOption}
use Rattle.std.specs.List.{Contains}
use Rattle.lore_base.specs.Databases.{Database}
use Rattle.lore_base.specs.Verdicts.{IsClear, IsToldBy}
use Rattle.lore_base.proofs.VerdictLaws.{clear_both}
use Rattle.list_laws.proofs.SumLaws.{sum_by-within, length-within}
use Rattle.lorel_trees.specs.Trees.{SelectTree, StatementTree}
use Rattle.lorel_bind.specs.Answers.{IsAnswer}
use Rattle.lorel_bind.specs.Refusals as binding
use Rattle.lorel_bind.specs.Refusals.{IsAccepted}
use Rattle.bind_laws.proofs.AnswerLaws.{has_one_answer}
use Rattle.bind_laws.proofs.SomeAnswerLaws.{has_some_answer}
use Rattle.lorel_bound.specs.Answers.{row_labels, IsTooMuch}
use Rattle.statements.specs.Types.{Cell, Refusal}
use Rattle.statements.specs.Types.refusals
use Rattle.statements.specs.Forms.{counted_rows, binds}
use Rattle.statements.specs.Statements.{IsUnbound, OfBinds, HasTooManyRows, Cause}
use Rattle.statements.specs.inside.Stages.{ReadCause, bind_order, bound_order, read_order, found_order}
use Rattle.statements.proofs.OrderLaws.{AreAlike, told_right, told_between, clear_between, clear_alike, told_alike}
use Rattle.statements.proofs.LiveRowLaws.{starts_somewhere}

-- ---- answers that are too much
-- an answer that is not too much is the one answer
pub few_rows : (db : Database) (query : SelectTree) (rows : List (List Cell)) → IsAnswer db query rows → (IsTooMuch rows → ⊥)
    → HasTooManyRows db query → ⊥
few_rows db query rows answer few many = few (subst IsTooMuch (has_one_answer db query many.0 rows many.1 answer) many.2)

-- different rows of an answer are no longer than it is, and have no more labels
within_answer : (rows answer : List (List Cell)) → AllPairs (λ a b. a ≢ b) rows → All (Contains answer) rows → IsTooMuch rows → IsTooMuch answer
within_answer rows answer apart there (inl many) = let fits = length-within rows answer apart there in inl (omega (arith, many, fits))
within_answer rows answer apart there (inr many) =
    let fits = sum_by-within row_labels rows answer apart there in inr (omega (arith, many, fits))

pub many_rows : (db : Database) (query : SelectTree) (rows : List (List Cell)) → IsAccepted db.graph.names query → AllPairs (λ a b. a ≢ b) rows
    → ((answer : List (List Cell)) → IsAnswer db query answer → All (Contains answer) rows) → IsTooMuch rows → HasTooManyRows db query
many_rows db query rows accepted apart there many =
    let answer = has_some_answer db query (starts_somewhere db.graph.names query accepted.0 accepted.1.0) in
    (answer.0, answer.1, within_answer rows answer.0 apart (there answer.0 answer.1) many)

-- ---- binding
pub bind_told : (db : Database) (query : SelectTree) (told : Option Refusal) → IsToldBy (binding.BindCause db.graph.names query) binding.bind_order told
    → IsToldBy (ReadCause db query) bind_order told
bind_told db query None h = tt
bind_told db query (Some refusal) h = h

pub accepted_from : (db : Database) (query : SelectTree) → IsClear (ReadCause db query) bind_order → IsAccepted db.graph.names query
accepted_from db query clear = clear

-- ---- the statement
module _ (db : Database) (statement : StatementTree) (query : SelectTree)
    (bound_select : binds statement ≡ Some query) (named : IsUnbound db statement → ⊥) where
  of_binds : (Has : SelectTree → Type 0) → Has query ↔ OfBinds statement Has
  of_binds Has = (
    λ h. subst (λ (o : Option SelectTree). MatchOption o ⊥ Has) (sym bound_select) h,
    λ h. subst (λ (o : Option SelectTree). MatchOption o ⊥ Has) bound_select h,
  )

  same_name : ReadCause db query refusals.UnknownName ↔ Cause db statement refusals.UnknownName
  same_name =
      let of = of_binds (λ q. binding.BindCause db.graph.names q refusals.UnknownName) in
      (λ h. inr (of.0 h), λ h. elim h [ inl unbound ↦ absurd (named unbound) | inr unknown ↦ of.1 unknown ])

  bind_alike : AreAlike (ReadCause db query) (Cause db statement) bind_order
  bind_alike = (
    same_name,
    (
      of_binds (λ q. binding.BindCause db.graph.names q refusals.UnknownVariable),
      (
        of_binds (λ q. binding.BindCause db.graph.names q refusals.DuplicateVariable),
        (of_binds (λ q. binding.BindCause db.graph.names q refusals.TooManyRanges), tt),
      ),
    ),
  )

  pub read_binds : (told : Option Refusal) → IsToldBy (ReadCause db query) bind_order told → IsToldBy (Cause db statement) bound_order told
  read_binds told h =
      told_right (Cause db statement) (refusals.Syntax ∷ []) bind_order told (λ h. h, tt)
      (told_alike (ReadCause db query) (Cause db statement) bind_order told bind_alike h)

  pub read_bound : IsClear (ReadCause db query) bind_order → IsClear (Cause db statement) bound_order
  read_bound clear = (λ h. h, clear_alike (ReadCause db query) (Cause db statement) bind_order bind_alike clear)

  -- where no local is wrong, and its rows are counted
  module _ (counting : counted_rows statement ≡ Some query)
      (locals : IsClear (Cause db statement) (refusals.DuplicateLocal ∷ refusals.UndefinedLocal ∷ [])) where
    many_alike : ReadCause db query refusals.TooManyRows ↔ Cause db statement refusals.TooManyRows
    many_alike = (
      λ h. subst (λ (o : Option SelectTree). MatchOption o ⊥ (HasTooManyRows db)) (sym counting) h,
      λ h. subst (λ (o : Option SelectTree). MatchOption o ⊥ (HasTooManyRows db)) counting h,
    )

    read_alike : AreAlike (ReadCause db query) (Cause db statement) read_order
    read_alike =
        let bound = bind_alike in
        (bound.0, (bound.1.0, (bound.1.1.0, (bound.1.1.1.0, (many_alike, tt)))))

    pub read_found : (told : Option Refusal) → IsToldBy (ReadCause db query) read_order told → IsToldBy (Cause db statement) found_order told
    read_found told h =
        told_right (Cause db statement) (refusals.Syntax ∷ []) (bind_order ++ refusals.DuplicateLocal ∷ refusals.UndefinedLocal ∷ refusals.TooManyRows ∷ [])
        told (λ h. h, tt)
        (told_between (Cause db statement) bind_order (refusals.DuplicateLocal ∷ refusals.UndefinedLocal ∷ []) (refusals.TooManyRows ∷ []) told locals
        (told_alike (ReadCause db query) (Cause db statement) read_order told read_alike h))

    pub read_clear : IsClear (ReadCause db query) read_order → IsClear (Cause db statement) found_order
    read_clear clear = (
      λ h. h,
      clear_between (Cause db statement) bind_order (refusals.DuplicateLocal ∷ refusals.UndefinedLocal ∷ []) (refusals.TooManyRows ∷ []) locals
          (clear_alike (ReadCause db query) (Cause db statement) read_order read_alike clear),
    )

  -- where no row is counted
  module _ (counting : counted_rows statement ≡ None)
      (locals : IsClear (Cause db statement) (refusals.DuplicateLocal ∷ refusals.UndefinedLocal ∷ [])) where
    uncounted : Cause db statement refusals.TooManyRows → ⊥
    uncounted h = subst (λ (o : Option SelectTree). MatchOption o ⊥ (HasTooManyRows db)) counting h

    pub uncounted_clear : IsClear (ReadCause db query) bind_order → IsClear (Cause db statement) found_order
    uncounted_clear clear =
        clear_both (Cause db statement) bound_order (refusals.DuplicateLocal ∷ refusals.UndefinedLocal ∷ refusals.TooManyRows ∷ [])
        (read_bound clear) (locals.0, (locals.1.0, (uncounted, tt)))
