-- Tokens have one statement, or none has them, as the parser's reading tells.
use Rattle.std.proofs.Common.{◌≡◌, ◌⊎◌, inl, inr, List, [], ◌∷◌, Some, None, refl, sym, ◌∙◌, arith}
use Rattle.lorel_terms.specs.Outcomes.{Outcome}
use Rattle.lorel_terms.proofs.OutcomeLaws.{some_parts}
use Rattle.lorel_parse.specs.inside.Statements.{statement}
use Rattle.lorel_parse.proofs.StatementLaws.{reads_statement, read_has, none_has, left_has}
use Rattle.lorel_trees.specs.Trees.{StatementTree}
use Rattle.lorel_trees.specs.Tokens.{HasTokens}
use Rattle.lorel_tokens.specs.declared.token_types.Kind.{Kind}
use Rattle.run_laws.proofs.MeaningLaws.{OneStatement}
use Rattle.run_laws.proofs.SomeRunLaws.{SomeStatement}

abbrev IsTold : List Kind → Type 0
IsTold kinds = ((tree : StatementTree) × HasTokens tree kinds) ⊎ ((tree : StatementTree) → HasTokens tree kinds → ⊥)

told_behind : (kinds left : List Kind) (tree : StatementTree) → ◌≡◌ {A = Outcome StatementTree} (statement kinds) (Some (tree, left)) → IsTold kinds
told_behind kinds [] tree read = inl (tree, read_has kinds [] tree read refl)
told_behind kinds (kind ∷ left) tree read = inr (left_has kinds (kind ∷ left) tree read (omega arith))

pub some_statement : SomeStatement
some_statement kinds =
    elim (statement kinds) as (λ (o : Outcome StatementTree). ◌≡◌ {A = Outcome StatementTree} (statement kinds) o → IsTold kinds) [
      | None ↦ λ none. inr (none_has kinds none)
      | Some found ↦ λ read. told_behind kinds found.1 found.0 read
    ] refl

-- no tokens have two statements: both are what is read
pub one_statement : OneStatement
one_statement tree other kinds has also = (some_parts (sym (reads_statement tree kinds has) ∙ reads_statement other kinds also)).0
