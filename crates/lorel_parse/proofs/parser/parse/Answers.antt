use Rattle.std.proofs.Common.{◌<◌, length, map, sym, ap, ◌∙◌, arith}
use Rattle.std.proofs.lemmas.Result.{err_from_is_err_and}
use Rattle.std.proofs.lemmas.List.Elements.{All-map}
use Rattle.lorel_tokens.specs.Forms.{HasForm}
use Rattle.lorel_tokens.specs.declared.token_types.Token.{Token}
use Rattle.lorel_trees.specs.Trees.{statement_tree}
use Rattle.lorel_parse.specs.inside.Statements.{statement}
use Rattle.lorel_parse.proofs.StatementLaws.{read_has, none_has, left_has, refused_at}
use Rattle.lorel_parse.proofs.parser.parse.Goals as goal

pub returns-in_err-statement-clause-none : goal.returns-in_err-statement-clause-none
returns-in_err-statement-clause-none c =
    let kinds = c.new-cursor.ensures ∙ ap (map (λ token. token.kind)) c.as_slice.ensures in
    let p = err_from_is_err_and c.from_residual.result c.from_residual.ensures.1 in
    rw (p.1, p.2) (λ is. none_has _ (ap statement (sym kinds) ∙ refused_at (statement c.new-cursor.result) c.in_err-statement.field-0.0 c.statement.new.tokens c.in_err-statement.ensures is))

pub returns-then-len-eq0-clause-tree : goal.returns-then-len-eq0-clause-tree
returns-then-len-eq0-clause-tree c =
    let kinds = c.new-cursor.ensures ∙ ap (map (λ token. token.kind)) c.as_slice.ensures in
    read_has _ c.statement.new.tokens (statement_tree c.in_ok-statement.statement) (ap statement (sym kinds) ∙ c.in_ok-statement.ensures) (sym c.len.ensures ∙ c.if-len-eq0.true)

pub returns-then-len-eq0-clause-sound : goal.returns-then-len-eq0-clause-sound
returns-then-len-eq0-clause-sound c = λ formed. record {
  kinds = map (λ (token : Token). token.kind) c.args.tokens.now;
  spelled = returns-then-len-eq0-clause-tree c;
  formed = All-map HasForm (λ (token : Token). token.kind) c.args.tokens.now formed;
}

pub returns-else-len-eq0-clause-none : goal.returns-else-len-eq0-clause-none
returns-else-len-eq0-clause-none c =
    let kinds = c.new-cursor.ensures ∙ ap (map (λ token. token.kind)) c.as_slice.ensures in
    let some : 0 < length c.statement.new.tokens = omega arith in
    λ is. left_has _ c.statement.new.tokens (statement_tree c.in_ok-statement.statement) (ap statement (sym kinds) ∙ c.in_ok-statement.ensures) some
