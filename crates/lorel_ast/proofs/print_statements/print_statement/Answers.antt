use Rattle.std.proofs.Common.{◌≡◌, [], ◌++◌, sym, ◌∙◌, ap, subst, List, ℕ}
use Rattle.std.specs.Prelude.{IfOk}
use Rattle.lorel_lex.specs.Writing.{spaced}
use Rattle.lorel_lex.proofs.ReadBackLaws.{line_of_spaced}
use Rattle.lorel_ast.specs.Printing as canon
use Rattle.lorel_trees.specs.Trees.{statement_tree}
use Rattle.lorel_ast.proofs.print_statements.print_statement.Goals as goal

pub returns : goal.returns
returns c =
    let kinds = canon.print_statement (statement_tree c.args.statement.now) [] in
    let bytes = c.put_statement.new.out in
    let written : spaced kinds ≡ bytes ++ spaced [] =
    sym (ap (λ (l : List ℕ). l ++ spaced kinds) c.new-out.ensures) ∙ c.in_ok-put_statement.ensures [] in
    subst (λ (line : List ℕ). IfOk c.line.result (λ text. text ≡ line)) (line_of_spaced kinds bytes written) c.line.ensures
