use Rattle.std.proofs.Common.{◌≡◌, ◌∙◌, ap, to_z, of_z, rules}
use Rattle.std.specs.Int.{w64}
use Rattle.std.proofs.lemmas.Int.{to_z-of_z}
use Rattle.lorel_trees.specs.Trees.{statement_tree}
use Rattle.lorel_ast.specs.Printing as canon
use Rattle.lorel_ast.proofs.print_statements.put_statement.Goals as goal

pub returns-in_ok-put_dump-in-Restore : goal.returns-in_ok-put_dump-in-Restore
returns-in_ok-put_dump-in-Restore c = λ rest.
    let first = c.in_ok-word-in-Restore.ensures (canon.print_dump c.in-Restore.text rest) in
    let second = c.in_ok-put_dump-in-Restore.ensures rest in
    let tree = ap statement_tree c.in-Restore.is in
    rw (tree) (first ∙ second)

pub returns-in-Generate : goal.returns-in-Generate
returns-in-Generate c =
    let seed_is : to_z w64 (of_z w64 c.in-Generate.seed) ≡ c.in-Generate.seed = to_z-of_z w64 c.in-Generate.seed (search rules) in
    let count_is : to_z w64 (of_z w64 c.in-Generate.count) ≡ c.in-Generate.count = to_z-of_z w64 c.in-Generate.count (search rules) in
    let tree = ap statement_tree c.in-Generate.is in
    let put = rw (seed_is) at c.put_pair.ensures in
    rw (tree) (rw (count_is) at put)

pub returns-in-ChangesList : goal.returns-in-ChangesList
returns-in-ChangesList c =
    let first_is : to_z w64 (of_z w64 c.in-ChangesList.first) ≡ c.in-ChangesList.first = to_z-of_z w64 c.in-ChangesList.first (search rules) in
    let last_is : to_z w64 (of_z w64 c.in-ChangesList.last) ≡ c.in-ChangesList.last = to_z-of_z w64 c.in-ChangesList.last (search rules) in
    let tree = ap statement_tree c.in-ChangesList.is in
    let put = rw (first_is) at c.put_pair-in-ChangesList.ensures in
    rw (tree) (rw (last_is) at put)

pub returns-in-At : goal.returns-in-At
returns-in-At c =
    let moment_is : to_z w64 (of_z w64 c.in-At.moment) ≡ c.in-At.moment = to_z-of_z w64 c.in-At.moment (search rules) in
    let tree = ap statement_tree c.in-At.is in
    rw (tree) (rw (moment_is) at c.put_at.ensures)
