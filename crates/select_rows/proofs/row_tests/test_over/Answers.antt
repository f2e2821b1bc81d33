use Rattle.select_rows.proofs.row_tests.test_over.Goals as goal

pub returns-then-branch-clause-quiet : goal.returns-then-branch-clause-quiet
returns-then-branch-clause-quiet g c = λ none. absurd (none (c.in_ok-tests_many.ensures c.if-branch.true))
