use Rattle.query_tests.proofs.conditions.a_condition_is_asked_of_a_row.Given as goal

abbrev pub ghosts-check : goal.ghosts-check
ghosts-check a = record { name = a.blank.name; parts = a.blank.parts }
