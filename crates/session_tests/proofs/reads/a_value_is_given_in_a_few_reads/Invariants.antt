use Rattle.session_tests.proofs.reads.a_value_is_given_in_a_few_reads.Given as goal

abbrev pub ghosts-prepares_in_new : goal.ghosts-prepares_in_new
ghosts-prepares_in_new a = record { name = a.blank.name; parts = a.blank.parts }
