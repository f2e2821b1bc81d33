use Rattle.session_tests.proofs.kept.a_session_goes_on_where_memory_was_refused.Given as goal

abbrev pub ghosts-dump_behind : goal.ghosts-dump_behind
ghosts-dump_behind a = record { name = a.blank.name; parts = a.blank.parts }
