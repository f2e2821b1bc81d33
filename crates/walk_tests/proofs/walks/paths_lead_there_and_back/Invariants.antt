use Rattle.walk_tests.proofs.walks.paths_lead_there_and_back.Given as goal

abbrev pub ghosts-check_all : goal.ghosts-check_all
ghosts-check_all a = record { name = a.blank.name; parts = a.blank.parts }
