use Rattle.guide_tests.proofs.guides.guide_within.Given as goal

abbrev pub ghosts-built : goal.ghosts-built
ghosts-built a = record { name = a.blank.name; parts = a.blank.parts }
