use Rattle.oem_graph.proofs.linked_graph.tests.stated_fields.Given as goal

abbrev pub ghosts-told : goal.ghosts-told
ghosts-told g a = record { name = a.blank.name; parts = a.blank.parts }
