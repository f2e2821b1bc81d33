use Rattle.set_explorer.proofs.growth.note_bases.Given as goal

abbrev pub invariant-row : goal.invariant-row
invariant-row g l = Unit {0}
