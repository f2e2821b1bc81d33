use Rattle.std.proofs.Common.{take}
use Rattle.word_walks.specs.inside.Levels.{Gains, IsEndBy}
use Rattle.word_walks.proofs.levels.push_ends.Given as goal

abbrev pub invariant-edges : goal.invariant-edges
invariant-edges l = Gains (IsEndBy (take l.edge-index l.edges) l.label) l.initial.next l.next
