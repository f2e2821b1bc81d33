use Rattle.std.proofs.Common.{ℕ, List, ◌++◌, take}
use Rattle.lorel_ranges.specs.Views.{texts}
use Rattle.lorel_bind.specs.inside.Causes.{HasNoted}
use Rattle.lorel_bind.proofs.causes.Ranged.note_all.Given as goal

abbrev pub invariant-identifiers : goal.invariant-identifiers
invariant-identifiers l = (earlier : List (List ℕ)) → HasNoted earlier l.fn.self → HasNoted (earlier ++ texts (take l.identifier-index l.identifiers)) l.self
