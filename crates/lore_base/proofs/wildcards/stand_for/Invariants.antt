use Rattle.std.proofs.Common.{◌↔◌, ◌+◌, ◌∷◌, length}
use Rattle.lore_base.specs.Wildcards.{many, StandFor, characters}
use Rattle.lore_base.specs.inside.Attempts.{signs_of}
use Rattle.lore_base.proofs.wildcards.stand_for.Given as goal

-- the signs stand for the text where `%` and what is left of them stand for what is left of it
abbrev pub invariant-places : goal.invariant-places
invariant-places l =
    StandFor (signs_of l.fn.in_like l.fn.pattern) (characters l.fn.text)
    ↔ StandFor (many ∷ signs_of l.fn.in_like l.later) (characters l.rest)

abbrev pub decreases-places : goal.decreases-places
decreases-places l = length l.later + length l.rest
