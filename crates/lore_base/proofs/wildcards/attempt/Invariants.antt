use Rattle.std.proofs.Common.{◌≤◌, length}
use Rattle.lore_base.specs.Wildcards.{characters}
use Rattle.lore_base.specs.inside.Attempts.{signs_of, LiesBefore}
use Rattle.lore_base.proofs.wildcards.attempt.Given as goal

abbrev pub invariant-signs : goal.invariant-signs
invariant-signs l = record {
  lies : LiesBefore (signs_of l.fn.in_like l.fn.pattern) (signs_of l.fn.in_like l.pattern) (characters l.fn.text) (characters l.text);
  shorter : length l.pattern ≤ length l.fn.pattern;
  no_longer : length l.text ≤ length l.fn.text;
}

abbrev pub decreases-signs : goal.decreases-signs
decreases-signs l = length l.pattern
