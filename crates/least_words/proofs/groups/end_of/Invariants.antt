use Rattle.std.proofs.Common.{◌≡◌, ℕ, ◌<◌, ◌≤◌, get_or}
use Rattle.least_words.specs.Types.{Place}
use Rattle.least_words.proofs.groups.end_of.Given as goal

abbrev pub invariant-places : goal.invariant-places
invariant-places l = (k : ℕ) (d : Place) → l.first ≤ k → k < l.end → (get_or l.places k d).group ≡ l.group
