use Rattle.std.proofs.Common.{◌≡◌, take}
use Rattle.doem_history.specs.Histories.{facts_at}
use Rattle.doem_history.specs.inside.Marks.{runs_at}
use Rattle.doem_history.proofs.timeline.held_at_places.Given as goal

abbrev pub invariant-places : goal.invariant-places
invariant-places g l = l.facts.items ≡ facts_at l.moment (runs_at l.runs (take l.place-index l.places))
