use Rattle.std.proofs.Common.{◌∙◌}
use Rattle.plan_laws.proofs.CandidateLaws.{some_candidates, no_candidates}
use Rattle.plan_ops.proofs.step_objects.candidates.Goals as goal
use Rattle.plan_ops.proofs.step_objects.candidates.Goals.{in-Some+in_ok-probe, in_default}

pub returns : goal.returns
returns g c = elim c.match-label.branch [
  | in-Some+in_ok-probe w ↦
      rw w.oids-is (some_candidates _ _ _ _ _ _ _ w.in-Some.is c.new-oids.ensures w.in_ok-probe.ensures.objects)
  | in_default w ↦ no_candidates _ _ _ _ _ w.in_default.is (w.oids-is ∙ c.new-oids.ensures)
]
