use Rattle.std.proofs.Common.{subst}
use Rattle.lore_run.specs.Reads.{HadMemory}
use Rattle.lore_run.specs.declared.status.Outcome.{Outcome}
use Rattle.lore_run.proofs.run.run_script.Goals as goal

pub returns-in_default-clause-bounded : goal.returns-in_default-clause-bounded
returns-in_default-clause-bounded g c = λ had. absurd (subst (λ (o : Outcome). HadMemory o.status) c.outcome.ensures had)
