use Rattle.std.proofs.Common.{◌∙◌, ap, refl}
use Rattle.lore_run.specs.declared.status.Outcome.{Outcome}
use Rattle.lore_run.specs.declared.tally.Tally.{Tally}
use Rattle.lore_run.proofs.EndLaws.{ends_complete}
use Rattle.lore_run.proofs.ReadLaws.{reads_nothing}
use Rattle.lore_run.proofs.run.run_lore.Goals as goal

pub returns-then-is_empty-clause-complete : goal.returns-then-is_empty-clause-complete
returns-then-is_empty-clause-complete g c = λ none.
    let run = c.run_script.ensures in
    ends_complete c.run_script.result c.run_script.new.session.state _ _ _ _ _ _ run.ends run.source_faults run.sink_faults

-- no word was executed
pub returns-else-is_empty-clause-bounded : goal.returns-else-is_empty-clause-bounded
returns-else-is_empty-clause-bounded g c = λ had.
    reads_nothing (g.S.Source.left c.args.source.now) _ c.args.session.now.state c.args.steps.now _
    (ap (λ (o : Outcome). o.done) c.outcome.ensures ∙ ap (λ (t : Tally). t.done) c.new.ensures) c.requires refl
