use Rattle.std.proofs.Common.{ap, ◌∙◌}
use Rattle.std.specs.Prelude.{◌++◌}
use Rattle.lore_store.proofs.RestoredLaws.{all_come, all_fit}
use Rattle.lore_store.proofs.store.table_of.Goals as goal

pub plan_new-planned-requires : goal.plan_new-planned-requires
plan_new-planned-requires c = record { few = all_fit c.new-table.result c.args.texts.now c.new-table.ensures c.requires }

pub returns-in-Ok : goal.returns-in-Ok
returns-in-Ok c =
    c.with_labels.ensures ∙ ap (λ t. t ++ c.in-Ok.plan.come) c.new-table.ensures
    ∙ (c.in-Ok.ensures.come ∙ all_come c.new-table.result c.args.texts.now c.new-table.ensures c.requires)
