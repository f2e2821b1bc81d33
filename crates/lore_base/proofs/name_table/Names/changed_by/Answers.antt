use Rattle.std.proofs.Common.{ap, ◌∙◌}
use Rattle.lore_base.specs.inside.NameTables.{names_after}
use Rattle.lore_base.proofs.NameLaws.{names_after-none}
use Rattle.lore_base.proofs.ChangedNameLaws.{changed_table, changed_members}
use Rattle.lore_base.proofs.name_table.Names.changed_by.Goals as goal

pub returns-clause-ascend : goal.returns-clause-ascend
returns-clause-ascend c =
    let copied = c.in_ok-put_all.ensures.all ∙ ap (λ names. names_after names c.args.self.now) c.new-names.ensures
    ∙ names_after-none c.args.self.now c.put_all.ensures.table in
    changed_table c.args.self.now c.args.changes.now c.put_all.ensures.table c.put_all-2.ensures.table
    c.put_all.new.self c.take_all.new.self c.put_all-2.new.self copied c.take_all.ensures c.in_ok-put_all-2.ensures.all

pub returns-clause-members : goal.returns-clause-members
returns-clause-members c =
    let copied = c.in_ok-put_all.ensures.all ∙ ap (λ names. names_after names c.args.self.now) c.new-names.ensures
    ∙ names_after-none c.args.self.now c.put_all.ensures.table in
    changed_members c.args.self.now c.args.changes.now c.put_all.ensures.table c.put_all-2.ensures.table
    c.put_all.new.self c.take_all.new.self c.put_all-2.new.self copied c.take_all.ensures c.in_ok-put_all-2.ensures.all
