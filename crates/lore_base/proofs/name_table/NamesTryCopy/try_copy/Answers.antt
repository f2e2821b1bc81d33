use Rattle.std.proofs.Common.{ap, ◌∙◌}
use Rattle.lore_base.specs.inside.NameTables.{names_after}
use Rattle.lore_base.proofs.NameLaws.{names_after-none}
use Rattle.lore_base.proofs.name_table.NamesTryCopy.try_copy.Goals as goal

pub returns : goal.returns
returns c =
    c.in_ok-put_all.ensures.all ∙ ap (λ names. names_after names c.args.self.now) c.new-names.ensures
    ∙ names_after-none c.args.self.now c.put_all.ensures.table
