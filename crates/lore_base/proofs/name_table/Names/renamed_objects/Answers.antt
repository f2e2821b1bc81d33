use Rattle.std.proofs.Common.{◌++◌, List, ap, ◌∙◌}
use Rattle.std.specs.Map.{keys_of}
use Rattle.lore_base.specs.Types.{Oid}
use Rattle.lore_base.specs.inside.NameTables.{found_objects}
use Rattle.lore_base.proofs.ChangedNameLaws.{renamed_members}
use Rattle.lore_base.proofs.name_table.Names.renamed_objects.Goals as goal

pub returns : goal.returns
returns c =
    let is = c.in_ok-add_found.ensures
    ∙ ap (λ (l : List Oid). l ++ found_objects c.args.self.now c.args.changes.now.unnamed) (c.in_ok-add_bound.ensures
    ∙ ap (λ (l : List Oid). l ++ found_objects c.args.self.now (keys_of c.args.changes.now.named)) c.in_ok-oids.ensures) in
    renamed_members c.args.self.now c.args.changes.now c.add_found.new.oids c.len.ensures.table is
