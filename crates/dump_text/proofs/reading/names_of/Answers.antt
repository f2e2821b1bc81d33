use Rattle.std.proofs.Common.{List, ℕ, [], sym, ◌∙◌}
use Rattle.std.proofs.lemmas.List.{at_drop_all}
use Rattle.lore_base.specs.inside.NameTables.{names_after}
use Rattle.lore_base.proofs.NameLaws.{names_after-none}
use Rattle.dump_text.specs.Types.{Oid}
use Rattle.dump_text.proofs.EntryLaws.{name_more}
use Rattle.dump_text.proofs.reading.names_of.Goals as goal

pub entries-preserved : goal.entries-preserved
entries-preserved c =
    name_more c.args.entries.now c.entries.name-index c.entries-item.result c.entries-test.true c.entries-item.is c.entries.names c.put.new.self
    (names_after [] c.args.entries.now) c.in_ok-try_copy.field-0 c.in_ok-put.ensures.ok c.in_ok-try_copy.ensures c.entries.invariant

pub returns : goal.returns
returns c =
    sym (at_drop_all (λ (l : List (List ℕ × Oid)). names_after c.entries.names l) c.args.entries.now c.entries.name-index c.entries-test.false)
    ∙ c.entries.invariant ∙ names_after-none c.args.entries.now c.requires
