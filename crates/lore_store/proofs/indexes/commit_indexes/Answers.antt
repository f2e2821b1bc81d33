use Rattle.lore_store.specs.declared.indexes.Indexes.{Indexes}
use Rattle.lore_store.proofs.IndexLaws.{indexes_then}
use Rattle.lore_store.proofs.indexes.commit_indexes.Goals as goal

pub returns : goal.returns
returns c before after =
    let kept : Indexes = record { links = c.args.links.now; values = c.args.values.now } in
    indexes_then before after kept _ c.args.plan c.commit.ensures.ascend c.commit.ensures.links c.commit-2.ensures.ascend c.commit-2.ensures.entries
