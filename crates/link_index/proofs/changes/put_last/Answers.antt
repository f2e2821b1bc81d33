use Rattle.link_index.proofs.RecordLaws.{put_behind}
use Rattle.link_index.proofs.changes.put_last.Goals as goal

pub returns-clause-put : goal.returns-clause-put
returns-clause-put c heads ascend chained = put_behind heads c.args.records.now.items c.add_record-key.new.records.items c.args.link.now c.args.place c.add_record-key.result c.index_mut.result.now
    ascend chained c.requires.new c.requires.start c.requires.last c.add_record-key.ensures.written c.index_mut.ensures.value
