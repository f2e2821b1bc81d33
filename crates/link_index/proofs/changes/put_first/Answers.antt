use Rattle.link_index.proofs.PutLaws.{put_alone}
use Rattle.link_index.proofs.changes.put_first.Goals as goal

pub returns-clause-put : goal.returns-clause-put
returns-clause-put c = put_alone c.args.heads.now.items c.push_reserved.new.self.items c.args.records.now.items c.add_record-key.new.records.items c.args.link.now c.add_record-key.result
    c.requires.ascend c.requires.below c.requires.chained c.add_record-key.ensures.written c.push_reserved.ensures.items
