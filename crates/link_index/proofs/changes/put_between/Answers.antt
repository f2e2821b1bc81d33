use Rattle.std.proofs.Common.{List, [], ◌∷◌, sym, subst, ◌∙◌}
use Rattle.link_index.specs.declared.records.LinkRecord.{LinkRecord}
use Rattle.link_index.specs.inside.Records.{ArePut}
use Rattle.link_index.proofs.RecordLaws.{put_through, with_all, same_length}
use Rattle.link_index.proofs.changes.put_between.Goals as goal

pub returns-clause-put : goal.returns-clause-put
returns-clause-put c = subst (λ (r : List LinkRecord). ArePut (c.args.link.now ∷ []) c.args.records.now.items c.lead.new.heads r)
    (sym (with_all c.lead.new.records c.add_record-key.new.records.items c.add_record-key.new.records.len (sym c.as_mut_slice.ensures.len ∙ sym c.lead.ensures.len)))
    (put_through c.args.heads.now c.lead.new.heads c.args.records.now.items c.add_record-key.new.records.items c.lead.new.records
    c.as_slice.result.now c.as_slice-2.result.now c.as_mut_slice.result.now c.as_slice.ensures.value c.as_slice-2.ensures.value c.as_mut_slice.ensures.value c.args.link.now
    c.place_before-place.result c.next_of-next.result c.add_record-key.result c.requires.chained c.requires.new c.place_before-place.ensures c.next_of-next.ensures
    c.add_record-key.ensures.written c.lead.ensures)

pub returns-clause-same : goal.returns-clause-same
returns-clause-same c = same_length c.args.heads.now c.lead.new.heads c.lead.ensures.children
