use Rattle.std.proofs.Common.{ℕ, Option, subst}
use Rattle.link_index.specs.inside.Records.{IsLed}
use Rattle.link_index.proofs.HeadLaws.{child_listed}
use Rattle.link_index.proofs.RecordLaws.{taken_key, led_within, take_one}
use Rattle.link_index.proofs.changes.take_link.Goals as goal

pub lead-requires-clause-listed : goal.lead-requires-clause-listed
lead-requires-clause-listed c = child_listed c.args.heads.now c.args.records.now c.args.link.now c.requires.chained c.requires.has

pub free_record-requires : goal.free_record-requires
free_record-requires c = led_within c.args.link.now.child c.place_before-place.result c.after_at-next.result c.args.heads.now c.args.records.now c.lead.new.heads c.lead.new.records
    c.in-Some.key c.args.link.now
    (taken_key c.args.heads.now c.args.records.now c.args.link.now c.place_before-place.result _ c.in-Some.key c.requires.chained c.place_before-place.ensures c.requires.has c.next_of.ensures c.in-Some.is)
    c.lead.ensures

pub returns : goal.returns
returns c = take_one c.args.heads.now c.lead.new.heads c.args.records.now c.lead.new.records c.free_record.new.records c.args.link.now c.place_before-place.result
    c.in-Some.key c.args.free.now c.requires.chained c.place_before-place.ensures
    (taken_key c.args.heads.now c.args.records.now c.args.link.now c.place_before-place.result _ c.in-Some.key c.requires.chained c.place_before-place.ensures c.requires.has c.next_of.ensures c.in-Some.is)
    (subst (λ (next : Option ℕ). IsLed c.args.link.now.child c.place_before-place.result next c.args.heads.now c.args.records.now c.lead.new.heads c.lead.new.records) c.after_at-next.ensures c.lead.ensures)
    c.free_record.ensures
