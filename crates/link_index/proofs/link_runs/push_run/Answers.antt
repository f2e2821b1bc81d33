use Rattle.std.proofs.Common.{refl, sym, ◌∙◌}
use Rattle.link_index.specs.inside.LinkEdges.{order}
use Rattle.link_index.specs.inside.Records.{link_in, nothing, child_of, Precedes, LiesAt, after_at, head_of}
use Rattle.near_links.proofs.AheadLaws.{place_lies}
use Rattle.near_links.proofs.SlotLaws.{fewer_from}
use Rattle.link_index.proofs.RecordLaws.{link_total, link_self, list_order, lies_once, told_less}
use Rattle.link_index.proofs.RunLaws.{told_more, told_all}
use Rattle.link_index.proofs.link_runs.push_run.Goals as goal

pub records-smaller : goal.records-smaller
records-smaller c =
    let is = sym c.next_of.ensures ∙ c.in-Some.is in
    let lies = sym c.in-Some-edge_at.ensures in
    fewer_from link_in order link_total link_self nothing refl c.args.records.now c.records.place c.in-Some.next c.in-Some-edge_at.link lies
    (told_less c.args.records.now c.records.place c.in-Some-edge_at.link
    (place_lies child_of Precedes list_order (LiesAt c.args.records.now) (lies_once c.args.records.now) (after_at c.args.records.now) (head_of c.args.heads.now) c.requires.chained
    c.args.child c.records.place c.records.invariant.to.on c.in-Some.next is c.in-Some-edge_at.link lies))

pub records-preserved : goal.records-preserved
records-preserved c = told_more c.args.heads.now c.args.records.now c.args.child c.args.given c.requires.chained c.records.place
    c.args.buf.now c.records.buf c.push_given.new.buf c.records.invariant c.in-Some.next (sym c.next_of.ensures ∙ c.in-Some.is)
    c.in-Some-edge_at.link (sym c.in-Some-edge_at.ensures) c.in_ok-push_given.ensures.ok

pub returns-clause-ok : goal.returns-clause-ok
returns-clause-ok c = told_all c.args.heads.now c.args.records.now c.args.child c.args.given c.requires.chained c.records.place
    c.args.buf.now c.records.buf c.records.invariant (sym c.next_of.ensures ∙ c.in_default.is)
