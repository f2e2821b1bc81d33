use Rattle.std.proofs.Common.{Some, None, refl, sym, ◌∙◌}
use Rattle.std.proofs.lemmas.Bool.{true≢false}
use Rattle.link_index.specs.inside.LinkEdges.{order}
use Rattle.link_index.specs.inside.Records.{link_in, nothing, child_of, Precedes, LiesAt, after_at, head_of}
use Rattle.near_links.proofs.AheadLaws.{place_here, nearer}
use Rattle.near_links.proofs.SlotLaws.{fewer_from}
use Rattle.link_index.proofs.RecordLaws.{link_total, link_self, list_order, lies_once, past_link, told_less}
use Rattle.link_index.proofs.chains.place_from.Goals as goal

pub returns-then-not-precedes : goal.returns-then-not-precedes
returns-then-not-precedes c =
    let is = sym c.next_of.ensures ∙ c.in-Some.is in
    place_here child_of Precedes list_order (LiesAt c.args.records.now) (lies_once c.args.records.now) (after_at c.args.records.now) (head_of c.args.heads.now) c.requires.chained
    c.args.link.now c.places.place (Some c.in-Some.next) c.places.invariant is
    (past_link c.args.records.now c.in-Some.next c.in-Some-edge_at.other c.args.link.now (sym c.in-Some-edge_at.ensures)
    (λ less. true≢false (sym (c.precedes.ensures.1 less) ∙ c.if-not-precedes.true)))

pub places-smaller : goal.places-smaller
places-smaller c =
    let is = sym c.next_of.ensures ∙ c.in-Some.is in
    let lies = sym c.in-Some-edge_at.ensures in
    fewer_from link_in order link_total link_self nothing refl c.args.records.now c.places.place c.in-Some.next c.in-Some-edge_at.other lies
    (told_less c.args.records.now c.places.place c.in-Some-edge_at.other
    (nearer child_of Precedes list_order (LiesAt c.args.records.now) (lies_once c.args.records.now) (after_at c.args.records.now) (head_of c.args.heads.now) c.requires.chained
    c.args.link.now c.places.place c.places.invariant c.in-Some.next is c.in-Some-edge_at.other lies))

pub returns : goal.returns
returns c =
    place_here child_of Precedes list_order (LiesAt c.args.records.now) (lies_once c.args.records.now) (after_at c.args.records.now) (head_of c.args.heads.now) c.requires.chained
    c.args.link.now c.places.place None c.places.invariant (sym c.next_of.ensures ∙ c.in_default.is) tt
