use Rattle.std.proofs.Common.{Some, None, sym, ap, ◌∙◌, arith}
use Rattle.std.proofs.lemmas.Bool.{true≢false}
use Rattle.edge_lists.specs.Types.{Oid}
use Rattle.edge_lists.specs.Records.{edge_in}
use Rattle.edge_lists.specs.Chains.{next_of}
use Rattle.edge_lists.proofs.WalkLaws.{place_here, next_stands, nearer, past_record, no_record, fewer_from}
use Rattle.edge_lists.proofs.ProbeLaws.{further_behind}
use Rattle.edge_lists.proofs.walks.spot_of.Goals as goal

pub returns-in_default-get-clause-place : goal.returns-in_default-get-clause-place
returns-in_default-get-clause-place c waiting chained among start =
    let is = ap (λ (o : Oid). next_of c.args.side c.args.objects.now c.args.records.now o c.places.place) (sym c.owner-owner.ensures) ∙ sym c.next_of.ensures ∙ c.in-Some.is in
    let stands = next_stands c.args.side c.args.objects.now c.args.records.now waiting chained c.args.edge.now c.places.place (c.places.invariant waiting chained among start) c.in-Some.key is in
    absurd (no_record c.args.records.now waiting c.in-Some.key stands.0 (sym c.in_default-get.ensures) stands.1)

pub returns-in_default-get-clause-next : goal.returns-in_default-get-clause-next
returns-in_default-get-clause-next c =
    let is = ap (λ (o : Oid). next_of c.args.side c.args.objects.now c.args.records.now o c.places.place) (sym c.owner-owner.ensures) ∙ sym c.next_of.ensures ∙ c.in-Some.is in
    sym is

pub returns-then-not-precedes-clause-place : goal.returns-then-not-precedes-clause-place
returns-then-not-precedes-clause-place c waiting chained among start =
    let is = ap (λ (o : Oid). next_of c.args.side c.args.objects.now c.args.records.now o c.places.place) (sym c.owner-owner.ensures) ∙ sym c.next_of.ensures ∙ c.in-Some.is in
    place_here c.args.side c.args.objects.now c.args.records.now waiting chained c.args.edge.now c.places.place (Some c.in-Some.key) (c.places.invariant waiting chained among start) is
    (past_record c.args.side c.args.records.now c.args.edge.now c.in-Some.key c.in-Some-get.record.now (sym c.in-Some-get.ensures)
    (λ less. true≢false (sym (c.precedes.ensures.1 less) ∙ c.if-not-precedes.true)))

pub returns-then-not-precedes-clause-next : goal.returns-then-not-precedes-clause-next
returns-then-not-precedes-clause-next c =
    let is = ap (λ (o : Oid). next_of c.args.side c.args.objects.now c.args.records.now o c.places.place) (sym c.owner-owner.ensures) ∙ sym c.next_of.ensures ∙ c.in-Some.is in
    sym is

pub places-smaller : goal.places-smaller
places-smaller c =
    let is = ap (λ (o : Oid). next_of c.args.side c.args.objects.now c.args.records.now o c.places.place) (sym c.owner-owner.ensures) ∙ sym c.next_of.ensures ∙ c.in-Some.is in
    let w = c.requires.chained in
    let lies = ap edge_in (sym c.in-Some-get.ensures) in
    let fewer = fewer_from c.args.side c.args.records.now c.places.place c.in-Some.key c.in-Some-get.record.now.edge lies
    (nearer c.args.side c.args.objects.now c.args.records.now w.0 w.1 c.args.edge.now c.places.place (c.places.invariant w.0 w.1 w.2 w.3) c.in-Some.key is c.in-Some-get.record.now.edge lies) in
    let further = further_behind c.args.side c.args.records.now c.args.edge.now c.args.come.now c.in-Some.key c.further-later.result c.in-Some-get.record.now.edge lies c.further-later.ensures in
    omega (arith, fewer, further)

pub places-preserved : goal.places-preserved
places-preserved c waiting chained among start =
    let is = ap (λ (o : Oid). next_of c.args.side c.args.objects.now c.args.records.now o c.places.place) (sym c.owner-owner.ensures) ∙ sym c.next_of.ensures ∙ c.in-Some.is in
    let stands = next_stands c.args.side c.args.objects.now c.args.records.now waiting chained c.args.edge.now c.places.place (c.places.invariant waiting chained among start) c.in-Some.key is in
    c.further-later.ensures.start waiting among
    (c.in-Some-get.record.now.edge, (ap edge_in (sym c.in-Some-get.ensures), stands.1.1), c.precedes.ensures.0 (c.if-not-precedes.false))

pub returns-clause-place : goal.returns-clause-place
returns-clause-place c waiting chained among start =
    let is = ap (λ (o : Oid). next_of c.args.side c.args.objects.now c.args.records.now o c.places.place) (sym c.owner-owner.ensures) ∙ sym c.next_of.ensures ∙ c.in_default.is in
    place_here c.args.side c.args.objects.now c.args.records.now waiting chained c.args.edge.now c.places.place None (c.places.invariant waiting chained among start) is tt

pub returns-clause-next : goal.returns-clause-next
returns-clause-next c =
    let is = ap (λ (o : Oid). next_of c.args.side c.args.objects.now c.args.records.now o c.places.place) (sym c.owner-owner.ensures) ∙ sym c.next_of.ensures ∙ c.in_default.is in
    sym is
