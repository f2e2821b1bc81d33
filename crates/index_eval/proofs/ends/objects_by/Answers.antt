use Rattle.std.proofs.Common.{List, Option, IfSome, subst}
use Rattle.index_eval.specs.Types.{Oid}
use Rattle.index_eval.specs.inside.Ends.{HasEnds}
use Rattle.index_eval.proofs.EndLaws.{led_back, led_through}
use Rattle.index_eval.proofs.ends.objects_by.Goals as goal

pub returns : goal.returns
returns g c =
    let readers = c.args.readers.now in
    let edges = g.G.Adjacent.edges readers.graph.now in
    let objects = g.G.ValueOf.objects readers.graph.now in
    let entries = g.V.Values.entries readers.values.now in
    led_back readers.labels.now edges objects (g.K.Links.edges readers.links.now) entries c.args.row.now c.args.clue.now c.in-Some.ends c.in_ok-found.found
    c.in-None.is (subst (λ (found : Option (List Oid)). IfSome found (HasEnds readers.labels.now edges objects entries c.args.row.now c.args.clue.now.end)) c.in-Some.is c.in_ok-ends.ensures)
    c.in_ok-found.ensures

pub returns-in-Some-through : goal.returns-in-Some-through
returns-in-Some-through g c =
    let readers = c.args.readers.now in
    let edges = g.G.Adjacent.edges readers.graph.now in
    let objects = g.G.ValueOf.objects readers.graph.now in
    let entries = g.V.Values.entries readers.values.now in
    led_through readers.labels.now edges objects (g.K.Links.edges readers.links.now) entries c.args.row.now c.args.clue.now c.in-Some-through.first c.in-Some.ends
    c.in_ok-found.found c.in_ok-oids-in-Some-through.oids c.in-Some-through.is
    (subst (λ (found : Option (List Oid)). IfSome found (HasEnds readers.labels.now edges objects entries c.args.row.now c.args.clue.now.end)) c.in-Some.is c.in_ok-ends.ensures)
    c.in_ok-found.ensures c.in_ok-oids-in-Some-through.ensures
