use Rattle.product_walk.specs.ProductWalks.{IsAcceptedInto}
use Rattle.product_walk.specs.inside.Products.{ReadsTurned, ReadsInto}
use Rattle.product_walk.proofs.ProductLaws.{lists_same, accepted_into}
use Rattle.product_walk.proofs.searches.backward.Goals as goal

pub returns-clause-objects : goal.returns-clause-objects
returns-clause-objects g c =
    let edges = g.K.Links.edges c.args.links.now in
    let labels = g.T.LabelTest.texts c.args.labels.now in
    let machine = c.args.automaton.now in
    let turned = c.in_ok-turned.turned in
    let to = c.args.to.now in
    lists_same c.turned_back.result (ReadsInto edges (ReadsTurned labels turned) to) (IsAcceptedInto labels edges machine to) c.args.buf.now c.turned_back.new.buf
    (accepted_into edges labels machine turned to c.in_ok-turned.ensures) c.turned_back.ensures.objects
