use Rattle.std.proofs.Common.{◌≡◌, ◌<◌, List, length, get_or, Some, sym, ap, subst, arith}
use Rattle.std.specs.List.{slice_get}
use Rattle.std.proofs.lemmas.Option.{slice_get-get_or}
use Rattle.guide_query.specs.Types.{GuideNode}
use Rattle.guide_query.proofs.origins.origins_of.Goals as goal

pub nodes-preserved : goal.nodes-preserved
nodes-preserved c =
    let guide = c.args.guide.now in
    let nodes = c.nodes-nodes.result.now in
    let node = get_or nodes c.nodes.place c.index-nodes-place.result in
    let within : c.nodes.place < length nodes =
    omega (arith, c.nodes-test.true, c.len-place-end.ensures, ap length c.nodes-nodes.ensures) in
    let at : slice_get guide.nodes c.nodes.place ≡ Some node =
    subst (λ (l : List GuideNode). slice_get l c.nodes.place ≡ Some node) c.nodes-nodes.ensures
    (slice_get-get_or nodes c.nodes.place c.index-nodes-place.result within) in
    record {
      met = c.mention_edges.ensures guide (length guide.entries) (node, at, sym c.as_slice-edges.ensures)
          c.nodes.invariant.met;
    }
