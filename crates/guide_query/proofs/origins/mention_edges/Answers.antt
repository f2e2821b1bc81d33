use Rattle.std.proofs.Common.{get_or}
use Rattle.std.proofs.lemmas.Option.{slice_get-get_or}
use Rattle.guide_query.proofs.OriginLaws.{edge-noted, row-end}
use Rattle.guide_query.proofs.origins.mention_edges.Goals as goal

pub edges-preserved : goal.edges-preserved
edges-preserved c =
    let edges = c.args.edges.now in
    let i = c.edges.edge-index in
    let edge = get_or edges i (record { 0 = 0 }, record { 0 = 0 }) in
    record {
      met = λ guide read has are.
          edge-noted guide read c.args.from.0 i edges edge c.edges.origins.items c.mention.new.origins.items has
          (slice_get-get_or edges i (record { 0 = 0 }, record { 0 = 0 }) c.edges-test.true) c.mention.ensures.count
          c.mention.ensures.each (c.edges.invariant.met guide read has are);
    }

pub returns : goal.returns
returns c = λ guide read has are.
    row-end guide read c.args.from.0 c.edges.edge-index c.args.edges.now c.edges.origins.items has c.edges-test.false
    (c.edges.invariant.met guide read has are)
