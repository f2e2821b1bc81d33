use Rattle.edge_lists.proofs.SiftLaws.{sift_start, sift_noted}
use Rattle.edge_lists.proofs.sifts.sift.Goals as goal

pub edges-init : goal.edges-init
edges-init c = sift_start c.args.records.now _ _ c.new.ensures c.new-3.ensures

pub edges-preserved : goal.edges-preserved
edges-preserved c = sift_noted c.args.records.now c.args.edges.now c.requires.order c.edges.edge-index _ c.edges-test.true
    c.edges.sifted.there c.edges.sifted.absent c.note.new.sifted.there c.note.new.sifted.absent c.find-found.result.key
    c.edges.invariant c.find-found.ensures.some c.find-found.ensures.none c.in_ok-last.ensures.there c.in_ok-last.ensures.absent
