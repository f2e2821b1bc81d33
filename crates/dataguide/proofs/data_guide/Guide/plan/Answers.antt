use Rattle.std.proofs.Common.{ℕ, List, length, sym, ◌∙◌, subst, arith}
use Rattle.std.specs.List.{AllZip}
use Rattle.std.proofs.lemmas.List.{length-map}
use Rattle.std.proofs.lemmas.Result.{err_from_is_err_and}
use Rattle.lore_base.specs.PathOrder.{AreInPathOrder}
use Rattle.dataguide.specs.Types.{Node, GuideNode}
use Rattle.set_explorer.specs.Nodes.{sets_of, IsEntry}
use Rattle.set_explorer.specs.Touched.{ReadsTouched, ReadsSome, parents_of}
use Rattle.set_explorer.specs.PlannedNodes.{node_then, nodes_then}
use Rattle.set_explorer.specs.HashedNodes.{IsHashed}
use Rattle.set_explorer.specs.Changes.{IsToldChange}
use Rattle.dataguide.specs.Guides.{StandsFor}
use Rattle.dataguide.specs.Deltas.{guide_then, IsReady}
use Rattle.set_explorer.proofs.CountLaws.{fit-counted}
use Rattle.set_explorer.proofs.FillLaws.{planned-ascend}
use Rattle.dataguide.proofs.ChangeLaws.{told-change, reads-same, some-same}
use Rattle.dataguide.proofs.data_guide.Guide.plan.Goals as goal

pub explore_sets-requires : goal.explore_sets-requires
explore_sets-requires g c =
    let edges = g.A.Adjacent.edges c.args.after.now in
    let same = sym c.table-guide.ensures.nodes in
    record {
      told = subst (λ (l : List GuideNode). IsToldChange l c.args.lost.now c.args.fresh.now edges c.args.entered.now.oids.now
          c.args.entered.now.edges.now c.in_ok-dirty.dirty c.in_ok-grown.grown c.in_ok-back.back) same
          (told-change c.args.self.now c.args.lost.now c.args.fresh.now edges c.args.entered.now.oids.now c.args.entered.now.edges.now
          c.in_ok-dirty.dirty c.in_ok-grown.grown c.in_ok-back.back c.requires.stood c.requires.lost_ascend c.requires.ascend
          c.requires.tells c.in_ok-dirty.ensures c.in_ok-grown.ensures c.in_ok-back.ensures);
      hashed = subst (λ (l : List GuideNode). IsHashed c.table-guide.result.by_hash.now l) same
          c.table-guide.ensures.hashed;
    }

pub returns-clause-guide : goal.returns-clause-guide
returns-clause-guide g c =
    let explored = c.in_ok-explored.explored in
    let is = c.in_ok-explored.ensures in
    let nodes = nodes_then c.table-guide.result.nodes.now explored.nodes.items in
    subst (λ (l : List GuideNode). StandsFor (guide_then l (record { nodes = explored.nodes.items; entries = c.of.result }))
    c.args.names.now (g.A.Adjacent.edges c.args.after.now)) c.table-guide.ensures.nodes (record {
      nodes = is.nodes.nodes;
      steps = is.nodes.steps;
      entries = subst (λ (l : List (List ℕ × Node)). AllZip (IsEntry nodes) c.args.names.now l) (sym c.of.ensures) is.entries;
    })

pub returns-clause-order : goal.returns-clause-order
returns-clause-order g c =
    let explored = c.in_ok-explored.explored in
    subst (λ (l : List GuideNode). AreInPathOrder c.args.names.now (g.A.Adjacent.edges c.args.after.now)
    (sets_of (nodes_then l explored.nodes.items))) c.table-guide.ensures.nodes c.in_ok-explored.ensures.order

pub returns-clause-ready : goal.returns-clause-ready
returns-clause-ready g c =
    let explored = c.in_ok-explored.explored in
    let is = c.in_ok-explored.ensures in
    subst (λ (l : List GuideNode). IsReady l (record { nodes = explored.nodes.items; entries = c.of.result }))
    c.table-guide.ensures.nodes (record { keeps = is.keeps; apart = is.nodes.nodes.apart })

pub returns-clause-steps : goal.returns-clause-steps
returns-clause-steps g c =
    let explored = c.in_ok-explored.explored in
    let edges = g.A.Adjacent.edges c.args.after.now in
    let kept = c.table-guide.result.nodes.now in
    let lost = parents_of c.args.lost.now in
    let fresh = parents_of c.args.fresh.now in
    subst (λ (l : List GuideNode). ReadsTouched (sets_of l) lost fresh edges (sets_of (nodes_then l explored.nodes.items))
    c.args.steps.now c.explore_sets.new.steps) c.table-guide.ensures.nodes
    (reads-same (sets_of kept) c.in_ok-dirty.dirty lost c.in_ok-dirty.ensures.exact c.in_ok-grown.grown fresh
    c.in_ok-grown.ensures.exact edges (sets_of (nodes_then kept explored.nodes.items)) c.args.steps.now
    c.explore_sets.new.steps c.in_ok-explored.ensures.steps)

pub returns-in_err-explored-clause-reads : goal.returns-in_err-explored-clause-reads
returns-in_err-explored-clause-reads g c =
    let names = c.args.names.now in
    let edges = g.A.Adjacent.edges c.args.after.now in
    let lost = parents_of c.args.lost.now in
    let fresh = parents_of c.args.fresh.now in
    let p = err_from_is_err_and c.from_residual-in_err-explored.result c.from_residual-in_err-explored.ensures.1 in
    rw p.1 (λ not_memory. subst (λ (l : List GuideNode). ReadsSome (sets_of l) lost fresh c.args.limit names edges
    c.args.steps.now c.explore_sets.new.steps) c.table-guide.ensures.nodes
    (some-same (sets_of c.table-guide.result.nodes.now) c.in_ok-dirty.dirty lost c.in_ok-dirty.ensures.exact
    c.in_ok-grown.grown fresh c.in_ok-grown.ensures.exact c.args.limit names edges c.args.steps.now
    c.explore_sets.new.steps (c.in_err-explored.ensures.reads (λ is. not_memory (p.2 ∙ is)))))

pub of-requires : goal.of-requires
of-requires g c = c.in_ok-explored.ensures.ascend

pub invariant_of-result : goal.invariant_of-result
invariant_of-result g c =
    let explored = c.in_ok-explored.explored in
    let is = c.in_ok-explored.ensures in
    let kept = c.table-guide.result.nodes.now in
    let names = c.args.names.now in
    let edges = g.A.Adjacent.edges c.args.after.now in
    let nodes = nodes_then kept explored.nodes.items in
    let fit = (fit-counted c.args.limit names edges (sets_of nodes) is.nodes.nodes).0 is.fits in
    record {
      ascend = planned-ascend kept edges explored.nodes.items is.nodes.steps;
      few = omega (
        arith,
        fit.few,
        c.ranges.limit.fits,
        length-map nodes (λ (n : GuideNode). n.set),
        length-map explored.nodes.items (node_then kept),
      );
      empty = c.in_ok-room.ensures.items;
      bare = c.in_ok-by_hash.ensures.items;
      fits = omega (arith, c.in_ok-room.ensures.exact, c.len.ensures, explored.nodes.ok.0);
      hashes_fit = omega (arith, c.in_ok-by_hash.ensures.exact, c.len-2.ensures, explored.nodes.ok.0);
    }
