use Rattle.std.proofs.Common.{◌≡◌, ◌≤◌, ◌++◌, List, length, Some, ap, sym, ◌∙◌, arith}
use Rattle.std.specs.List.{slice_get}
use Rattle.lore_base.specs.Walks.{out_of}
use Rattle.statements.specs.Types.{Edge}
use Rattle.statements.proofs.AllEdgesLaws.{oids_of, leaving-more, leaving-whole}
use Rattle.statements.proofs.dumps.all_edges.Goals as goal

-- src/dumps.rt:76:5
pub objects-init : goal.objects-init
objects-init g c = c.in_ok-edges.ensures

-- src/dumps.rt:76:5
pub objects-preserved : goal.objects-preserved
objects-preserved g c =
    let graph = c.args.graph.now.graph in
    let there : slice_get (oids_of graph.objects) c.objects.place ≡ Some c.in-Some.oid = sym c.in-Some.ensures in
    c.in_ok-out_edges.ensures.edges
    ∙ ap (λ (l : List Edge). l ++ out_of c.in-Some.oid graph.edges) c.objects.invariant
    ∙ sym (leaving-more graph.edges (oids_of graph.objects) c.objects.place c.in-Some.oid there)

-- src/dumps.rt:67:1
pub returns : goal.returns
returns g c =
    let all : length c.args.graph.now.graph.objects ≤ c.objects.place =
    omega (arith, c.objects-place-end.ensures.count, c.objects-test.false) in
    leaving-whole c.args.graph.now.graph c.objects.place c.objects.edges c.requires all c.objects.invariant
