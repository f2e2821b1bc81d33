use Rattle.std.proofs.Common.{◌≡◌, List, length, map, sym, ap, subst, ◌∙◌, arith}
use Rattle.std.proofs.lemmas.List.{length-map}
use Rattle.std.specs.Prelude.{◌↔◌, Contains, IfOk}
use Rattle.lore_base.specs.Databases.{OemGraph}
use Rattle.one_index.specs.Blocks.{NamedGraph, named_graph_of, IsSound, AreBlocksOf}
use Rattle.statements.specs.Types.{Edge}
use Rattle.statements.specs.Blocks.{named_graph}
use Rattle.statements.proofs.BlockLaws.{sound_graph}
use Rattle.lore_db.proofs.blocking.built.Goals as goal

pub build-requires-clause-sound : goal.build-requires-clause-sound
build-requires-clause-sound g c =
    let db = c.args.store.now.db in
    let drawn = c.graph-graph.ensures.graph in
    let names = c.names.ensures ∙ ap (λ (graph : OemGraph). graph.names) drawn in
    let objects = c.in_ok-objects.ensures ∙ ap (λ (graph : OemGraph). map (λ object. object.0) graph.objects) drawn in
    let edges = ap (λ (graph : OemGraph). graph.edges) drawn in
    let same : named_graph db ≡ named_graph_of c.names.result.now c.in_ok-objects.objects c.graph-graph.result.now.graph.edges =
    λ i. named_graph_of (sym names i) (sym objects i) (sym edges i) in
    subst IsSound same (sound_graph db c.graph-graph.ensures.valid)

pub build-requires-clause-same : goal.build-requires-clause-same
build-requires-clause-same g c edge =
    let db = c.args.store.now.db in
    let edges = ap (λ (graph : OemGraph). graph.edges) c.graph-graph.ensures.graph in
    subst (λ (all : List Edge). Contains c.links.result.now.links edge ↔ Contains all edge) (sym edges) (c.links.ensures.exact edge)

pub build-requires-clause-few : goal.build-requires-clause-few
build-requires-clause-few g c =
    let db = c.args.store.now.db in
    let drawn = c.graph-graph.ensures.graph in
    let objects = ap length (c.in_ok-objects.ensures ∙ ap (λ (graph : OemGraph). map (λ object. object.0) graph.objects) drawn) in
    omega (arith, objects, length-map db.graph.objects (λ object. object.0), c.graph-graph.ensures.valid.restorable.few_objects)

pub returns : goal.returns
returns g c =
    let db = c.args.store.now.db in
    let drawn = c.graph-graph.ensures.graph in
    let names = c.names.ensures ∙ ap (λ (graph : OemGraph). graph.names) drawn in
    let objects = c.in_ok-objects.ensures ∙ ap (λ (graph : OemGraph). map (λ object. object.0) graph.objects) drawn in
    let edges = ap (λ (graph : OemGraph). graph.edges) drawn in
    let same : named_graph_of c.names.result.now c.in_ok-objects.objects c.graph-graph.result.now.graph.edges ≡ named_graph db =
    λ i. named_graph_of (names i) (objects i) (edges i) in
    subst (λ (graph : NamedGraph). IfOk c.build.result (AreBlocksOf graph)) same c.build.ensures.blocks
