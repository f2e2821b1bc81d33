use Rattle.std.proofs.Common.{refl}
use Rattle.std.specs.Vec.{with_item}
use Rattle.set_explorer.proofs.EdgeLaws.{edges-found, edges-sets, edges-put, edges-others}
use Rattle.set_explorer.proofs.found.Found.put_edges.Goals as goal

pub returns-clause-found : goal.returns-clause-found
returns-clause-found c =
    edges-found c.args.kept.now c.args.self.now c.args.place c.requires.place c.index_mut.result.now
    c.index_mut.ensures.value c.args.edges
    (record {
      nodes = with_item c.args.self.now.nodes c.args.place (record
          { origin = c.index_mut.result.now.origin; edges = c.args.edges });
      places = c.args.self.now.places;
      fresh = c.args.self.now.fresh;
      cells = c.args.self.now.cells;
    }) refl refl refl refl c.requires.found

pub returns-clause-sets : goal.returns-clause-sets
returns-clause-sets c =
    edges-sets c.args.kept.now c.args.self.now c.args.place c.requires.place c.index_mut.result.now
    c.index_mut.ensures.value c.args.edges
    (record {
      nodes = with_item c.args.self.now.nodes c.args.place (record
          { origin = c.index_mut.result.now.origin; edges = c.args.edges });
      places = c.args.self.now.places;
      fresh = c.args.self.now.fresh;
      cells = c.args.self.now.cells;
    }) refl

pub returns-clause-edges : goal.returns-clause-edges
returns-clause-edges c =
    edges-put c.args.kept.now c.args.self.now c.args.place c.requires.place c.index_mut.result.now
    c.index_mut.ensures.value c.args.edges
    (record {
      nodes = with_item c.args.self.now.nodes c.args.place (record
          { origin = c.index_mut.result.now.origin; edges = c.args.edges });
      places = c.args.self.now.places;
      fresh = c.args.self.now.fresh;
      cells = c.args.self.now.cells;
    }) refl

pub returns-clause-others : goal.returns-clause-others
returns-clause-others c =
    edges-others c.args.kept.now c.args.self.now c.args.place c.requires.place c.index_mut.result.now
    c.index_mut.ensures.value c.args.edges
    (record {
      nodes = with_item c.args.self.now.nodes c.args.place (record
          { origin = c.index_mut.result.now.origin; edges = c.args.edges });
      places = c.args.self.now.places;
      fresh = c.args.self.now.fresh;
      cells = c.args.self.now.cells;
    }) refl
