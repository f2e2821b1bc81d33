use Rattle.least_words.specs.inside.Arcs.{LeadsBy}
use Rattle.least_words.proofs.ArcLaws.{AreArcsFrom-sorted}
use Rattle.least_words.proofs.search.find_arcs.Goals as goal

pub returns-clause-exact : goal.returns-clause-exact
returns-clause-exact g c =
    let leads = LeadsBy c.args.mover.now.labels c.args.mover.now.machine (g.A.Adjacent.edges c.args.graph.now) in
    AreArcsFrom-sorted leads c.args.places.now c.clear.new.self.items c.push_all.new.arcs.items c.sort_arcs.new.arcs.items
    c.clear.ensures.items c.in_ok-push_all.ensures.arcs c.sort_arcs.ensures.same
