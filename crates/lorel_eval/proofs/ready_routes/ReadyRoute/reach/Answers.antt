use Rattle.std.proofs.Common.{IfOk, subst}
use Rattle.std.proofs.lemmas.Result.{IfOk-weaker}
use Rattle.lore_base.specs.Paths.{path_tree, Reaches}
use Rattle.lore_base.specs.TargetSets.{ListsInOrder}
use Rattle.lorel_eval.specs.inside.FoundObjects.{oids_of}
use Rattle.lorel_eval.specs.inside.Labelled.{RouteOver}
use Rattle.lorel_eval.proofs.RouteLaws.{along_word}
use Rattle.lorel_eval.proofs.ready_routes.ReadyRoute.reach.Goals as goal

pub returns-in-Some-2 : goal.returns-in-Some-2
returns-in-Some-2 g c =
    let own : RouteOver = record { labels = c.self.inside.labels.now; path = c.self.inside.route } in
    IfOk-weaker c.walked.result _ _
    (λ found. along_word own c.args.self.now (g.A.Adjacent.edges c.args.graph.now) c.self.inside.word c.in-Some.word c.args.from (oids_of found) c.self.view_is
    c.self.invariant c.in-Some.is)
    c.walked.ensures
