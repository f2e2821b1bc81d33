use Rattle.std.proofs.Common.{[], length, map, refl, subst, arith}
use Rattle.std.proofs.lemmas.Result.{on_ok_weaker}
use Rattle.lore_base.specs.Paths.{path_tree, trees_of, seq, Reaches}
use Rattle.lore_base.specs.declared.paths.Path.{Path}
use Rattle.product_walk.specs.ProductWalks.{IsWalked, IsAcceptedFrom, reads_out}
use Rattle.product_walk.specs.inside.Arcs.{along}
use Rattle.product_walk.specs.inside.Ways.{GoesBy, IsWay}
use Rattle.product_walk.proofs.PathLaws.{accepted_reaches}
use Rattle.product_walk.proofs.ProductLaws.{lists_same}
use Rattle.product_walk.proofs.WayLaws.{alike_reaches, by_label, one_read, few_reads}
use Rattle.product_walk.proofs.routes.Route.reach.Goals as goal

pub returns-in-Child-clause-objects : goal.returns-in-Child-clause-objects
returns-in-Child-clause-objects g c =
    let labels = g.T.LabelTest.texts c.args.labels.now in
    let edges = g.A.Adjacent.edges c.args.graph.now in
    let path = path_tree c.args.self.now in
    let way = subst (IsWay path) c.in-Child.is (subst (λ (p : Path). IsWay (path_tree p) c.self.inside.way) c.self.view_is c.self.invariant) in
    lists_same c.append_ends.result (GoesBy labels (along edges) c.in-Child.pattern.now c.args.from) (Reaches labels edges path c.args.from) c.args.buf.now c.append_ends.new.buf
    (by_label path c.in-Child.pattern.now way labels edges c.args.from) c.append_ends.ensures.objects

pub returns-in-Child-clause-steps : goal.returns-in-Child-clause-steps
returns-in-Child-clause-steps g c =
    let edges = g.A.Adjacent.edges c.args.graph.now in
    on_ok_weaker c.append_ends.result
    (one_read (reads_out edges) (IsWalked edges c.args.from) c.args.from c.args.steps.now c.append_ends.new.steps ([], refl)) c.append_ends.ensures.steps

pub reach_in_turn-requires-clause-labels : goal.reach_in_turn-requires-clause-labels
reach_in_turn-requires-clause-labels g c =
    let path = path_tree c.args.self.now in
    let way = subst (IsWay path) c.in-InTurn.is (subst (λ (p : Path). IsWay (path_tree p) c.self.inside.way) c.self.view_is c.self.invariant) in
    way.1

pub reach_in_turn-requires-clause-two : goal.reach_in_turn-requires-clause-two
reach_in_turn-requires-clause-two g c =
    let path = path_tree c.args.self.now in
    let way = subst (IsWay path) c.in-InTurn.is (subst (λ (p : Path). IsWay (path_tree p) c.self.inside.way) c.self.view_is c.self.invariant) in
    way.2

pub returns-in-InTurn-clause-objects : goal.returns-in-InTurn-clause-objects
returns-in-InTurn-clause-objects g c =
    let labels = g.T.LabelTest.texts c.args.labels.now in
    let edges = g.A.Adjacent.edges c.args.graph.now in
    let path = path_tree c.args.self.now in
    let turn = seq (trees_of (map path_tree c.in-InTurn.parts.now)) in
    let way = subst (IsWay path) c.in-InTurn.is (subst (λ (p : Path). IsWay (path_tree p) c.self.inside.way) c.self.view_is c.self.invariant) in
    lists_same c.reach_in_turn.result (Reaches labels edges turn c.args.from) (Reaches labels edges path c.args.from) c.args.buf.now c.reach_in_turn.new.buf
    (alike_reaches path turn way.0 labels edges c.args.from) c.reach_in_turn.ensures.objects

pub returns-in-InTurn-clause-steps : goal.returns-in-InTurn-clause-steps
returns-in-InTurn-clause-steps g c =
    let edges = g.A.Adjacent.edges c.args.graph.now in
    let path = path_tree c.args.self.now in
    let way = subst (IsWay path) c.in-InTurn.is (subst (λ (p : Path). IsWay (path_tree p) c.self.inside.way) c.self.view_is c.self.invariant) in
    on_ok_weaker c.reach_in_turn.result
    (few_reads (length c.in-InTurn.parts.now) (reads_out edges) (IsWalked edges c.args.from) c.args.steps.now c.reach_in_turn.new.steps (omega (arith, way.3)))
    c.reach_in_turn.ensures.steps

pub returns-clause-objects : goal.returns-clause-objects
returns-clause-objects g c =
    let labels = g.T.LabelTest.texts c.args.labels.now in
    let edges = g.A.Adjacent.edges c.args.graph.now in
    let path = path_tree c.args.self.now in
    let machine = c.in-Search.automaton in
    let way = subst (IsWay path) c.in-Search.is (subst (λ (p : Path). IsWay (path_tree p) c.self.inside.way) c.self.view_is c.self.invariant) in
    lists_same c.forward.result (IsAcceptedFrom labels edges machine c.args.from) (Reaches labels edges path c.args.from) c.args.buf.now c.forward.new.buf
    (accepted_reaches labels edges machine path way c.args.from) c.forward.ensures.objects
