use Rattle.std.proofs.Common.{◌++◌, List, [], length, map, Contains, refl, ap, ◌∙◌, subst, arith}
use Rattle.std.specs.Result.{OnOk}
use Rattle.std.proofs.lemmas.Result.{on_ok_weaker}
use Rattle.lore_base.specs.Lists.{ExtendsBy}
use Rattle.lore_base.specs.Paths.{path_tree, trees_of, seq, Spells}
use Rattle.lore_base.specs.declared.paths.Path.{Path}
use Rattle.lore_base.specs.TargetSets.{ListsInOrder}
use Rattle.lore_base.proofs.TargetLaws.{ListsInOrder-same}
use Rattle.product_walk.specs.Types.{Oid}
use Rattle.product_walk.specs.ProductWalks.{ReachesInto, WalksInto, reads_in}
use Rattle.product_walk.specs.inside.Arcs.{against, reads_entering}
use Rattle.product_walk.specs.inside.Products.{ReadsTurned, ReadsInto}
use Rattle.product_walk.specs.inside.Ways.{GoesBy, FromSome, IsTurned, TakesTimes}
use Rattle.product_walk.proofs.ArcLaws.{few_entering}
use Rattle.product_walk.proofs.ProductLaws.{lists_same, reads_alike}
use Rattle.product_walk.proofs.WayLaws.{back_by_label, alike_back, fewer_reads}
use Rattle.product_walk.proofs.ways_back.WayBack.reach_back.Goals as goal

pub returns-in-Parent-clause-objects : goal.returns-in-Parent-clause-objects
returns-in-Parent-clause-objects g c =
    let labels = g.T.LabelTest.texts c.args.labels.now in
    let edges = g.K.Links.edges c.args.links.now in
    let path = path_tree c.args.self.now in
    let to = c.args.to.now in
    let pattern = c.in-Parent.pattern.now in
    let leads = GoesBy labels (against edges) pattern in
    let way = subst (IsTurned path) c.in-Parent.is (subst (λ (p : Path). IsTurned (path_tree p) c.self.inside.turned) c.self.view_is c.self.invariant) in
    lists_same c.append_ends_of.result (FromSome leads to) (ReachesInto labels edges path to) c.args.buf.now c.append_ends_of.new.buf
    (back_by_label path pattern way labels edges to)
    (subst (λ (l : List Oid). OnOk c.append_ends_of.result (ExtendsBy (ListsInOrder (FromSome leads l)) c.args.buf.now c.append_ends_of.new.buf)) c.as_slice.ensures c.append_ends_of.ensures.objects)

pub returns-in-Parent-clause-steps : goal.returns-in-Parent-clause-steps
returns-in-Parent-clause-steps g c =
    let edges = g.K.Links.edges c.args.links.now in
    let to = c.args.to.now in
    on_ok_weaker c.append_ends_of.result
    (fewer_reads 1 (reads_entering edges) (reads_in edges) (Contains c.as_slice.result.now) (WalksInto edges to) c.args.steps.now c.append_ends_of.new.steps
    (omega arith) (few_entering edges) (λ oid at. (oid, subst (λ (l : List Oid). Contains l oid) c.as_slice.ensures at, ([], refl))))
    c.append_ends_of.ensures.steps

pub returns-in-Search-clause-objects : goal.returns-in-Search-clause-objects
returns-in-Search-clause-objects g c =
    let labels = g.T.LabelTest.texts c.args.labels.now in
    let edges = g.K.Links.edges c.args.links.now in
    let path = path_tree c.args.self.now in
    let to = c.args.to.now in
    let turned = c.in-Search.turned in
    let way = subst (IsTurned path) c.in-Search.is (subst (λ (p : Path). IsTurned (path_tree p) c.self.inside.turned) c.self.view_is c.self.invariant) in
    lists_same c.turned_back.result (ReadsInto edges (ReadsTurned labels turned) to) (ReachesInto labels edges path to) c.args.buf.now c.turned_back.new.buf
    (reads_alike edges (ReadsTurned labels turned) (Spells labels path) to (way labels)) c.turned_back.ensures.objects

pub returns-in_ok-found-in-InTurn-clause-objects : goal.returns-in_ok-found-in-InTurn-clause-objects
returns-in_ok-found-in-InTurn-clause-objects g c =
    let labels = g.T.LabelTest.texts c.args.labels.now in
    let edges = g.K.Links.edges c.args.links.now in
    let path = path_tree c.args.self.now in
    let turn = seq (trees_of (map path_tree c.in-InTurn.parts.now)) in
    let to = c.args.to.now in
    let found = c.in_ok-found-in-InTurn.found in
    let way = subst (IsTurned path) c.in-InTurn.is (subst (λ (p : Path). IsTurned (path_tree p) c.self.inside.turned) c.self.view_is c.self.invariant) in
    let lists = ListsInOrder-same (ReachesInto labels edges turn to) (ReachesInto labels edges path to) found (alike_back path turn way.0 labels edges to)
    (subst (λ (l : List Oid). ListsInOrder (ReachesInto labels edges turn l) found) c.as_slice-in-InTurn.ensures c.in_ok-found-in-InTurn.ensures.objects) in
    on_ok_weaker c.append.result (λ is. (found, is ∙ ap (λ (l : List Oid). c.args.buf.now ++ l) c.as_slice-in-InTurn-2.ensures, lists)) c.append.ensures.ok

pub returns-in_ok-found-in-InTurn-clause-steps : goal.returns-in_ok-found-in-InTurn-clause-steps
returns-in_ok-found-in-InTurn-clause-steps g c =
    let edges = g.K.Links.edges c.args.links.now in
    let path = path_tree c.args.self.now in
    let to = c.args.to.now in
    let way = subst (IsTurned path) c.in-InTurn.is (subst (λ (p : Path). IsTurned (path_tree p) c.self.inside.turned) c.self.view_is c.self.invariant) in
    let spent = subst (λ (l : List Oid). TakesTimes (length c.in-InTurn.parts.now) (reads_entering edges) (WalksInto edges l) c.args.steps.now c.reaching_in_turn.new.steps)
    c.as_slice-in-InTurn.ensures c.in_ok-found-in-InTurn.ensures.steps in
    on_ok_weaker c.append.result
    (λ is. fewer_reads (length c.in-InTurn.parts.now) (reads_entering edges) (reads_in edges) (WalksInto edges to) (WalksInto edges to) c.args.steps.now c.reaching_in_turn.new.steps
    (omega (arith, way.2)) (few_entering edges) (λ oid into. into) spent)
    c.append.ensures.ok
