use Rattle.std.proofs.Common.{Option, Some, IfSome, sym, subst}
use Rattle.lorel_bound.specs.Bound.{bound_cond, bound_path}
use Rattle.lorel_bound.specs.Conditions.{at, compare}
use Rattle.slot_joins.specs.Types.{Eq}
use Rattle.slot_joins.specs.declared.joins.Join.{Join}
use Rattle.slot_joins.specs.inside.Joins.{IsJoinIn}
use Rattle.slot_joins.proofs.JoinLaws.{adds_one, adds_same}
use Rattle.slot_joins.proofs.members.push_join.Goals as goal

pub returns : goal.returns
returns g c =
    let indexed = c.args.indexed.now in
    let labels = indexed.labels.now in
    let edges = g.G.Adjacent.edges indexed.graph.now in
    let objects = g.G.ValueOf.objects indexed.graph.now in
    let asked = compare (at (bound_path c.in-Some.left.now)) Eq (at (bound_path c.in-Some.right.now)) in
    let join = subst (λ (found : Option Join). IfSome found (IsJoinIn labels edges objects (Some asked))) c.in-Some-2.is c.in_ok-join.ensures in
    adds_same labels edges objects asked (bound_cond c.args.cond.now) c.args.joins.now.items c.push.new.self.items (sym c.in-Some.ensures)
    (adds_one labels edges objects asked c.in-Some-2.join c.args.joins.now.items c.push.new.self.items join c.in_ok-push.ensures.items)
