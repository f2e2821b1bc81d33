use Rattle.std.proofs.Common.{Option, IfSome, option_map, ap, subst}
use Rattle.std.specs.Option.{option_copied}
use Rattle.lorel_bound.specs.Bound.{BoundPathTree, bound_cond}
use Rattle.lorel_bound.specs.Conditions.{CondOf}
use Rattle.lorel_bound.specs.Plans.{steps_of}
use Rattle.lorel_bound.specs.SlotRows.{HoldsOver}
use Rattle.select_rows.specs.inside.Reads.{ReadsSome}
use Rattle.select_rows.proofs.row_tests.joined_over.Goals as goal

pub joined-requires-clause-indexes : goal.joined-requires-clause-indexes
joined-requires-clause-indexes g c = c.requires.indexed c.if-not-view.false

pub joined-requires-clause-passes : goal.joined-requires-clause-passes
joined-requires-clause-passes g c = λ row passes.
    let view = c.args.view.now in
    subst (λ (o : Option (CondOf BoundPathTree)). HoldsOver view.labels.now (g.G.Adjacent.edges view.graph.now) (g.G.ValueOf.objects view.graph.now) row o)
    (ap (option_map bound_cond) (ap option_copied c.in-Some.is)) (c.requires.passes row passes)

pub returns-clause-quiet : goal.returns-clause-quiet
returns-clause-quiet g c = λ none.
    let some : ReadsSome (g.V.Values.entries c.args.view.now.values.now) (steps_of c.args.plan.now) =
    subst (λ found. IfSome found (λ joining. ReadsSome (g.V.Values.entries c.args.view.now.values.now) (steps_of c.args.plan.now)))
    c.in-Some-2.is c.in_ok-joining.ensures in
    absurd (none some)
