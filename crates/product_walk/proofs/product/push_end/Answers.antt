use Rattle.std.proofs.Common.{◌≡◌, sym, subst, refl}
use Rattle.graph_search.specs.Closures.{Lists}
use Rattle.path_expr.specs.Machines.{IsIn}
use Rattle.product_walk.specs.inside.StateSets.{HasState}
use Rattle.product_walk.proofs.ProductLaws.{end_none, end_one}
use Rattle.product_walk.proofs.product.push_end.Goals as goal

pub returns-then-is_empty : goal.returns-then-is_empty
returns-then-is_empty c = end_none c.args.oid c.args.states c.args.out.now.items (c.if-is_empty.ensures.0 refl)

pub returns : goal.returns
returns c =
    subst (Lists HasState (λ there. (there.0 ≡ c.args.oid) × IsIn c.args.states there.1) c.args.out.now.items) (sym c.in_ok-push.ensures.items)
    (end_one c.args.oid c.args.states c.args.out.now.items)
