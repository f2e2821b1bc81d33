use Rattle.std.proofs.Common.{Option, IfOk, IfSome, option_map, sym, ap, subst}
use Rattle.std.specs.Option.{option_copied}
use Rattle.lorel_bound.specs.Bound.{BoundPathTree, bound_cond}
use Rattle.lorel_bound.specs.Conditions.{CondOf}
use Rattle.index_eval.specs.inside.Listing.{SplitsIn}
use Rattle.index_eval.proofs.split.split_in.Goals as goal

pub returns-in-Some : goal.returns-in-Some
returns-in-Some g c =
    let readers = c.args.readers.now in
    let edges = g.G.Adjacent.edges readers.graph.now in
    let objects = g.G.ValueOf.objects readers.graph.now in
    subst (λ (o : Option (CondOf BoundPathTree)). IfOk c.split_of.result (λ found. IfSome found (λ split.
    SplitsIn readers.labels.now edges objects o split.listed split.others.items)))
    (sym (ap (option_map bound_cond) (ap option_copied c.in-Some.is))) c.split_of.ensures
