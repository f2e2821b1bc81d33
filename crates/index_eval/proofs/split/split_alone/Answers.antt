use Rattle.std.proofs.Common.{Option, IfSome, subst}
use Rattle.lorel_bound.specs.Bound.{bound_cond}
use Rattle.index_eval.specs.declared.listing.Listed.{Listed}
use Rattle.index_eval.specs.inside.Listing.{AreObjectsOf}
use Rattle.index_eval.proofs.SplitLaws.{split_alone}
use Rattle.index_eval.proofs.split.split_alone.Goals as goal

pub returns : goal.returns
returns g c =
    let readers = c.args.readers.now in
    let edges = g.G.Adjacent.edges readers.graph.now in
    let objects = g.G.ValueOf.objects readers.graph.now in
    let own = subst (λ (found : Option Listed). IfSome found (AreObjectsOf readers.labels.now edges objects (bound_cond c.args.cond.now))) c.in-Some.is
    c.in_ok-listed.ensures in
    split_alone readers.labels.now edges objects (bound_cond c.args.cond.now) c.in-Some.listed c.new.result.items own c.new.ensures.items
