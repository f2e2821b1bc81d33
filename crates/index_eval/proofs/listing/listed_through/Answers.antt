use Rattle.std.proofs.Common.{arith, ap}
use Rattle.lorel_bound.specs.Bound.{BoundPathTree, bound_path}
use Rattle.lorel_bound.specs.Conditions.{CondOf, exists}
use Rattle.lorel_bound.proofs.BoundLaws.{compare_cond}
use Rattle.member_clues.proofs.MadeLaws.{few_sides}
use Rattle.index_eval.proofs.ListedLaws.{found_of}
use Rattle.index_eval.proofs.listing.listed_through.Goals as goal

pub listed_inside-requires-clause-few : goal.listed_inside-requires-clause-few
listed_inside-requires-clause-few g c =
    omega (arith, few_sides c.args.body.now c.in-Compare.left c.in-Compare.op c.in-Compare.right c.in-Compare.is, c.requires.body)

pub returns-in-Compare : goal.returns-in-Compare
returns-in-Compare g c =
    let readers = c.args.readers.now in
    let edges = g.G.Adjacent.edges readers.graph.now in
    let objects = g.G.ValueOf.objects readers.graph.now in
    found_of readers.labels.now edges objects _ _ c.listed_inside.result
    (ap (λ (w : CondOf BoundPathTree). exists (bound_path c.args.path.now) w)
    (compare_cond c.args.body.now c.in-Compare.left c.in-Compare.op c.in-Compare.right c.in-Compare.is)) c.listed_inside.ensures
