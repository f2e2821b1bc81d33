use Rattle.std.proofs.Common.{arith}
use Rattle.lorel_bound.proofs.BoundLaws.{exists_cond, compare_cond}
use Rattle.member_clues.proofs.MadeLaws.{same_cond, few_sides, few_met, few_through}
use Rattle.index_eval.proofs.ListedLaws.{found_of}
use Rattle.index_eval.proofs.listing.listed_of.Goals as goal

pub listed_compared-requires-clause-few : goal.listed_compared-requires-clause-few
listed_compared-requires-clause-few g c =
    omega (arith, few_sides c.args.cond.now c.in-Compare.left c.in-Compare.op c.in-Compare.right c.in-Compare.is, c.requires.few)

pub returns-in-Compare : goal.returns-in-Compare
returns-in-Compare g c =
    let readers = c.args.readers.now in
    let edges = g.G.Adjacent.edges readers.graph.now in
    let objects = g.G.ValueOf.objects readers.graph.now in
    found_of readers.labels.now edges objects _ _ c.listed_compared.result
    (compare_cond c.args.cond.now c.in-Compare.left c.in-Compare.op c.in-Compare.right c.in-Compare.is) c.listed_compared.ensures

pub listed_through-requires-clause-path : goal.listed_through-requires-clause-path
listed_through-requires-clause-path g c =
    omega (arith, few_through c.args.cond.now c.deref.result.now c.in-Exists.path c.in-Exists.body c.in-Exists.is c.deref.ensures, c.requires.few)

pub listed_through-requires-clause-body : goal.listed_through-requires-clause-body
listed_through-requires-clause-body g c =
    omega (arith, few_through c.args.cond.now c.deref.result.now c.in-Exists.path c.in-Exists.body c.in-Exists.is c.deref.ensures, c.requires.few)

pub returns-in-Exists : goal.returns-in-Exists
returns-in-Exists g c =
    let readers = c.args.readers.now in
    let edges = g.G.Adjacent.edges readers.graph.now in
    let objects = g.G.ValueOf.objects readers.graph.now in
    found_of readers.labels.now edges objects _ _ c.listed_through.result
    (exists_cond c.args.cond.now c.deref.result.now c.in-Exists.path c.in-Exists.body c.in-Exists.is c.deref.ensures) c.listed_through.ensures

pub listed_met-requires-clause-left : goal.listed_met-requires-clause-left
listed_met-requires-clause-left g c = omega (arith, few_met c.args.cond.now c.in-Same.left c.in-Same.right c.in-Same.is, c.requires.few)

pub listed_met-requires-clause-right : goal.listed_met-requires-clause-right
listed_met-requires-clause-right g c = omega (arith, few_met c.args.cond.now c.in-Same.left c.in-Same.right c.in-Same.is, c.requires.few)

pub returns-in-Same : goal.returns-in-Same
returns-in-Same g c =
    let readers = c.args.readers.now in
    let edges = g.G.Adjacent.edges readers.graph.now in
    let objects = g.G.ValueOf.objects readers.graph.now in
    found_of readers.labels.now edges objects _ _ c.listed_met.result
    (same_cond c.args.cond.now c.in-Same.left c.in-Same.right c.in-Same.is) c.listed_met.ensures
