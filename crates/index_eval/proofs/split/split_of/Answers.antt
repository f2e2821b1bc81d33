use Rattle.std.proofs.Common.{◌≡◌, ◌≤◌, List, map, IfOk, IfSome, sym, ap, ◌∙◌, subst}
use Rattle.lorel_bound.specs.Bound.{BoundPathTree, bound_cond, conds_from}
use Rattle.lorel_bound.specs.Conditions.{CondOf, and, paths_of}
use Rattle.lorel_eval.specs.Tests.{rest_leaves}
use Rattle.index_eval.specs.Types.{LEAVES}
use Rattle.index_eval.specs.inside.Listing.{Splits}
use Rattle.member_clues.proofs.MadeLaws.{and_cond}
use Rattle.index_eval.proofs.split.split_of.Goals as goal

pub split_members-requires-clause-few : goal.split_members-requires-clause-few
split_members-requires-clause-few g c =
    let whole : and (conds_from (map bound_cond c.as_slice.result.now)) ≡ bound_cond c.args.cond.now =
    ap (λ (l : List (CondOf BoundPathTree)). and (conds_from l)) c.as_slice.ensures.trees ∙ sym (and_cond c.args.cond.now c.in-And.members c.in-And.is) in
    subst (λ (w : CondOf BoundPathTree). rest_leaves (paths_of w) ≤ LEAVES) (sym whole) c.requires.few

pub returns-in-And : goal.returns-in-And
returns-in-And g c =
    let readers = c.args.readers.now in
    let edges = g.G.Adjacent.edges readers.graph.now in
    let objects = g.G.ValueOf.objects readers.graph.now in
    let whole : and (conds_from (map bound_cond c.as_slice.result.now)) ≡ bound_cond c.args.cond.now =
    ap (λ (l : List (CondOf BoundPathTree)). and (conds_from l)) c.as_slice.ensures.trees ∙ sym (and_cond c.args.cond.now c.in-And.members c.in-And.is) in
    subst (λ (w : CondOf BoundPathTree). IfOk c.split_members.result (λ found. IfSome found (λ split.
    Splits readers.labels.now edges objects w split.listed split.others.items))) whole c.split_members.ensures
