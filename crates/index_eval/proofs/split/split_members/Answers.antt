use Rattle.std.proofs.Common.{◌≡◌, ◌∷◌, ◌++◌, List, map, IfOk, IfSome, arith, sym, ap, ◌∙◌, subst}
use Rattle.lorel_bound.specs.Bound.{bound_cond, conds_from}
use Rattle.lorel_bound.specs.Conditions.{and}
use Rattle.index_eval.specs.Types.{BoundCond}
use Rattle.index_eval.specs.inside.Listing.{Splits}
use Rattle.index_eval.proofs.SplitLaws.{split_leaves}
use Rattle.index_eval.proofs.split.split_members.Goals as goal

pub split_at_member-requires-clause-before : goal.split_at_member-requires-clause-before
split_at_member-requires-clause-before g c =
    let parts : c.args.members.now ≡ c.split_at.result.0.now ++ c.in-Some.own.now ∷ c.in-Some.behind.now =
    c.split_at.ensures.by_index.0 ∙ ap (λ (l : List BoundCond). c.split_at.result.0.now ++ l) c.in-Some.ensures.cases.0 in
    omega (arith, split_leaves c.args.members.now c.split_at.result.0.now c.in-Some.behind.now c.in-Some.own.now parts, c.requires.few)

pub split_at_member-requires-clause-own : goal.split_at_member-requires-clause-own
split_at_member-requires-clause-own g c =
    let parts : c.args.members.now ≡ c.split_at.result.0.now ++ c.in-Some.own.now ∷ c.in-Some.behind.now =
    c.split_at.ensures.by_index.0 ∙ ap (λ (l : List BoundCond). c.split_at.result.0.now ++ l) c.in-Some.ensures.cases.0 in
    omega (arith, split_leaves c.args.members.now c.split_at.result.0.now c.in-Some.behind.now c.in-Some.own.now parts, c.requires.few)

pub split_at_member-requires-clause-behind : goal.split_at_member-requires-clause-behind
split_at_member-requires-clause-behind g c =
    let parts : c.args.members.now ≡ c.split_at.result.0.now ++ c.in-Some.own.now ∷ c.in-Some.behind.now =
    c.split_at.ensures.by_index.0 ∙ ap (λ (l : List BoundCond). c.split_at.result.0.now ++ l) c.in-Some.ensures.cases.0 in
    omega (arith, split_leaves c.args.members.now c.split_at.result.0.now c.in-Some.behind.now c.in-Some.own.now parts, c.requires.few)

pub returns-in-Some : goal.returns-in-Some
returns-in-Some g c =
    let readers = c.args.readers.now in
    let edges = g.G.Adjacent.edges readers.graph.now in
    let objects = g.G.ValueOf.objects readers.graph.now in
    let parts : c.args.members.now ≡ c.split_at.result.0.now ++ c.in-Some.own.now ∷ c.in-Some.behind.now =
    c.split_at.ensures.by_index.0 ∙ ap (λ (l : List BoundCond). c.split_at.result.0.now ++ l) c.in-Some.ensures.cases.0 in
    subst (λ (l : List BoundCond). IfOk c.split_at_member.result (λ found. IfSome found (λ split.
    Splits readers.labels.now edges objects (and (conds_from (map bound_cond l))) split.listed split.others.items))) (sym parts) c.split_at_member.ensures
