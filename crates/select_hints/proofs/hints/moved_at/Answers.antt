use Rattle.std.proofs.Common.{map}
use Rattle.std.proofs.lemmas.Result.{IfOk-weaker}
use Rattle.lorel_bound.specs.Bound.{range_tree, bound_cond, bound_conds}
use Rattle.select_hints.proofs.MoveLaws.{member_there, moved_of}
use Rattle.select_hints.proofs.hints.moved_at.Goals as goal

pub returns-in-Some : goal.returns-in-Some
returns-in-Some c =
    let there = member_there c.as_slice.result.now (bound_conds c.args.members.now) c.args.place c.in-Some.member.now c.in-Some.ensures.lookup.3
    c.as_slice.ensures.trees in
    IfOk-weaker c.moved.result _ _ (λ found h.
    moved_of (map range_tree c.args.ranges.now) (bound_conds c.args.members.now) (bound_cond c.in-Some.member.now) found there h) c.moved.ensures
