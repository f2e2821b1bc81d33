use Rattle.std.proofs.Common.{◌∙◌, List, map, refl, sym, subst, true≢false}
use Rattle.std.proofs.lemmas.List.{drop_all}
use Rattle.lorel_bound.specs.declared.bound.Range.{Range}
use Rattle.lorel_bound.specs.Bound.{range_tree}
use Rattle.lorel_bound.specs.Plans.{FollowOn}
use Rattle.planner.proofs.ProbeLaws.{follow_more}
use Rattle.planner.proofs.beginnings.follow_on.Goals as goal

pub ranges-2-init : goal.ranges-2-init
ranges-2-init c = (λ all. all, λ all. all)

pub returns-then-not-starts_at : goal.returns-then-not-starts_at
returns-then-not-starts_at c = (
  λ no. absurd (true≢false (sym no)),
  λ all.
      let more = (follow_more c.args.ranges.now c.ranges-2.slot c.index-ranges-slot.result c.ranges-2-test.true c.index-ranges-slot.is).0 (c.ranges-2.invariant.1 all) in
      sym c.if-not-starts_at.true ∙ c.starts_at.ensures.1 more.0,
)

pub ranges-2-preserved : goal.ranges-2-preserved
ranges-2-preserved c =
    let more = follow_more c.args.ranges.now c.ranges-2.slot c.index-ranges-slot.result c.ranges-2-test.true c.index-ranges-slot.is in
    let is = c.starts_at.ensures.0 c.if-not-starts_at.false in
    (λ later. c.ranges-2.invariant.0 (more.1 (is, later)), λ all. (more.0 (c.ranges-2.invariant.1 all)).1)

pub returns : goal.returns
returns c = (
  λ yes. c.ranges-2.invariant.0
      (subst (λ (left : List Range). FollowOn c.ranges-2.slot (map range_tree left)) (sym (drop_all c.ranges-2.slot c.args.ranges.now c.ranges-2-test.false)) tt),
  λ all. refl,
)
