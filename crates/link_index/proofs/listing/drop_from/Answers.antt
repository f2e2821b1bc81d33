use Rattle.std.proofs.Common.{◌<◌, ◌≤◌, Vec, Global, length, sym, ap, ◌∙◌, subst, arith}
use Rattle.link_index.specs.declared.heads.Head.{Head}
use Rattle.link_index.specs.inside.Heads.{SameHeads}
use Rattle.link_index.specs.inside.Records.{AreAscendingHeads}
use Rattle.link_index.proofs.HeadLaws.{first_none}
use Rattle.link_index.proofs.DropLaws.{moved_none, moved_stays, moved_goes, moved_all}
use Rattle.link_index.proofs.listing.drop_from.Goals as goal
use Rattle.link_index.proofs.listing.drop_from.Goals.{then-is_some, else-is_some}

pub heads-init : goal.heads-init
heads-init c = moved_none c.args.heads.now.items c.args.first c.requires.within c.requires.ascend

pub heads-preserved : goal.heads-preserved
heads-preserved c =
    let lt : c.heads.place < length c.heads.heads.items = omega (arith, c.heads-test.true) in
    elim c.if-is_some.branch [
      | then-is_some w ↦ moved_stays c.args.heads.now.items c.heads.heads.items c.if-is_some.heads.items c.heads.end c.heads.place c.if-is_some.end c.index.result.now
          c.heads.invariant lt c.index.ensures (ap (λ (v : Vec Head Global). v.items) w.heads-is) w.end-is
      | else-is_some w ↦ moved_goes c.args.heads.now.items c.heads.heads.items c.if-is_some.heads.items c.heads.end c.heads.place c.if-is_some.end c.index.result.now
          c.heads.invariant lt c.index.ensures (first_none c.index.result.now.first (sym c.is_some.ensures ∙ w.if-is_some.false))
          (ap (λ (v : Vec Head Global). v.items) w.heads-is) w.end-is
    ]

pub returns-clause-ascend : goal.returns-clause-ascend
returns-clause-ascend c =
    let past : length c.heads.heads.items ≤ c.heads.place = omega (arith, c.heads-test.false) in
    subst AreAscendingHeads (sym c.truncate.ensures.items) (moved_all c.args.heads.now.items c.heads.heads.items c.heads.end c.heads.place c.heads.invariant past).0

pub returns-clause-same : goal.returns-clause-same
returns-clause-same c =
    let past : length c.heads.heads.items ≤ c.heads.place = omega (arith, c.heads-test.false) in
    subst (SameHeads c.args.heads.now.items) (sym c.truncate.ensures.items)
    (moved_all c.args.heads.now.items c.heads.heads.items c.heads.end c.heads.place c.heads.invariant past).1
