use Rattle.std.proofs.Common.{Some, sym, arith}
use Rattle.member_clues.proofs.MadeLaws.{follows_member, few_left}
use Rattle.member_clues.proofs.clues.push_each.Goals as goal

pub members-init : goal.members-init
members-init c = record { few = c.requires.members; added = λ whole follows all. all }

pub push_sides-requires-clause-cond : goal.push_sides-requires-clause-cond
push_sides-requires-clause-cond c =
    omega (arith, few_left c.args.members.now c.members.member-index c.member-item.result c.members-test.true c.member-item.is, c.members.invariant.few)

pub returns-in_err-push_sides : goal.returns-in_err-push_sides
returns-in_err-push_sides c = λ whole follows all. c.push_sides.ensures whole
    (follows_member c.args.labels.now whole (Some c.args.path.now) c.args.members.now c.member-item.result
    (c.members.member-index, c.members-test.true, sym c.member-item.is) follows) (c.members.invariant.added whole follows all)

pub members-preserved : goal.members-preserved
members-preserved c = record {
  few = omega (arith, few_left c.args.members.now c.members.member-index c.member-item.result c.members-test.true c.member-item.is, c.members.invariant.few);
  added = λ whole follows all. c.push_sides.ensures whole
      (follows_member c.args.labels.now whole (Some c.args.path.now) c.args.members.now c.member-item.result
      (c.members.member-index, c.members-test.true, sym c.member-item.is) follows) (c.members.invariant.added whole follows all);
}

pub returns : goal.returns
returns c = c.members.invariant.added
