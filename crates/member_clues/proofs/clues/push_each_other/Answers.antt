use Rattle.std.proofs.Common.{None, sym, arith}
use Rattle.member_clues.proofs.MadeLaws.{follows_member, few_left}
use Rattle.member_clues.proofs.clues.push_each_other.Goals as goal

pub members-init : goal.members-init
members-init c = record { few = c.requires; added = λ whole follows all. all }

pub push_other-requires : goal.push_other-requires
push_other-requires c =
    omega (arith, few_left c.args.members.now c.members.member-index c.member-item.result c.members-test.true c.member-item.is, c.members.invariant.few)

pub returns-in_err-push_other : goal.returns-in_err-push_other
returns-in_err-push_other c = λ whole follows all. c.push_other.ensures whole
    (follows_member c.args.labels.now whole None c.args.members.now c.member-item.result
    (c.members.member-index, c.members-test.true, sym c.member-item.is) follows) (c.members.invariant.added whole follows all)

pub members-preserved : goal.members-preserved
members-preserved c = record {
  few = omega (arith, few_left c.args.members.now c.members.member-index c.member-item.result c.members-test.true c.member-item.is, c.members.invariant.few);
  added = λ whole follows all. c.push_other.ensures whole
      (follows_member c.args.labels.now whole None c.args.members.now c.member-item.result
      (c.members.member-index, c.members-test.true, sym c.member-item.is) follows) (c.members.invariant.added whole follows all);
}

pub returns : goal.returns
returns c = c.members.invariant.added
