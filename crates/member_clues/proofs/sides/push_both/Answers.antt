use Rattle.std.specs.Option.{option_copied}
use Rattle.lorel_bound.specs.Bound.{bound_operand}
use Rattle.member_clues.proofs.MadeLaws.{follows_turned}
use Rattle.member_clues.proofs.sides.push_both.Goals as goal

pub returns-then-not-is_probed : goal.returns-then-not-is_probed
returns-then-not-is_probed c = λ whole follows all. all

pub push_clue-requires-clause-probed : goal.push_clue-requires-clause-probed
push_clue-requires-clause-probed c = c.is_probed.ensures c.if-not-is_probed.false

pub turned-requires : goal.turned-requires
turned-requires c = c.is_probed.ensures c.if-not-is_probed.false

pub push_clue-requires-2-clause-probed : goal.push_clue-requires-2-clause-probed
push_clue-requires-2-clause-probed c = c.turned.ensures.probed

pub returns-in_err-push_clue : goal.returns-in_err-push_clue
returns-in_err-push_clue c = c.push_clue.ensures

pub returns : goal.returns
returns c = λ whole follows all. c.push_clue-2.ensures whole
    (follows_turned c.args.labels.now whole (option_copied c.args.through) (bound_operand c.args.left.now) (bound_operand c.args.right.now) c.args.op c.turned.result c.turned.ensures.turned follows)
    (c.push_clue.ensures whole follows all)
