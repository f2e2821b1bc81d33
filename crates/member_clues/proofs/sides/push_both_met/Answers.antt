use Rattle.std.specs.Option.{option_copied}
use Rattle.lorel_bound.specs.Bound.{bound_path}
use Rattle.member_clues.proofs.MadeLaws.{follows_met}
use Rattle.member_clues.proofs.sides.push_both_met.Goals as goal

pub returns-in_err-push_met : goal.returns-in_err-push_met
returns-in_err-push_met c = c.push_met.ensures

pub returns : goal.returns
returns c = λ labels whole follows all. c.push_met-2.ensures labels whole
    (follows_met labels whole (option_copied c.args.through) (bound_path c.args.left.now) (bound_path c.args.right.now) follows) (c.push_met.ensures labels whole follows all)
