use Rattle.set_explorer.proofs.LossLaws.{steps-of_members}
use Rattle.set_explorer.proofs.losses.steps_in.Goals as goal

pub returns : goal.returns
returns c =
    steps-of_members c.args.listed.now c.args.set.now c.args.parents.now c.in_ok-members.members c.requires.parents
    c.in_ok-members.ensures.exact c.in_ok-row.row.items c.in_ok-row.ensures
