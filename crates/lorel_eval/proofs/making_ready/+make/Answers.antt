use Rattle.lorel_eval.proofs.MakingLaws.{or_made, and_made}
use Rattle.lorel_eval.proofs.making_ready.+make.Goals as goal

pub ready_cond-returns-in_ok-ready_conds-in-Or : goal.ready_cond-returns-in_ok-ready_conds-in-Or
ready_cond-returns-in_ok-ready_conds-in-Or t c =
    or_made c.args.labels.now c.args.cond.now c.in-Or.members c.in_ok-ready_conds-in-Or.field-0 c.in-Or.is c.in_ok-ready_conds-in-Or.ensures

pub ready_cond-returns-in_ok-ready_conds-in-And : goal.ready_cond-returns-in_ok-ready_conds-in-And
ready_cond-returns-in_ok-ready_conds-in-And t c =
    and_made c.args.labels.now c.args.cond.now c.in-And.members c.in_ok-ready_conds-in-And.field-0 c.in-And.is c.in_ok-ready_conds-in-And.ensures
