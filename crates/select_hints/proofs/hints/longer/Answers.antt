use Rattle.lorel_bound.specs.Bound.{bound_conds}
use Rattle.select_hints.proofs.hints.longer.Goals as goal

pub returns : goal.returns
returns c = record {
  members = bound_conds c.in_ok-members.members;
  own = c.in_ok-members.ensures;
  list = bound_conds c.extend.new.members;
  is = c.all_of.ensures;
  extends = c.in_ok-extend.ensures;
}
