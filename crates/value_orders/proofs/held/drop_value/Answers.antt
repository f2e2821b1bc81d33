use Rattle.value_orders.proofs.DropLaws.{less-found, less-absent}
use Rattle.value_orders.proofs.held.drop_value.Goals as goal

pub returns-in-Ok-clause-values : goal.returns-in-Ok-clause-values
returns-in-Ok-clause-values c =
    less-found _ _ _ c.args.oid _ c.as_slice.ensures.value c.requires c.in-Ok.ensures.bound c.in-Ok.ensures.position c.remove-gone.ensures.by_index.2

pub returns-in-Err-clause-values : goal.returns-in-Err-clause-values
returns-in-Err-clause-values c = less-absent _ _ c.args.oid _ c.as_slice.ensures.value c.requires c.in-Err.ensures.position
