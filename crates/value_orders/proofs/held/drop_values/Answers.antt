use Rattle.std.proofs.Common.{not, rules}
use Rattle.std.proofs.lemmas.Fn.{filter_same}
use Rattle.value_orders.specs.Held.{has_value}
use Rattle.value_orders.proofs.held.drop_values.Goals as goal

pub returns-else-leaving-le-FEW-clause-values : goal.returns-else-leaving-le-FEW-clause-values
returns-else-leaving-le-FEW-clause-values c =
    filter_same _ (λ object. not (has_value c.args.leaving.now object.0)) _ (λ x b q k. search rules) _ _ c.retain.ensures.filtered
