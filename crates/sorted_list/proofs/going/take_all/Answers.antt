use Rattle.std.proofs.Common.{not, rules}
use Rattle.std.proofs.lemmas.Fn.{filter_same}
use Rattle.sorted_list.specs.inside.Listed.{is_listed}
use Rattle.sorted_list.proofs.going.take_all.Goals as goal

pub returns-clause-staying : goal.returns-clause-staying
returns-clause-staying g c =
    filter_same _ (λ item. not (is_listed (g.P.Order.order_of c.args.listed.now) c.args.gone.now item)) _ (λ x b q k. search rules) _ _ c.retain.ensures.filtered
