use Rattle.std.proofs.Common.{sym, ap, ◌∙◌}
use Rattle.value_orders.specs.Kinds.{number_in}
use Rattle.value_orders.proofs.ReadingLaws.{number_found}
use Rattle.value_orders.proofs.keys.number_of.Goals as goal

pub returns-in-Chars : goal.returns-in-Chars
returns-in-Chars c = number_found _ _ c.as_whole.ensures.some c.as_whole.ensures.none ∙ ap number_in (sym c.in-Chars.is)
