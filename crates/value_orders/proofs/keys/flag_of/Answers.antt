use Rattle.std.proofs.Common.{sym, ap, ◌∙◌}
use Rattle.value_orders.specs.Kinds.{flag_in}
use Rattle.value_orders.proofs.ReadingLaws.{flag_found}
use Rattle.value_orders.proofs.keys.flag_of.Goals as goal

pub returns-in-Chars : goal.returns-in-Chars
returns-in-Chars c = flag_found _ _ c.as_flag.ensures.some c.as_flag.ensures.none ∙ ap flag_in (sym c.in-Chars.is)
