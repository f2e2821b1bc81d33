use Rattle.std.proofs.Common.{List, sym, subst}
use Rattle.std.specs.Prelude.{Contains}
use Rattle.lore_run.specs.Types.{Oid, Value}
use Rattle.lore_run.proofs.past_values.PastValuesValueOf.value_of.Goals as goal

pub returns-clause-only : goal.returns-clause-only
returns-clause-only c value at =
    c.past_value.ensures.only value
    (subst (λ (objects : List (Oid × Value)). Contains objects (c.args.oid, value)) (sym c.self.view_is) at)
