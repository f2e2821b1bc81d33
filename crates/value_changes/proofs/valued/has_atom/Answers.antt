use Rattle.std.proofs.Common.{◌≡◌, Some, None, refl, sym, true≢false}
use Rattle.value_changes.specs.Types.{Value}
use Rattle.value_changes.proofs.valued.has_atom.Goals as goal

not_none : (a : Value) → None ≡ Some a → ⊥
not_none a h = cc

pub returns-in-Some : goal.returns-in-Some
returns-in-Some g c = (λ yes. (c.in-Some.field-0.now, c.in-Some.ensures.found, c.in-Some.ensures.atomic), λ has. refl)

pub returns-in-None : goal.returns-in-None
returns-in-None g c = (λ yes. absurd (true≢false (sym yes)), λ has. absurd (not_none has.0 (c.in-None.ensures.only has.0 has.1 has.2)))
