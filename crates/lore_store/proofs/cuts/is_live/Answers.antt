use Rattle.std.proofs.Common.{refl, sym, true≢false}
use Rattle.lore_store.proofs.cuts.is_live.Goals as goal

pub returns-in-Some : goal.returns-in-Some
returns-in-Some g c = (λ yes. (c.in-Some.field-0.now, c.in-Some.ensures.found), λ live. refl)

pub returns-in-None : goal.returns-in-None
returns-in-None g c = (λ yes. absurd (true≢false (sym yes)), λ live. absurd (c.in-None.ensures.none live))
