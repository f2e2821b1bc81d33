use Rattle.std.proofs.Common.{ap}
use Rattle.std.specs.Map.{lookup}
use Rattle.doem_history.specs.inside.Chains.{same_oid}
use Rattle.doem_history.proofs.ChainLaws.{linked_as}
use Rattle.doem_history.proofs.run_chains.RunChains.reserve.Goals as goal

pub invariant_of-self-in_err-reserve-3 : goal.invariant_of-self-in_err-reserve-3
invariant_of-self-in_err-reserve-3 g c = linked_as _ _ _ _ _ _ _ c.self.invariant c.in_ok-reserve.ensures.items (λ oid. ap (λ entries. lookup (same_oid oid) entries) c.reserve-3.ensures.entries) c.in_ok-reserve-2.ensures.items

pub invariant_of-self-2 : goal.invariant_of-self-2
invariant_of-self-2 g c = linked_as _ _ _ _ _ _ _ c.self.invariant c.in_ok-reserve.ensures.items (λ oid. ap (λ entries. lookup (same_oid oid) entries) c.reserve-3.ensures.entries) c.in_ok-reserve-2.ensures.items
