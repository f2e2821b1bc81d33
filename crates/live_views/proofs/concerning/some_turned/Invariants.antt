use Rattle.std.proofs.Common.{◌⊎◌, ℕ, List, take, All}
use Rattle.lore_base.specs.ChangeSets.{IsBound}
use Rattle.live_views.proofs.concerning.some_turned.Given as goal

abbrev pub invariant-names : goal.invariant-names
invariant-names l =
    All (λ (name : List ℕ). IsBound l.delta.names_gone name ⊎ IsBound l.delta.names_come name → ⊥) (take l.name-index l.names)
