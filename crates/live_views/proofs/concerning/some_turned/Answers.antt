use Rattle.std.proofs.Common.{◌⊎◌, ℕ, List}
use Rattle.lore_base.specs.ChangeSets.{IsBound}
use Rattle.live_views.proofs.SearchLaws.{none_more, none_passes}
use Rattle.live_views.proofs.concerning.some_turned.Goals as goal

pub names-preserved : goal.names-preserved
names-preserved c =
    let delta = c.args.delta.now in
    none_more (λ (name : List ℕ). IsBound delta.names_gone name ⊎ IsBound delta.names_come name) c.args.names.now c.names.name-index c.name-item.result
    c.names-test.true c.name-item.is (λ turned. let is = c.if-is_turned.ensures.1 turned in cc) c.names.invariant

pub returns : goal.returns
returns c = (
  λ is. cc,
  λ some.
      let delta = c.args.delta.now in
      absurd (none_passes (λ (name : List ℕ). IsBound delta.names_gone name ⊎ IsBound delta.names_come name) c.args.names.now c.names.name-index
      c.names-test.false c.names.invariant some),
)
