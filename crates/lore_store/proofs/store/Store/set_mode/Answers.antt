use Rattle.lore_store.proofs.ModeLaws.{stored_in_mode}
use Rattle.lore_store.proofs.store.Store.set_mode.Goals as goal

pub invariant_of-self : goal.invariant_of-self
invariant_of-self c =
    stored_in_mode c.self.inside.labels c.self.inside.graph.graph c.self.inside.limit c.self.inside.mode c.args.mode (record { links = c.self.inside.links; values = c.self.inside.values }) c.self.inside.guide c.self.invariant
