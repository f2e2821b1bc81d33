use Rattle.std.proofs.Common.{sym, ap, ◌∙◌}
use Rattle.std.proofs.lemmas.Bool.{false≢true}
use Rattle.lore_base.specs.Databases.{is_complex}
use Rattle.slot_joins.proofs.worth.count_at.Goals as goal

pub probe_count-requires-clause-op : goal.probe_count-requires-clause-op
probe_count-requires-clause-op g c = c.is_probed.ensures c.if-not-is_probed.false

pub probe_count-requires-clause-value : goal.probe_count-requires-clause-value
probe_count-requires-clause-value g c = λ same. false≢true (sym c.if-is_complex.false ∙ c.is_complex.ensures ∙ ap is_complex same)
