use Rattle.dataguide.proofs.VanishLaws.{vanished_edges_lead_nowhere}
use Rattle.dataguide.proofs.laws.vanished_edges_lead_nowhere.Goals as goal

pub returns : goal.returns
returns c = vanished_edges_lead_nowhere
