use Rattle.view_laws.proofs.StartLaws.{accepted_needs_object}
use Rattle.view_laws.proofs.laws.accepted_needs_object.Goals as goal

pub returns : goal.returns
returns c = accepted_needs_object
