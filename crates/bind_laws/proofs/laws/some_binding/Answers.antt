use Rattle.bind_laws.proofs.BindingLaws.{has_some_binding}
use Rattle.bind_laws.proofs.laws.some_binding.Goals as goal

pub returns : goal.returns
returns c = has_some_binding
