use Rattle.bind_laws.proofs.BindingLaws.{has_one_binding}
use Rattle.bind_laws.proofs.laws.one_binding.Goals as goal

pub returns : goal.returns
returns c = has_one_binding
