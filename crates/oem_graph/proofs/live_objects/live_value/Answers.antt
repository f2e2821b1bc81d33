use Rattle.std.proofs.lemmas.Option.{same_Some}
use Rattle.oem_graph.proofs.live_objects.live_value.Goals as goal

pub returns : goal.returns
returns c = λ value at. same_Some c.in-Some.value.now value (c.in-Some.ensures.only value at)
