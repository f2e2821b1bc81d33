use Rattle.std.proofs.Common.{sym, ◌∙◌}
use Rattle.edge_lists.proofs.KeyLaws.{packed-key}
use Rattle.edge_lists.proofs.links.Link.to.Goals as goal

pub returns-in-Some : goal.returns-in-Some
returns-in-Some c = packed-key c.in-Some.key ∙ sym c.in-Some.is
