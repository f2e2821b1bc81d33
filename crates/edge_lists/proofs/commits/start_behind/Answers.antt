use Rattle.std.proofs.Common.{subst}
use Rattle.std.specs.Option.{IfSome}
use Rattle.edge_lists.specs.Chains.{StandsAt}
use Rattle.edge_lists.proofs.commits.start_behind.Goals as goal

pub returns-then-precedes : goal.returns-then-precedes
returns-then-precedes c records waiting stands = (
  c.in-Some.one.edge,
  subst (λ last. IfSome last (λ one. StandsAt records waiting one.key one.edge)) c.in-Some.is stands,
  c.precedes.ensures.0 c.if-precedes.true,
)
