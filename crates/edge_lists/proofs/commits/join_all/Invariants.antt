use Rattle.std.proofs.Common.{drop}
use Rattle.std.specs.Option.{IfSome}
use Rattle.edge_lists.specs.Chains.{StandsAt}
use Rattle.edge_lists.specs.Commits.{AreEntered, keys_at}
use Rattle.edge_lists.proofs.commits.join_all.Given as goal

abbrev pub invariant-by_child : goal.invariant-by_child
invariant-by_child l = record {
  entered : AreEntered l.fn.objects l.fn.records l.objects l.records (keys_at l.keys (drop l.place-index l.by_child));
  last : IfSome l.last (λ one. StandsAt l.records (keys_at l.keys (drop l.place-index l.by_child)) one.key one.edge);
}
