use Rattle.std.proofs.Common.{take, ◌≡◌, []}
use Rattle.std.specs.Option.{IfSome}
use Rattle.std.specs.Prelude.{vec_capacity}
use Rattle.edge_lists.specs.Chains.{StandsAt}
use Rattle.edge_lists.specs.Commits.{ArePut}
use Rattle.edge_lists.proofs.commits.put_all.Given as goal

abbrev pub invariant-come : goal.invariant-come
invariant-come l = record {
  put : ArePut (take l.edge-index l.come) l.fn.objects l.fn.records l.objects l.records l.keys.items;
  room : vec_capacity l.keys ≡ vec_capacity l.fn.keys;
  last : IfSome l.last (λ one. StandsAt l.records [] one.key one.edge);
}
