use Rattle.std.proofs.Common.{ℕ, Option, ap, ◌∙◌}
use Rattle.edge_lists.specs.Objects.{with_first}
use Rattle.edge_lists.proofs.objects.ObjectRecord.set_first.Goals as goal

pub returns : goal.returns
returns c = c.put_first.ensures ∙ ap (λ (l : Option ℕ). with_first c.args.side l c.args.self.now) c.to.ensures
