use Rattle.std.proofs.Common.{ℕ, Option, sym, subst}
use Rattle.edge_lists.specs.Chains.{IsPast}
use Rattle.edge_lists.proofs.walks.is_past.Goals as goal

pub returns-in_default : goal.returns-in_default
returns-in_default c past = subst (λ (l : Option ℕ). IsPast c.args.side c.args.records.now c.args.edge.now l) (sym c.in_default.is) tt
