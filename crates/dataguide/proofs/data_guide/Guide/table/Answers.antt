use Rattle.std.proofs.Common.{ℕ, List, sym, subst}
use Rattle.dataguide.specs.Types.{Node}
use Rattle.set_explorer.specs.HashedNodes.{IsHashed}
use Rattle.dataguide.specs.Guides.{GuideGraph}
use Rattle.dataguide.proofs.data_guide.Guide.table.Goals as goal

pub returns-clause-hashed : goal.returns-clause-hashed
returns-clause-hashed c =
    subst (λ (h : List (ℕ × Node)). IsHashed h c.args.self.now.nodes) (sym c.as_slice-2.ensures.value)
    (subst (λ (g : GuideGraph). IsHashed c.self.inside.by_hash.items g.nodes) c.self.view_is c.self.invariant.hashed)
