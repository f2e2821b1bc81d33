use Rattle.std.proofs.Common.{◌↔◌, ℕ, List, Contains, sym, subst}
use Rattle.one_index.specs.Types.{Label}
use Rattle.one_index.specs.Blocks.{HasEdge}
use Rattle.one_index.proofs.WalkLaws.{edges-shown, no-edges}
use Rattle.one_index.proofs.block_paths.BlockSetsSetGraph.edges.Goals as goal

pub returns-in-Some : goal.returns-in-Some
returns-in-Some c label next =
    let blocks = c.args.self.now.blocks.now in
    subst (λ (l : List (Label × ℕ)). Contains l (label, next) ↔ HasEdge blocks c.args.node label next) (sym c.as_slice.ensures)
    (edges-shown blocks c.args.node c.in-Some.block.now (sym c.in-Some.ensures) label next)

pub returns-in-None : goal.returns-in-None
returns-in-None c label next = no-edges c.args.self.now.blocks.now c.args.node (sym c.in-None.ensures) label next
