use Rattle.std.proofs.Common.{List, sym, subst}
use Rattle.lore_base.specs.TargetSets.{ListsInOrder}
use Rattle.one_index.specs.Types.{Oid}
use Rattle.one_index.specs.Blocks.{IsMember}
use Rattle.one_index.proofs.WalkLaws.{members-shown, no-members}
use Rattle.one_index.proofs.block_paths.BlockSetsSetGraph.members.Goals as goal

pub returns-in-Some : goal.returns-in-Some
returns-in-Some c =
    let blocks = c.args.self.now.blocks.now in
    subst (λ (l : List Oid). ListsInOrder (IsMember blocks c.args.node) l) (sym c.as_slice.ensures.oids)
    (members-shown blocks c.args.node c.in-Some.block.now (sym c.in-Some.ensures) c.as_slice.ensures.set)

pub returns-in-None : goal.returns-in-None
returns-in-None c = no-members c.args.self.now.blocks.now c.args.node (sym c.in-None.ensures)
