use Rattle.std.proofs.Common.{nat_eq, get_or, refl}
use Rattle.indexmap.specs.IndexMap.{get}
use Rattle.block_rounds.proofs.LevelLaws.{AreLevelsBelow-more}
use Rattle.block_rounds.proofs.levels.levels_of.Goals as goal

pub nodes-preserved : goal.nodes-preserved
nodes-preserved c =
    AreLevelsBelow-more c.args.numbers.now c.nodes.node (get_or c.args.numbers.now c.nodes.node 0) (get nat_eq c.nodes.known) (get nat_eq c.level_of.new.known)
    c.nodes.heads.items c.level_of.new.firsts.items c.nodes.levels.items c.push.new.self.items c.in_ok-level.level
    refl c.in_ok-push.ensures.items c.nodes.invariant c.in_ok-level.ensures
