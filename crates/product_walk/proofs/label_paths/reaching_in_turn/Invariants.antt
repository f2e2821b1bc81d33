use Rattle.std.proofs.Common.{◌-◌, drop, length, map}
use Rattle.lore_base.specs.Paths.{path_tree, trees_of, seq}
use Rattle.lore_base.specs.TargetSets.{ListsInOrder}
use Rattle.product_walk.specs.ProductWalks.{ReachesInto, WalksInto}
use Rattle.product_walk.specs.inside.Arcs.{reads_entering}
use Rattle.product_walk.specs.inside.Ways.{TakesTimes}
use Rattle.product_walk.proofs.label_paths.reaching_in_turn.Given as goal

abbrev pub invariant-taken : goal.invariant-taken
invariant-taken g l =
    let edges = g.K.Links.edges l.links in
    let behind = seq (trees_of (map path_tree (drop (length l.paths - l.taken) l.paths))) in
    record {
      level : ListsInOrder (ReachesInto (g.T.LabelTest.texts l.labels) edges behind l.to) l.level;
      taken : TakesTimes l.taken (reads_entering edges) (WalksInto edges l.to) l.initial.steps l.steps;
    }
