use Rattle.std.proofs.Common.{drop, map}
use Rattle.lore_base.specs.Paths.{path_tree, trees_of, seq}
use Rattle.product_walk.specs.ProductWalks.{IsWalked, reads_out}
use Rattle.product_walk.specs.inside.Ways.{IsLevel, TakesTimes}
use Rattle.product_walk.proofs.label_paths.level_before_last.Given as goal

abbrev pub invariant-places : goal.invariant-places
invariant-places g l =
    let edges = g.A.Adjacent.edges l.graph in
    let whole = seq (trees_of (map path_tree l.paths)) in
    let left = seq (trees_of (map path_tree (drop l.place l.paths))) in
    record {
      level : IsLevel (g.T.LabelTest.texts l.labels) edges whole left l.fn.from l.level;
      taken : TakesTimes l.place (reads_out edges) (IsWalked edges l.fn.from) l.fn.steps l.steps;
    }
