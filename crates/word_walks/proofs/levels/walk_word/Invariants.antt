use Rattle.std.proofs.Common.{take}
use Rattle.lore_base.specs.TargetSets.{IsTargetSet}
use Rattle.product_walk.specs.ProductWalks.{IsWalked, reads_out}
use Rattle.word_walks.specs.WordWalks.{TakesAtMost}
use Rattle.word_walks.proofs.levels.walk_word.Given as goal

abbrev pub invariant-labels : goal.invariant-labels
invariant-labels g l =
    let edges = g.A.Adjacent.edges l.graph in
    record {
      set : IsTargetSet edges l.fn.from (take l.label-index l.word) l.level.oids;
      taken : TakesAtMost l.label-index (reads_out edges) (IsWalked edges l.fn.from) l.fn.steps l.steps;
    }
