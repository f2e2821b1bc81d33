use Rattle.std.proofs.Common.{◌≡◌, ◌+◌, take}
use Rattle.std.specs.List.{sum_by}
use Rattle.lore_base.specs.TargetSets.{LeavesTo}
use Rattle.product_walk.specs.ProductWalks.{reads_out}
use Rattle.word_walks.specs.inside.Levels.{Gains}
use Rattle.word_walks.proofs.levels.push_step.Given as goal

abbrev pub invariant-oids : goal.invariant-oids
invariant-oids g l =
    let edges = g.A.Adjacent.edges l.graph in
    record {
      gains : Gains (LeavesTo edges (take l.oid-index l.level) l.label) l.initial.next l.next;
      taken : l.steps ≡ l.initial.steps + sum_by (reads_out edges) (take l.oid-index l.level);
    }
