use Rattle.std.proofs.Common.{map, drop, All}
use Rattle.lorel_bound.specs.Conditions.{paths_of_all}
use Rattle.lorel_eval.specs.inside.Labelled.{in_order}
use Rattle.lorel_eval.specs.inside.Ready.{ready_tree, ready_trees}
use Rattle.lorel_eval.specs.inside.Early.{StartsKnown}
use Rattle.lorel_eval.proofs.known_starts.+known.Given as goal

abbrev pub invariant-all_read_known-members : goal.invariant-all_read_known-members
invariant-all_read_known-members l =
    All (StartsKnown l.known) (paths_of_all (in_order (map ready_tree (drop l.member-index l.member-items))))
    → All (StartsKnown l.known) (paths_of_all (in_order (ready_trees l.members)))
