use Rattle.std.proofs.Common.{◌≡◌, ◌+◌, ◌-◌, ◌*◌, codes}
use Rattle.lorel_trees.specs.Trees.{cond_trees}
use Rattle.lorel_terms.specs.Conditions as spec
use Rattle.lorel_terms.proofs.conditions.+condition.Given as goal

abbrev pub decreases-enclosed : goal.decreases-enclosed
decreases-enclosed l = 8 * l.depth

abbrev pub decreases-enclosed_condition : goal.decreases-enclosed_condition
decreases-enclosed_condition l = 8 * l.depth

abbrev pub decreases-quantified : goal.decreases-quantified
decreases-quantified l = 8 * l.depth + 1

abbrev pub decreases-single : goal.decreases-single
decreases-single l = 8 * l.depth + 2

abbrev pub decreases-more_singles : goal.decreases-more_singles
decreases-more_singles l = 8 * l.depth + 3

abbrev pub decreases-conjunction : goal.decreases-conjunction
decreases-conjunction l = 8 * l.depth + 4

abbrev pub decreases-more_conjunctions : goal.decreases-more_conjunctions
decreases-more_conjunctions l = 8 * l.depth + 5

abbrev pub decreases-condition : goal.decreases-condition
decreases-condition l = 8 * l.depth + 6

abbrev pub invariant-more_singles-singles : goal.invariant-more_singles-singles
invariant-more_singles-singles l =
    spec.others (codes "and") (spec.unary l.depth) (cond_trees l.fn.found) l.fn.tokens
    ≡ spec.others_from (codes "and") (spec.unary l.depth) (l._turn-end - l._turn) (cond_trees l.found) l.tokens

abbrev pub invariant-more_conjunctions-conjunctions : goal.invariant-more_conjunctions-conjunctions
invariant-more_conjunctions-conjunctions l =
    spec.others (codes "or") (spec.conj (spec.unary l.depth)) (cond_trees l.fn.found) l.fn.tokens
    ≡ spec.others_from (codes "or") (spec.conj (spec.unary l.depth)) (l._turn-end - l._turn) (cond_trees l.found) l.tokens
