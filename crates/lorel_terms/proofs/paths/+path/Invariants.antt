use Rattle.std.proofs.Common.{◌≡◌, ◌+◌, ◌-◌, ◌*◌}
use Rattle.lore_base.specs.Paths.{path_trees}
use Rattle.lorel_terms.specs.Paths as spec
use Rattle.lorel_terms.proofs.paths.+path.Given as goal

abbrev pub decreases-inside : goal.decreases-inside
decreases-inside l = 7 * l.depth

abbrev pub decreases-base : goal.decreases-base
decreases-base l = 7 * l.depth + 1

abbrev pub decreases-part : goal.decreases-part
decreases-part l = 7 * l.depth + 2

abbrev pub decreases-parts : goal.decreases-parts
decreases-parts l = 7 * l.depth + 3

abbrev pub decreases-sequence : goal.decreases-sequence
decreases-sequence l = 7 * l.depth + 4

abbrev pub decreases-choices : goal.decreases-choices
decreases-choices l = 7 * l.depth + 6

abbrev pub decreases-more_choices : goal.decreases-more_choices
decreases-more_choices l = 7 * l.depth + 5

abbrev pub invariant-parts-parts : goal.invariant-parts-parts
invariant-parts-parts l =
    spec.parts (spec.inside l.depth) (path_trees l.fn.found) l.fn.tokens
    ≡ spec.parts_from (spec.inside l.depth) (l._turn-end - l._turn) (path_trees l.found) l.tokens

abbrev pub invariant-more_choices-choices : goal.invariant-more_choices-choices
invariant-more_choices-choices l =
    spec.more_choices (spec.inside l.depth) (path_trees l.fn.found) l.fn.tokens
    ≡ spec.choices_from (spec.inside l.depth) (l._turn-end - l._turn) (path_trees l.found) l.tokens
