use Rattle.std.proofs.Common.{◌≡◌, ◌+◌, ◌-◌, ◌*◌}
use Rattle.lorel_trees.specs.Trees.{member_trees}
use Rattle.lorel_tokens.specs.declared.token_types.Sign.TheVariants as s
use Rattle.lorel_terms.specs.Outcomes.{sees}
use Rattle.lorel_terms.specs.Repetitions.{each_in}
use Rattle.lorel_terms.specs.Literals as spec
use Rattle.lorel_terms.proofs.literals.+literal.Given as goal

abbrev pub decreases-literal : goal.decreases-literal
decreases-literal l = 6 * l.depth + 2

abbrev pub decreases-valued : goal.decreases-valued
decreases-valued l = 6 * l.depth + 1

abbrev pub decreases-inside : goal.decreases-inside
decreases-inside l = 6 * l.depth

abbrev pub decreases-members : goal.decreases-members
decreases-members l = 6 * l.depth + 5

abbrev pub decreases-more_members : goal.decreases-more_members
decreases-more_members l = 6 * l.depth + 4

abbrev pub decreases-member : goal.decreases-member
decreases-member l = 6 * l.depth + 3

abbrev pub invariant-more_members-turns : goal.invariant-more_members-turns
invariant-more_members-turns l =
    spec.more_members (spec.inside l.depth) (member_trees l.fn.members) l.fn.tokens
    ≡ each_in (sees s.Comma) (spec.member (spec.inside l.depth)) (l._turn-end - l._turn) (member_trees l.members) l.tokens
