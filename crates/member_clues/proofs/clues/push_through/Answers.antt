use Rattle.std.proofs.Common.{◌≡◌, ◌≤◌, List, map, sym, ap, ◌∙◌, subst}
use Rattle.lorel_bound.specs.Bound.{BoundPathTree, bound_path, bound_cond, conds_from}
use Rattle.lorel_bound.specs.Conditions.{CondOf, and, exists, paths_of}
use Rattle.lorel_eval.specs.Tests.{rest_leaves}
use Rattle.member_clues.specs.Types.{LEAVES}
use Rattle.member_clues.specs.Asked.{Follows}
use Rattle.member_clues.proofs.MadeLaws.{and_cond}
use Rattle.member_clues.proofs.clues.push_through.Goals as goal

pub push_each-requires-clause-members : goal.push_each-requires-clause-members
push_each-requires-clause-members c =
    let whole : and (conds_from (map bound_cond c.as_slice.result.now)) ≡ bound_cond c.args.body.now =
    ap (λ (l : List (CondOf BoundPathTree)). and (conds_from l)) c.as_slice.ensures.trees ∙ sym (and_cond c.args.body.now c.in-And.members c.in-And.is) in
    subst (λ (w : CondOf BoundPathTree). rest_leaves (paths_of w) ≤ LEAVES) (sym whole) c.requires.body

pub returns-in-And : goal.returns-in-And
returns-in-And c = λ all_of follows all.
    let whole : and (conds_from (map bound_cond c.as_slice.result.now)) ≡ bound_cond c.args.body.now =
    ap (λ (l : List (CondOf BoundPathTree)). and (conds_from l)) c.as_slice.ensures.trees ∙ sym (and_cond c.args.body.now c.in-And.members c.in-And.is) in
    c.push_each.ensures all_of
    (subst (λ (w : CondOf BoundPathTree). Follows c.args.labels.now all_of (exists (bound_path c.args.path.now) w)) (sym whole) follows) all

pub returns-in_default : goal.returns-in_default
returns-in_default c = c.push_sides.ensures
