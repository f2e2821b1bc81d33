use Rattle.std.proofs.Common.{◌≡◌, ◌≤◌, List, map, sym, ap, ◌∙◌, subst}
use Rattle.lorel_bound.specs.Bound.{BoundPathTree, bound_cond, conds_from}
use Rattle.lorel_bound.specs.Conditions.{CondOf, and, paths_of}
use Rattle.lorel_eval.specs.Tests.{rest_leaves}
use Rattle.member_clues.specs.Types.{LEAVES}
use Rattle.member_clues.specs.inside.Reading.{AddsCluesOf}
use Rattle.member_clues.proofs.MadeLaws.{and_cond}
use Rattle.member_clues.proofs.clues.push_clues.Goals as goal

pub push_all-requires : goal.push_all-requires
push_all-requires c =
    let whole : and (conds_from (map bound_cond c.as_slice.result.now)) ≡ bound_cond c.args.cond.now =
    ap (λ (l : List (CondOf BoundPathTree)). and (conds_from l)) c.as_slice.ensures.trees ∙ sym (and_cond c.args.cond.now c.in-And.members c.in-And.is) in
    subst (λ (w : CondOf BoundPathTree). rest_leaves (paths_of w) ≤ LEAVES) (sym whole) c.requires

pub returns-in-And : goal.returns-in-And
returns-in-And c =
    let whole : and (conds_from (map bound_cond c.as_slice.result.now)) ≡ bound_cond c.args.cond.now =
    ap (λ (l : List (CondOf BoundPathTree)). and (conds_from l)) c.as_slice.ensures.trees ∙ sym (and_cond c.args.cond.now c.in-And.members c.in-And.is) in
    subst (λ (w : CondOf BoundPathTree). AddsCluesOf c.args.labels.now w c.args.clues.now.items c.push_all.new.clues.items) whole c.push_all.ensures

pub returns-in_default : goal.returns-in_default
returns-in_default c = c.push_own.ensures
