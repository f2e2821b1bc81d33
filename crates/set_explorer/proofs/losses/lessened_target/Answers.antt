use Rattle.std.proofs.Common.{List, length, ap, arith}
use Rattle.std.proofs.lemmas.List.{nil_from_length}
use Rattle.set_explorer.specs.Types.{Oid}
use Rattle.set_explorer.proofs.LossLaws.{left-some, left-none}
use Rattle.set_explorer.proofs.losses.lessened_target.Goals as goal

pub returns-then-len-eq0-clause-none : goal.returns-then-len-eq0-clause-none
returns-then-len-eq0-clause-none c =
    left-none c.args.kept.now c.args.edges.now c.args.rest.now c.args.come.now c.args.label c.requires.rest c.args.others.now
    c.requires.others c.in_ok-set.set c.in_ok-set.ensures
    (nil_from_length c.in_ok-set.set (omega (arith, c.len.ensures, c.if-len-eq0.true)))

pub returns-clause-left : goal.returns-clause-left
returns-clause-left c =
    left-some c.args.kept.now c.args.edges.now c.args.rest.now c.args.come.now c.args.label c.requires.rest c.args.others.now
    c.requires.others c.in_ok-set.set c.in_ok-set.ensures
    (λ empty. omega (arith, c.len.ensures, c.if-len-eq0.false, ap (λ (l : List Oid). length l) empty))
