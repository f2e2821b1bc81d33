use Rattle.std.proofs.Common.{List, Contains, subst}
use Rattle.lore_base.specs.TargetSets.{ListsInOrder}
use Rattle.lore_base.proofs.TargetLaws.{ListsInOrder-same}
use Rattle.set_explorer.specs.Types.{Oid}
use Rattle.set_explorer.proofs.gains.in_both.Goals as goal

pub returns-then-len : goal.returns-then-len
returns-then-len c =
    subst (λ (l : List Oid). ListsInOrder (λ oid. Contains l oid × Contains c.args.other.now oid) c.in_ok-both.both)
    c.as_slice.ensures.oids c.in_ok-both.ensures

pub returns : goal.returns
returns c =
    let set = c.args.set.now in
    let other = c.args.other.now in
    ListsInOrder-same (λ oid. Contains other oid × Contains set oid) (λ oid. Contains set oid × Contains other oid)
    c.in_ok-both-2.both (λ oid. (λ both. (both.1, both.0), λ both. (both.1, both.0)))
    (subst (λ (l : List Oid). ListsInOrder (λ oid. Contains l oid × Contains set oid) c.in_ok-both-2.both)
    c.as_slice-2.ensures.oids c.in_ok-both-2.ensures)
