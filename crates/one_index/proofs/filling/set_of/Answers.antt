use Rattle.std.proofs.Common.{◌≡◌, ◌↔◌, ◌++◌, List, Contains, sym, ap, ◌∙◌, subst}
use Rattle.lore_base.specs.TargetSets.{ListsInOrder}
use Rattle.oem_set.proofs.MemberSearch.{same_oid, lists-sorted, IsSet-from_less}
use Rattle.one_index.specs.Types.{Oid}
use Rattle.one_index.proofs.filling.set_of.Goals as goal

pub from_ascending-requires : goal.from_ascending-requires
from_ascending-requires c = IsSet-from_less c.sort_set.new.self c.sort_set.ensures.ascend

pub returns : goal.returns
returns c =
    let oids = c.args.oids.now in
    let copied : c.append.new.self ≡ oids = c.in_ok-append.ensures.ok ∙ ap (λ (l : List Oid). l ++ oids) c.in_ok-set.ensures in
    subst (λ (l : List Oid). ListsInOrder (Contains oids) l) (sym c.from_ascending.ensures)
    (lists-sorted (Contains oids) oids c.sort_set.new.self c.sort_set.ensures.ascend
    (λ oid. subst (λ (l : List Oid). Contains c.sort_set.new.self oid ↔ Contains l oid) copied
    (c.sort_set.ensures.members same_oid oid))
    (λ oid. (λ at. at, λ at. at)))
