use Rattle.std.proofs.Common.{◌↔◌, List, Contains, subst}
use Rattle.index_traits.proofs.ObjectLaws.{same_oid}
use Rattle.oem_reach.specs.Types.{Oid}
use Rattle.oem_reach.proofs.ListedLaws.{ascend_sorted}
use Rattle.oem_reach.proofs.doubts.objects_in_doubt.Goals as goal

pub returns-clause-ascend : goal.returns-clause-ascend
returns-clause-ascend c = ascend_sorted c.sort_set.new.self c.sort_set.ensures.ascend

pub returns-clause-members : goal.returns-clause-members
returns-clause-members c oid =
    subst (λ (l : List Oid). Contains c.sort_set.new.self oid ↔ Contains l oid) c.in_ok-push_objects.ensures
    (c.sort_set.ensures.members same_oid oid)
