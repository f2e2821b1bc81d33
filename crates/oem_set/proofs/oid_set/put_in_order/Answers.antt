use Rattle.std.proofs.Common.{Contains}
use Rattle.oem_set.proofs.MemberSearch.{same_oid, lists-sorted}
use Rattle.oem_set.proofs.oid_set.put_in_order.Goals as goal

pub returns : goal.returns
returns c =
    lists-sorted (Contains c.args.buf.now) c.args.buf.now c.sort_set.new.self c.sort_set.ensures.ascend
    (c.sort_set.ensures.members same_oid) (λ oid. (λ at. at, λ at. at))
