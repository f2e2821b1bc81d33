use Rattle.std.proofs.Common.{◌≡◌, List, ◌++◌, ap, ◌∙◌}
use Rattle.oem_set.specs.Types.{Oid}
use Rattle.oem_set.proofs.oid_set.OidSet.from_buf.Goals as goal

pub from_ascending-requires : goal.from_ascending-requires
from_ascending-requires c =
    rw (c.in_ok-append.ensures.ok, c.in_ok-oids.ensures, c.as_slice.ensures) c.put_in_order.ensures.ascending

pub returns-clause-set : goal.returns-clause-set
returns-clause-set c =
    let given : c.append.new.self ≡ c.put_in_order.new.buf =
    c.in_ok-append.ensures.ok ∙ ap (λ (l : List Oid). l ++ c.as_slice.result.now) c.in_ok-oids.ensures ∙ c.as_slice.ensures in
    rw (c.from_ascending.ensures, given) c.put_in_order.ensures
