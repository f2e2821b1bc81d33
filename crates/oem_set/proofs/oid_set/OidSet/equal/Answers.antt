use Rattle.std.proofs.Common.{sym, ◌∙◌}
use Rattle.std.proofs.lemmas.Slice.Eq.{slice_eq-Decides}
use Rattle.oem_set.proofs.MemberSearch.{Decides-same_oid}
use Rattle.oem_set.proofs.oid_set.OidSet.equal.Goals as goal

pub returns-then-self-other : goal.returns-then-self-other
returns-then-self-other c =
    let one = c.as_slice.ensures ∙ c.self.view_is in
    let two = c.as_slice-then-self-other.ensures ∙ c.other.view_is in
    let decides = slice_eq-Decides Decides-same_oid c.as_slice.result.now c.as_slice-then-self-other.result.now c.eq.result c.eq.ensures in
    (λ yes. sym one ∙ decides.0 yes ∙ two, λ same. decides.1 (one ∙ same ∙ sym two))
