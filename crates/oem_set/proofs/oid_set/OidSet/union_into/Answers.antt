use Rattle.std.proofs.Common.{◌≡◌, List, ◌++◌, ◌⊎◌, Contains, sym, ap, ◌∙◌, subst}
use Rattle.lore_base.specs.TargetSets.{ListsInOrder}
use Rattle.oem_set.specs.Types.{Oid}
use Rattle.oem_set.specs.Sets.{IsSet}
use Rattle.oem_set.proofs.AppendLaws.{both-lists}
use Rattle.oem_set.proofs.MemberSearch.{same_oid, IsSet-from_less, lists-sorted}
use Rattle.oem_set.proofs.oid_set.OidSet.union_into.Goals as goal

pub from_ascending-requires : goal.from_ascending-requires
from_ascending-requires c = IsSet-from_less c.sort_set.new.self c.sort_set.ensures.ascend

pub returns-then-come_behind-clause-ok : goal.returns-then-come_behind-clause-ok
returns-then-come_behind-clause-ok c =
    let mine = c.args.self.now in
    let other = c.args.out.now in
    let first : c.append.new.self ≡ mine = c.in_ok-append.ensures.ok ∙ ap (λ (l : List Oid). l ++ c.as_slice.result.now) c.in_ok-oids.ensures ∙ c.as_slice.ensures.oids in
    let both : c.append-2.new.self ≡ mine ++ other =
    c.in_ok-append-2.ensures.ok ∙ ap (λ (l : List Oid). l ++ c.as_slice-2.result.now) first ∙ ap (λ (l : List Oid). mine ++ l) c.as_slice-2.ensures.oids in
    let behind : IsSet (mine ++ other) =
    subst (λ (l : List Oid). IsSet (l ++ other)) c.as_slice-3.ensures.oids
    (subst (λ (l : List Oid). IsSet (c.as_slice-3.result.now ++ l)) c.as_slice-4.ensures.oids
    (c.come_behind.ensures c.if-come_behind.true)) in
    subst (ListsInOrder (λ oid. Contains mine oid ⊎ Contains other oid)) (sym both)
    (record { ascending = behind; exact = both-lists mine other })

pub returns-else-come_behind-clause-ok : goal.returns-else-come_behind-clause-ok
returns-else-come_behind-clause-ok c =
    let mine = c.args.self.now in
    let first : c.append.new.self ≡ mine = c.in_ok-append.ensures.ok ∙ ap (λ (l : List Oid). l ++ c.as_slice.result.now) c.in_ok-oids.ensures ∙ c.as_slice.ensures.oids in
    let both : c.append-2.new.self ≡ mine ++ c.args.out.now =
    c.in_ok-append-2.ensures.ok ∙ ap (λ (l : List Oid). l ++ c.as_slice-2.result.now) first ∙ ap (λ (l : List Oid). mine ++ l) c.as_slice-2.ensures.oids in
    rw c.from_ascending.ensures
    (lists-sorted (λ oid. Contains mine oid ⊎ Contains c.args.out.now oid) c.append-2.new.self c.sort_set.new.self c.sort_set.ensures.ascend (c.sort_set.ensures.members same_oid)
    (λ oid. rw both (both-lists mine c.args.out.now oid)))
