use Rattle.std.proofs.Common.{get_or, take, List, sym, subst}
use Rattle.std.proofs.lemmas.List.{take_all, take_more}
use Rattle.one_index.specs.Types.{Oid}
use Rattle.one_index.specs.inside.Kinds.{AreKinds}
use Rattle.one_index.proofs.KindLaws.{AreKinds-none, AreKinds-more}
use Rattle.one_index.proofs.kinds.kinds_of.Goals as goal

pub named-init : goal.named-init
named-init c = AreKinds-none c.args.objects.now c.in_ok-kinds.kinds.items c.in_ok-kinds.ensures

pub named-preserved : goal.named-preserved
named-preserved c =
    let named = c.args.named.now in
    let i = c.named.oid-index in
    let oid : Oid = get_or named i (record { 0 = 0 }) in
    subst (λ (l : List Oid). AreKinds c.args.objects.now l c.set_kind.new.kinds.items)
    (sym (take_more named i (record { 0 = 0 }) c.named-test.true))
    (AreKinds-more c.args.objects.now c.requires (take i named) oid c.named.kinds.items c.set_kind.new.kinds.items
    c.set_kind.ensures c.named.invariant)

pub returns : goal.returns
returns c =
    subst (λ (l : List Oid). AreKinds c.args.objects.now l c.named.kinds.items)
    (take_all c.named.oid-index c.args.named.now c.named-test.false) c.named.invariant
