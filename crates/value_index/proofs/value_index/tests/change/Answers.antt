use Rattle.std.proofs.Common.{List, sym, subst}
use Rattle.value_index.specs.Types.{ValueEntry}
use Rattle.value_index.specs.Values.{FitsEntries}
use Rattle.value_index.proofs.value_index.tests.change.Goals as goal

pub commit-requires-clause-fits : goal.commit-requires-clause-fits
commit-requires-clause-fits c =
    let kept_is = c.in_ok-reserve.ensures.same in
    let gone_is = c.in_ok-plan.ensures.gone in
    let come_is = c.in_ok-plan.ensures.come in
    subst (λ (l : List ValueEntry). FitsEntries l c.in_ok-plan.plan.gone c.in_ok-plan.plan.come) (sym kept_is)
    (subst (λ (l : List ValueEntry). FitsEntries c.args.index.now.entries l c.in_ok-plan.plan.come) (sym gone_is)
    (subst (λ (l : List ValueEntry). FitsEntries c.args.index.now.entries c.args.gone l) (sym come_is) c.requires.fits))
