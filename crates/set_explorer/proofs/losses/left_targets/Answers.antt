use Rattle.std.proofs.Common.{◌≡◌, ◌<◌, List, [], AllPairs, get_or, take, refl, sym, ◌∙◌, subst}
use Rattle.std.proofs.lemmas.List.{take_all, take_more}
use Rattle.set_explorer.specs.Types.{Label}
use Rattle.set_explorer.proofs.LossLaws.{AreLeftOf, left-nothing, left-more, left-all, below-next}
use Rattle.set_explorer.proofs.losses.left_targets.Goals as goal

pub labels-init : goal.labels-init
labels-init c =
    left-nothing c.args.kept.now c.args.edges.now c.args.rest.now c.args.come.now [] c.in_ok-targets.targets.items refl
    c.in_ok-targets.ensures.items

pub labels-preserved : goal.labels-preserved
labels-preserved c =
    let kept = c.args.kept.now in
    let edges = c.args.edges.now in
    let rest = c.args.rest.now in
    let come = c.args.come.now in
    let items = c.as_slice-label-items.result.now in
    let i = c.labels.label-index in
    let x = get_or items i (record { 0 = 0 }) in
    let ascend = subst (λ (l : List Label). AllPairs (λ (a b : Label). a.0 < b.0) l) (sym c.as_slice-label-items.ensures)
    c.in_ok-labels.ensures.ascend in
    subst (λ (l : List Label). AreLeftOf kept edges rest come l c.push_left.new.targets.items)
    (sym (take_more items i (record { 0 = 0 }) c.labels-test.true))
    (left-more kept edges rest come (take i items) x c.labels.targets.items (below-next items i c.labels-test.true ascend)
    c.labels.invariant c.push_left.new.targets.items c.in_ok-target.target c.in_ok-target.ensures.left c.in_ok-target.ensures.none
    c.in_ok-push_left.ensures.some c.in_ok-push_left.ensures.none)

pub returns : goal.returns
returns c =
    let kept = c.args.kept.now in
    let edges = c.args.edges.now in
    let rest = c.args.rest.now in
    let come = c.args.come.now in
    let labels = c.in_ok-labels.labels in
    let items = c.as_slice-label-items.result.now in
    let are : take c.labels.label-index items ≡ labels =
    take_all c.labels.label-index items c.labels-test.false ∙ c.as_slice-label-items.ensures in
    left-all kept edges rest come labels c.labels.targets.items c.in_ok-labels.ensures.members
    (subst (λ (l : List Label). AreLeftOf kept edges rest come l c.labels.targets.items) are c.labels.invariant)
