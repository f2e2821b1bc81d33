use Rattle.std.proofs.Common.{◌≡◌, ◌↔◌, ◌⊎◌, ◌<◌, ◌++◌, [], ◌∷◌, List, map, get_or, All, AllPairs, Contains, sym, ap, ◌∙◌, subst}
use Rattle.std.proofs.lemmas.List.{map_push, take_more, take_all}
use Rattle.std.proofs.lemmas.List.Elements.{All-push}
use Rattle.set_explorer.specs.Types.{Label, Origin}
use Rattle.set_explorer.specs.PlannedNodes.{origin_set, IsOrigin}
use Rattle.set_explorer.specs.inside.Gains.{IsUnion, labels_in}
use Rattle.set_explorer.proofs.GainLaws.{AllPairs-unmap}
use Rattle.set_explorer.proofs.gains.united_targets.Goals as goal

abbrev label_of : Label × Origin → Label
label_of target = target.0

pub labels-preserved : goal.labels-preserved
labels-preserved c =
    let kept = c.args.kept.now in
    let targets = c.labels.targets.items in
    let before = c.labels.invariant in
    let items = c.as_slice-label-items.result.now in
    let label = get_or items c.labels.label-index (record { 0 = 0 }) in
    let IsGood : Label × Origin → Type 0 = λ t. IsUnion kept c.args.edges.now c.args.row.now t.0 (origin_set kept t.1) in
    let IsHere : Label × Origin → Type 0 = λ t. IsOrigin kept t.1 in
    record {
      labels = ap (map label_of) c.in_ok-push.ensures.items ∙ map_push label_of targets (label, c.in_ok-target.target)
          ∙ ap (λ (l : List Label). l ++ label ∷ []) before.labels ∙ sym (take_more items c.labels.label-index (record { 0 = 0 }) c.labels-test.true);
      sets = subst (All IsGood) (sym c.in_ok-push.ensures.items)
          (All-push IsGood targets (label, c.in_ok-target.target) before.sets c.in_ok-target.ensures.set);
      there = subst (All IsHere) (sym c.in_ok-push.ensures.items)
          (All-push IsHere targets (label, c.in_ok-target.target) before.there c.in_ok-target.ensures.there);
    }

pub returns : goal.returns
returns c =
    let labels = c.in_ok-labels.labels in
    let items = c.as_slice-label-items.result.now in
    let are : labels_in c.labels.targets.items ≡ labels =
    c.labels.invariant.labels ∙ take_all c.labels.label-index items c.labels-test.false ∙ c.as_slice-label-items.ensures in
    record {
      ascend = AllPairs-unmap label_of (λ a b. a.0 < b.0) c.labels.targets.items
          (subst (λ (l : List Label). AllPairs (λ a b. a.0 < b.0) l) (sym are) c.in_ok-labels.ensures.ascend);
      sets = c.labels.invariant.sets;
      there = c.labels.invariant.there;
      labels = subst (λ (l : List Label). (label : Label) → Contains l label
          ↔ (Contains (labels_in c.args.edges.now) label ⊎ Contains (labels_in c.args.row.now) label)) (sym are)
          c.in_ok-labels.ensures.members;
    }
