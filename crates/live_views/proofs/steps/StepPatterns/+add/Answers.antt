use Rattle.std.proofs.Common.{◌⊎◌, ◌↔◌, ◌+◌, List, [], ◌∷◌, ◌++◌, map, drop, subst, sym, ap, ◌∙◌}
use Rattle.std.proofs.lemmas.Result.{on_ok_weaker}
use Rattle.list_laws.proofs.PartLaws.{drop_more_read}
use Rattle.lore_base.specs.Paths.{PathTree, path_tree, trees_of}
use Rattle.lore_base.specs.declared.paths.Path.{Path}
use Rattle.live_views.specs.Concerns.{HasStep, HasStepIn}
use Rattle.live_views.specs.Types.{Pattern}
use Rattle.live_views.specs.inside.Looks.{TakesLabel, GainsSteps}
use Rattle.live_views.specs.declared.steps.StepPatterns.{StepPatterns}
use Rattle.live_views.proofs.StepLaws.{one_more, step_tree, gains_pattern}
use Rattle.live_views.proofs.steps.StepPatterns.+add.Goals as goal

pub add_parts-parts-preserved : goal.add_parts-parts-preserved
add_parts-parts-preserved n c labels label =
    let items = c.args.parts.now in
    let i = c.parts.part-index in
    let part = c.part-item.result in
    let whole = TakesLabel labels c.args.self.now label ⊎ HasStepIn labels (trees_of (map path_tree items)) label in
    let left = drop_more_read items i part c.parts-test.true c.part-item.is in
    let before = subst (λ (ps : List Path). (TakesLabel labels c.parts.self label ⊎ HasStepIn labels (trees_of (map path_tree ps)) label) ↔ whole) left
    (c.parts.invariant labels label) in
    one_more (TakesLabel labels c.parts.self label) (HasStep labels (path_tree part) label)
    (HasStepIn labels (trees_of (map path_tree (drop (i + 1) items))) label) whole (TakesLabel labels c.add_path.new.self label)
    before (c.in_ok-add_path.ensures labels label)

pub add_path-returns-in_ok-try_copy-in-Step : goal.add_path-returns-in_ok-try_copy-in-Step
add_path-returns-in_ok-try_copy-in-Step n c =
    let before = c.args.self.now in
    let own = c.in_ok-try_copy-in-Step in
    let after : StepPatterns = record { patterns = c.push.new.self; any = before.any } in
    on_ok_weaker c.push.result
    (λ pushed. subst (λ (path : PathTree). GainsSteps before after (λ labels label. HasStep labels path label))
    (sym (step_tree c.args.path.now c.in-Step.pattern c.in-Step.is))
    (gains_pattern before c.push.new.self c.in-Step.pattern (pushed ∙ ap (λ (p : Pattern). before.patterns ++ p ∷ []) own.ensures)))
    c.push.ensures.ok
