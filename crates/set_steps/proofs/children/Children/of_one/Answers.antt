use Rattle.std.proofs.Common.{List, ◌∷◌, [], ◌++◌, ap, ◌∙◌}
use Rattle.set_steps.specs.Types.{Oid}
use Rattle.set_steps.proofs.BucketLaws.{set-one}
use Rattle.set_steps.proofs.children.Children.of_one.Goals as goal

pub invariant_of-result : goal.invariant_of-result
invariant_of-result c =
    set-one c.push.new.self c.args.child (c.in_ok-push.ensures.ok ∙ ap (λ (l : List Oid). l ++ c.args.child ∷ []) c.in_ok-oids.ensures)
