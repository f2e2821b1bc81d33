use Rattle.std.proofs.Common.{◌+◌, List, ap, ◌∙◌, subst, sym}
use Rattle.std.specs.List.{sum_by}
use Rattle.lore_base.specs.TargetSets.{IsStep}
use Rattle.product_walk.specs.ProductWalks.{reads_out}
use Rattle.word_walks.specs.Types.{Oid}
use Rattle.word_walks.proofs.LevelLaws.{step_in_order}
use Rattle.word_walks.proofs.levels.go_on.Goals as goal

pub returns-clause-set : goal.returns-clause-set
returns-clause-set g c =
    let edges = g.A.Adjacent.edges c.args.graph.now in
    subst (IsStep edges c.args.level.now.oids c.args.label) (sym c.swap.ensures.x_after)
    (subst (λ (l : List Oid). IsStep edges l c.args.label c.put_in_order.new.oids) c.as_slice.ensures
    (step_in_order edges c.as_slice.result.now c.args.label c.cut.new.self c.push_step.new.next c.put_in_order.new.oids c.cut.ensures c.in_ok-push_step.ensures.gains
    c.put_in_order.ensures))

pub returns-clause-steps : goal.returns-clause-steps
returns-clause-steps g c =
    c.in_ok-push_step.ensures.steps ∙ ap (λ (l : List Oid). c.args.steps.now + sum_by (reads_out (g.A.Adjacent.edges c.args.graph.now)) l) c.as_slice.ensures
