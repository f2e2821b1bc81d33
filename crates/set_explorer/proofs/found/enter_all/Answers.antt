use Rattle.std.proofs.Common.{◌≡◌, [], ◌∷◌, ◌++◌, ap, sym, ◌∙◌, subst, append_assoc, arith}
use Rattle.std.proofs.lemmas.List.{append-nil}
use Rattle.std.proofs.lemmas.Result.{err_from_is_err_and}
use Rattle.set_explorer.specs.Types.{GuideFault}
use Rattle.set_explorer.specs.inside.Founds.{found_sets, AreStopped, target_sets, EntersAll}
use Rattle.set_explorer.proofs.FoundSteps.{entering-start, entering-more, entering-stopped, none-left, target-there}
use Rattle.set_explorer.proofs.found.enter_all.Goals as goal

pub targets-init : goal.targets-init
targets-init g c = record {
  all = entering-start c.args.guide.now.nodes.now c.args.limit c.args.found.now c.new-row.result c.new-row.ensures
      c.requires.found c.requires.fit;
  whole = c.into_iter-key-iterator.ensures.into_iter_gives.0;
}

pub targets-preserved : goal.targets-preserved
targets-preserved g c =
    let before = c.targets.invariant in
    record {
      all = rw c.in_ok-push.ensures.ok
          (entering-more c.args.guide.now.nodes.now c.args.limit c.args.found.now c.targets.found c.enter.new.self
          c.targets.yielded
          c.targets.row c.in-Some.key c.in-Some.target c.in_ok-node.node before.all c.in_ok-node.ensures.entered);
      whole = append_assoc c.targets.yielded ((c.in-Some.key, c.in-Some.target) ∷ []) c.next.new.self.rest.items
          ∙ sym (ap (λ l. c.targets.yielded ++ l) c.in-Some.ensures.steps.0) ∙ before.whole;
    }

pub returns-in_err-node-clause-stopped : goal.returns-in_err-node-clause-stopped
returns-in_err-node-clause-stopped g c =
    let before = c.targets.invariant in
    let kept = c.args.guide.now.nodes.now in
    let is = sym (sym (ap (λ l. c.targets.yielded ++ l) c.in-Some.ensures.steps.0) ∙ before.whole) in
    let p = err_from_is_err_and c.from_residual.result c.from_residual.ensures.1 in
    rw p.1 (subst (λ (f : GuideFault). AreStopped f c.args.limit (found_sets kept c.args.found.now)
    (target_sets kept c.args.targets.items))
    (sym p.2)
    (entering-stopped kept c.args.limit c.args.found.now c.targets.found c.args.targets.items c.targets.yielded
    c.next.new.self.rest.items c.targets.row c.in-Some.key c.in-Some.target c.in_err-node.field-0.0 is before.all
    c.in_err-node.ensures.stops))

pub returns-clause-entered : goal.returns-clause-entered
returns-clause-entered g c =
    let before = c.targets.invariant in
    let done : c.targets.yielded ≡ c.args.targets.items = sym (append-nil c.targets.yielded)
    ∙ ap (λ l. c.targets.yielded ++ l) (none-left c.targets.key-iterator.rest.items
    (omega (arith, c.in-None.ensures.steps.0, c.targets.key-iterator.rest.ok.0))) ∙ before.whole in
    subst (λ l. EntersAll c.args.guide.now.nodes.now c.args.limit c.args.found.now l c.targets.row c.targets.found) done
    before.all

pub enter-requires-clause-there : goal.enter-requires-clause-there
enter-requires-clause-there g c =
    let is = sym (sym (ap (λ l. c.targets.yielded ++ l) c.in-Some.ensures.steps.0) ∙ c.targets.invariant.whole) in
    target-there c.args.guide.now.nodes.now c.args.targets.items c.targets.yielded c.next.new.self.rest.items c.in-Some.key
    c.in-Some.target is c.requires.there
