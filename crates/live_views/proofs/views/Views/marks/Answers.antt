use Rattle.std.proofs.Common.{ℕ, List, [], ◌∷◌, ◌++◌, true≢false, sym, ap, subst, ◌∙◌}
use Rattle.lorel_trees.specs.Trees.{select_tree}
use Rattle.live_views.specs.Concerns.{Concerns}
use Rattle.live_views.specs.Views.{View, NamedView}
use Rattle.live_views.proofs.MarkLaws.{AreMarked, AreMarked-none, AreMarked-passed, AreMarked-failed, marks_exact}
use Rattle.live_views.proofs.views.Views.marks.Goals as goal

pub views-init : goal.views-init
views-init c =
    let Passes = λ (view : View). Concerns (c.args.labels.now ++ c.args.new_labels.now) (select_tree view.select) c.args.delta.now in
    let kept = c.self.inside.kept.entries in
    let all = c.into_iter-name-iterator.result in
    let gives = c.into_iter-name-iterator.ensures.into_iter_gives in
    subst (λ (views : List NamedView). AreMarked Passes views all c.new-names.result) c.self.view_is
    (subst (λ (left : List NamedView). AreMarked Passes kept left c.new-names.result) (sym gives.0)
    (AreMarked-none Passes kept c.new-names.result c.new-names.ensures gives.5))

pub views-preserved-in_ok-push : goal.views-preserved-in_ok-push
views-preserved-in_ok-push c =
    let labels = c.args.labels.now ++ c.args.new_labels.now in
    let Passes = λ (view : View). Concerns labels (select_tree view.select) c.args.delta.now in
    let entry : NamedView = (c.in-Some.name.now, c.in-Some.view.now) in
    let here = subst (λ (left : List NamedView). AreMarked Passes c.args.self.now left c.views.names) c.in-Some.ensures.steps c.views.invariant in
    let passes = (c.is_concerned.ensures labels c.args.delta.now c.in_ok-touched.ensures).0 c.if-is_concerned.true in
    let pushed = c.in_ok-push.ensures.ok ∙ ap (λ (name : List ℕ). c.views.names ++ name ∷ []) c.in_ok-try_copy.ensures in
    subst (λ (marks : List (List ℕ)). AreMarked Passes c.args.self.now c.next.new.self marks) (sym pushed)
    (AreMarked-passed Passes c.args.self.now entry c.next.new.self c.views.names passes here)

pub views-preserved : goal.views-preserved
views-preserved c =
    let labels = c.args.labels.now ++ c.args.new_labels.now in
    let Passes = λ (view : View). Concerns labels (select_tree view.select) c.args.delta.now in
    let entry : NamedView = (c.in-Some.name.now, c.in-Some.view.now) in
    let here = subst (λ (left : List NamedView). AreMarked Passes c.args.self.now left c.views.names) c.in-Some.ensures.steps c.views.invariant in
    let told = c.is_concerned.ensures labels c.args.delta.now c.in_ok-touched.ensures in
    AreMarked-failed Passes c.args.self.now entry c.next.new.self c.views.names
    (λ passes. true≢false (sym (told.1 passes) ∙ c.if-is_concerned.false)) here

pub returns-clause-exact : goal.returns-clause-exact
returns-clause-exact c =
    marks_exact (λ (view : View). Concerns (c.args.labels.now ++ c.args.new_labels.now) (select_tree view.select) c.args.delta.now) c.args.self.now
    c.views.name-iterator c.views.names c.in-None.ensures.steps.0 c.views.invariant
