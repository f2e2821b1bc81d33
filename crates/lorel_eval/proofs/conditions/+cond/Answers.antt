use Rattle.std.proofs.Common.{◌↔◌, [], ◌∷◌, ◌++◌, IsTrue, IfOk, get_or, refl, sym, subst}
use Rattle.std.proofs.lemmas.List.Elements.{All-more}
use Rattle.lore_base.specs.Walks.{oid_of}
use Rattle.lorel_bound.specs.Conditions.{CondOf}
use Rattle.lorel_eval.specs.inside.FoundObjects.{oids_of}
use Rattle.lorel_eval.specs.inside.Labelled.{LabelledPath}
use Rattle.lorel_eval.specs.inside.Ready.{ready_path, ready_tree}
use Rattle.lorel_eval.specs.inside.Subjects.{ReachedIn, HoldsIn}
use Rattle.lorel_eval.proofs.ReadyLaws.{exists_ready, for_all_ready, compare_ready, same_ready}
use Rattle.lorel_eval.proofs.ReachedLaws.{some_listed, every_listed}
use Rattle.lorel_eval.proofs.SubjectLaws.{holds_around}
use Rattle.lorel_eval.proofs.ScanLaws.{all_pass}
use Rattle.lorel_eval.proofs.conditions.+cond.Goals as goal

pub cond_holds-returns-in_ok-found-in-Exists : goal.cond_holds-returns-in_ok-found-in-Exists
cond_holds-returns-in_ok-found-in-Exists g t c =
    let over = c.args.subject.now in
    let objects = c.args.objects.now in
    let body = c.deref-in-Exists.result.now in
    let is = exists_ready c.args.cond.now body c.in-Exists.path c.in-Exists.body c.in-Exists.is c.deref-in-Exists.ensures in
    subst (λ (cond : CondOf LabelledPath). IfOk c.some_makes.result (λ answer. IsTrue answer ↔ HoldsIn over objects cond)) (sym is)
    (some_listed (ReachedIn over objects (ready_path c.in-Exists.path)) (λ oid. HoldsIn over (objects ++ oid ∷ []) (ready_tree body))
    (oids_of c.in_ok-found-in-Exists.found) c.as_slice.result.now c.some_makes.result c.in_ok-found-in-Exists.ensures c.as_slice.ensures c.some_makes.ensures)

pub cond_holds-returns-in_ok-found-in-ForAll : goal.cond_holds-returns-in_ok-found-in-ForAll
cond_holds-returns-in_ok-found-in-ForAll g t c =
    let over = c.args.subject.now in
    let objects = c.args.objects.now in
    let body = c.deref-in-ForAll.result.now in
    let is = for_all_ready c.args.cond.now body c.in-ForAll.path c.in-ForAll.body c.in-ForAll.is c.deref-in-ForAll.ensures in
    subst (λ (cond : CondOf LabelledPath). IfOk c.every_makes.result (λ answer. IsTrue answer ↔ HoldsIn over objects cond)) (sym is)
    (every_listed (ReachedIn over objects (ready_path c.in-ForAll.path)) (λ oid. HoldsIn over (objects ++ oid ∷ []) (ready_tree body))
    (oids_of c.in_ok-found-in-ForAll.found) c.as_slice-in-ForAll.result.now c.every_makes.result c.in_ok-found-in-ForAll.ensures c.as_slice-in-ForAll.ensures c.every_makes.ensures)

pub cond_holds-returns-in-Compare : goal.cond_holds-returns-in-Compare
cond_holds-returns-in-Compare g t c =
    let is = compare_ready c.args.cond.now c.in-Compare.left c.in-Compare.op c.in-Compare.right c.in-Compare.is in
    subst (λ (cond : CondOf LabelledPath). IfOk c.comparison_holds.result (λ answer. IsTrue answer ↔ HoldsIn c.args.subject.now c.args.objects.now cond)) (sym is)
    c.comparison_holds.ensures

pub cond_holds-returns-in-Same : goal.cond_holds-returns-in-Same
cond_holds-returns-in-Same g t c =
    let is = same_ready c.args.cond.now c.in-Same.left c.in-Same.right c.in-Same.is in
    subst (λ (cond : CondOf LabelledPath). IfOk c.paths_meet.result (λ answer. IsTrue answer ↔ HoldsIn c.args.subject.now c.args.objects.now cond)) (sym is)
    c.paths_meet.ensures

pub every_makes-found-preserved : goal.every_makes-found-preserved
every_makes-found-preserved g t c =
    let over = c.args.subject.now in
    let objects = c.args.objects.now in
    let body = ready_tree c.args.body.now in
    let makes = c.in_ok-cond_holds.ensures.0 c.if-not-branch.false in
    All-more (λ oid. HoldsIn over (objects ++ oid ∷ []) body) c.args.found.now c.found.oid-index (oid_of 0) c.found-test.true c.found.invariant
    (holds_around over body c.as_slice.result.now c.in_ok-within.within (objects ++ get_or c.args.found.now c.found.oid-index (oid_of 0) ∷ [])
    c.as_slice.ensures c.in_ok-within.ensures makes)

pub every_makes-returns : goal.every_makes-returns
every_makes-returns g t c = (
  λ yes. all_pass (λ oid. HoldsIn c.args.subject.now (c.args.objects.now ++ oid ∷ []) (ready_tree c.args.body.now)) c.args.found.now c.found.oid-index c.found-test.false c.found.invariant,
  λ every. refl,
)
