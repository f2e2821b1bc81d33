use Rattle.std.proofs.Common.{IfOk, subst}
use Rattle.std.proofs.lemmas.Result.{IfOk-weaker}
use Rattle.lore_base.specs.Paths.{Reaches}
use Rattle.lore_base.specs.TargetSets.{ListsInOrder}
use Rattle.lorel_eval.specs.inside.FoundObjects.{oids_of}
use Rattle.lorel_eval.specs.inside.Ready.{ready_path}
use Rattle.lorel_eval.specs.inside.Subjects.{SlotsOver}
use Rattle.lorel_eval.proofs.SubjectLaws.{reached_from}
use Rattle.lorel_eval.proofs.subject.Subject.reached.Goals as goal

pub returns : goal.returns
returns g c =
    let path = ready_path c.args.path.now in
    let start = c.in-Some.start in
    IfOk-weaker c.reach.result _ _ (λ found. reached_from c.args.self.now c.args.objects.now path start (oids_of found) c.in-Some.ensures)
    (subst (λ (over : SlotsOver). IfOk c.reach.result (λ found. ListsInOrder (Reaches path.labels over.edges path.rest start) (oids_of found)))
    c.self.view_is c.reach.ensures)
