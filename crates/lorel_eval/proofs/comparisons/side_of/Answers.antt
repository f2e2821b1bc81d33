use Rattle.std.proofs.Common.{◌↔◌, sym, ap, subst}
use Rattle.lorel_bound.specs.Conditions.{OperandOf}
use Rattle.lorel_eval.specs.inside.FoundObjects.{oids_of}
use Rattle.lorel_eval.specs.inside.Labelled.{LabelledPath}
use Rattle.lorel_eval.specs.inside.Ready.{ready_path, ready_operand}
use Rattle.lorel_eval.specs.inside.Subjects.{GivesIn}
use Rattle.lorel_eval.specs.inside.Sides.{SideGives}
use Rattle.lorel_eval.specs.declared.comparisons.Side.TheVariants.{Objects}
use Rattle.lorel_eval.proofs.SideLaws.{objects_give}
use Rattle.lorel_eval.proofs.comparisons.side_of.Goals as goal

pub returns-in_ok-found-in-At : goal.returns-in_ok-found-in-At
returns-in_ok-found-in-At g c = λ value.
    let over = c.args.subject.now in
    let found = c.in_ok-found-in-At.found in
    subst (λ (operand : OperandOf LabelledPath). SideGives over.objects (Objects found) value ↔ GivesIn over c.args.objects.now operand value)
    (sym (ap ready_operand c.in-At.is))
    (objects_give over c.args.objects.now (ready_path c.in-At.path) (oids_of found) value c.in_ok-found-in-At.ensures)
