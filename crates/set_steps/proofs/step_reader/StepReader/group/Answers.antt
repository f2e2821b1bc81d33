use Rattle.std.proofs.Common.{List, ap, ◌∙◌, subst}
use Rattle.set_steps.specs.Types.{Oid, Label, Edge}
use Rattle.set_steps.specs.inside.Arcs.{arcs_of, AreGroups, AreStepsBy}
use Rattle.set_steps.proofs.ArcLaws.{are-arcs}
use Rattle.set_steps.proofs.GroupLaws.{steps-from}
use Rattle.set_steps.proofs.step_reader.StepReader.group.Goals as goal

pub returns-in-Some : goal.returns-in-Some
returns-in-Some c =
    subst (λ (read : List Edge). AreStepsBy read c.in-Some.found.items) c.as_slice.ensures
    (rw c.in-Some.is at c.in_ok-found.ensures)

pub returns : goal.returns
returns c = λ edges set is.
    let arcs =
    are-arcs edges set c.list_arcs.new.arcs c.put_in_order.new.arcs
    (c.in_ok-list_arcs.ensures ∙ ap (λ (l : List Edge). arcs_of l) (c.as_slice-2.ensures ∙ is))
    c.in_ok-put_in_order.ensures.ascend c.in_ok-put_in_order.ensures.members in
    steps-from edges set c.put_in_order.new.arcs c.in_ok-row.row.items arcs
    (subst (λ (l : List (Label × Oid)). AreGroups l c.in_ok-row.row.items) c.as_slice-3.ensures c.in_ok-row.ensures)
