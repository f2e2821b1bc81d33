use Rattle.std.proofs.Common.{sym, ◌∙◌, refl, arith}
use Rattle.std.proofs.lemmas.List.{map-id}
use Rattle.oem_graph.specs.Plans.{PlannedGraph}
use Rattle.oem_graph.proofs.PlanLaws.{whole-is, plan-whole}
use Rattle.oem_graph.proofs.linked_graph.whole_plan.Goals as goal

pub join_order-requires : goal.join_order-requires
join_order-requires c = rw (c.as_slice-2.ensures, c.in_ok-come.ensures, c.as_slice.ensures) c.requires.ordered.edges_ascend

pub invariant_of-result : goal.invariant_of-result
invariant_of-result c =
    let given = sym (map-id c.in_ok-given.given) ∙ c.in_ok-given.ensures ∙ map-id c.args.changes.now.made in
    plan-whole c.args.changes.now c.args.next c.requires c.new.result c.in_ok-given.given c.new-5.result c.in_ok-come.come _ _ _
    c.new.ensures c.new-5.ensures given (c.in_ok-come.ensures ∙ c.as_slice.ensures) (rw c.as_slice-2.ensures at c.in_ok-by_child.ensures)
    c.in_ok-keys.ensures.items (omega (arith, c.in_ok-keys.ensures.exact, c.len.ensures))

pub returns : goal.returns
returns c =
    let given = sym (map-id c.in_ok-given.given) ∙ c.in_ok-given.ensures ∙ map-id c.args.changes.now.made in
    let plan : PlannedGraph = record {
      names = c.in_ok-names.names;
      dead = c.new.result;
      delta = record {
        names_gone = c.new-2.result;
        names_come = c.new-3.result;
        objects_gone = c.new-4.result;
        objects_come = c.in_ok-given.given;
        edges_gone = c.new-5.result;
        edges_come = c.in_ok-come.come;
      };
      next = c.args.next;
    } in
    record { plan = whole-is c.args.changes.now c.args.next c.requires plan c.in_ok-names.ensures given (c.in_ok-come.ensures ∙ c.as_slice.ensures) refl }
