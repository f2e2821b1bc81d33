use Rattle.std.proofs.Common.{List, IfOk, ◌∙◌, subst}
use Rattle.std.proofs.lemmas.Result.{IfOk-weaker}
use Rattle.lore_base.specs.TargetSets.{ListsInOrder}
use Rattle.object_search.specs.Reached.{IsWalkedFrom}
use Rattle.dump_text.specs.Types.{Edge}
use Rattle.dump_text.proofs.ReachLaws.{reached_in_order}
use Rattle.dump_text.proofs.reach.named_objects.Goals as goal

pub returns : goal.returns
returns c =
    let walked = subst (λ (l : List Edge). IfOk c.reached_from.result (ListsInOrder (IsWalkedFrom l c.as_slice.result.now))) c.new-arcs.ensures c.reached_from.ensures.reached in
    IfOk-weaker c.reached_from.result _ _
    (λ oids lists. reached_in_order c.args.edges.now c.args.names.now c.as_slice.result.now oids (c.as_slice.ensures ∙ c.in_ok-starts.ensures) lists)
    walked
