use Rattle.std.proofs.Common.{◌≡◌, not, Less, List, sym, ◌∙◌, subst, arith}
use Rattle.std.proofs.lemmas.List.Kept.{AllPairs-filter}
use Rattle.lore_base.specs.Walks.{edge_cmp}
use Rattle.lore_base.specs.Databases.{AreAscendingEdges}
use Rattle.graph_changes.specs.Types.{Edge}
use Rattle.graph_changes.specs.Left.{is_among}
use Rattle.graph_changes.proofs.edge_plans.planned_edges.Goals as goal

pub join_order-requires : goal.join_order-requires
join_order-requires c = subst (λ (l : List Edge). AreAscendingEdges l) (sym (c.as_slice-3.ensures ∙ c.in_ok-come.ensures))
    (AllPairs-filter (λ a b. edge_cmp a b ≡ Less) (λ (e : Edge). not (is_among c.args.dead.now e.parent)) c.in_ok-added.added.absent c.in_ok-added.ensures.absent_ascend)

pub returns : goal.returns
returns c = record {
  lost = c.in_ok-removed.removed.there;
  lost_absent = c.in_ok-removed.removed.absent;
  removed = rw c.as_slice.ensures at c.in_ok-removed.ensures;
  fresh_there = c.in_ok-added.added.there;
  fresh = c.in_ok-added.added.absent;
  added = rw c.as_slice-2.ensures at c.in_ok-added.ensures;
  goes = c.in_ok-gone.ensures;
  comes = c.in_ok-come.ensures;
  places = rw c.as_slice-3.ensures at c.in_ok-by_child.ensures;
  no_keys = c.in_ok-keys.ensures.items;
  key_room = omega (arith, c.in_ok-keys.ensures.exact, c.len.ensures);
}
