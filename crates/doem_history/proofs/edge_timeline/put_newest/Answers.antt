use Rattle.std.proofs.Common.{◌+◌, ap, sym, subst, List, ◌++◌, take, get_or, length-take, append-nil, arith}
use Rattle.std.proofs.lemmas.List.{take_more, take_all}
use Rattle.indexmap.specs.IndexMap.{get}
use Rattle.doem_history.specs.Types.{Edge}
use Rattle.doem_history.specs.inside.Chains.{edge_eq, AreNewest}
use Rattle.doem_history.proofs.NewestLaws.{newest_on}
use Rattle.doem_history.proofs.edge_timeline.put_newest.Goals as goal

pub edges-init : goal.edges-init
edges-init c = record {
  link_is = omega arith;
  room_left = omega arith;
  newest = λ before long are. subst (λ (l : List Edge). AreNewest l (get edge_eq c.args.newest.now)) (sym (append-nil before)) are;
}

pub put_link-requires : goal.put_link-requires
put_link-requires c =
    let long = length-take c.edges.edge-index c.args.edges.now in
    omega (arith, long, c.edges-test.true, c.edges.invariant.room_left, c.requires.room)

pub edges-preserved : goal.edges-preserved
edges-preserved c =
    let first : Edge = record { parent = record { 0 = 0 }; label = record { 0 = 0 }; child = record { 0 = 0 } } in
    let edge : Edge = get_or c.args.edges.now c.edges.edge-index first in
    let seen = take c.edges.edge-index c.args.edges.now in
    let more = take_more c.args.edges.now c.edges.edge-index first c.edges-test.true in
    let long = length-take c.edges.edge-index c.args.edges.now in
    let longer = length-take (c.edges.edge-index + 1) c.args.edges.now in
    record {
      link_is = omega (arith, c.edges.invariant.link_is, long, longer, c.edges-test.true);
      room_left = omega (arith, c.edges.invariant.room_left, c.put_link.ensures.room, long, longer, c.edges-test.true);
      newest = λ before count are. subst (λ (l : List Edge). AreNewest (before ++ l) (get edge_eq c.put_link.new.newest)) (sym more)
          (newest_on before seen edge c.args.count (c.edges.link + 1) (get edge_eq c.edges.newest) (get edge_eq c.put_link.new.newest)
          count (ap (λ n. n + 1) c.edges.invariant.link_is) (c.edges.invariant.newest before count are) c.put_link.ensures.told);
    }

pub returns-clause-newest : goal.returns-clause-newest
returns-clause-newest c = λ before count are.
    subst (λ (l : List Edge). AreNewest (before ++ l) (get edge_eq c.edges.newest)) (take_all c.edges.edge-index c.args.edges.now c.edges-test.false) (c.edges.invariant.newest before count are)
