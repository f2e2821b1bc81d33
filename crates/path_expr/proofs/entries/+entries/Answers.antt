use Rattle.std.proofs.Common.{drop, map, sym, ap, arith, subst}
use Rattle.lore_base.specs.Paths.{PathTrees, path_tree, trees_of, leaves_of}
use Rattle.path_expr.specs.Machines.{IsIn}
use Rattle.path_expr.specs.inside.Compiled.{BeginsInTurn, BeginsSome, IsSet}
use Rattle.path_expr.proofs.BeginLaws.{in_turn_more, some_more, join_within}
use Rattle.path_expr.proofs.entries.+entries.Goals as goal

pub entry_in_turn-parts-preserved : goal.entry_in_turn-parts-preserved
entry_in_turn-parts-preserved t c =
    let done = trees_of (drop c.parts.left (map path_tree c.as_slice-parts.result.now)) in
    let part = path_tree c.last_part.result.now in
    record {
      states = subst (λ (parts : PathTrees). IsSet c.entry-reached.result.states (BeginsInTurn parts c.args.base (IsIn c.args.then))) (sym c.last_part.ensures.last)
          (in_turn_more part done c.args.base c.parts.reached.next (IsIn c.args.then) c.parts.reached.states c.entry-reached.result.states
          c.parts.invariant.next c.parts.invariant.states c.entry-reached.ensures.states);
      next = omega (arith, ap leaves_of c.last_part.ensures.last);
      within_end = c.entry-reached.ensures.within;
      room = omega arith;
      within = omega arith;
    }

pub entry_of_some-parts-preserved : goal.entry_of_some-parts-preserved
entry_of_some-parts-preserved t c =
    let done = trees_of (drop c.parts.left (map path_tree c.as_slice-parts.result.now)) in
    let part = path_tree c.last_part.result.now in
    record {
      states = subst (λ (parts : PathTrees). IsSet c.join-states.result (BeginsSome parts c.args.base (IsIn c.args.then))) (sym c.last_part.ensures.last)
          (some_more part done c.args.base c.parts.next (IsIn c.args.then) c.parts.states c.entry-part.result.states c.join-states.result
          c.parts.invariant.next c.parts.invariant.states c.entry-part.ensures.states c.join-states.ensures);
      next = omega (arith, ap leaves_of c.last_part.ensures.last);
      within_end = join_within c.parts.states c.entry-part.result.states c.join-states.result c.join-states.ensures c.parts.invariant.within_end c.entry-part.ensures.within;
      room = omega arith;
      within = omega arith;
    }
