use Rattle.std.proofs.Common.{◌+◌, ◌≤◌, length, drop, map}
use Rattle.lore_base.specs.Paths.{path_tree, trees_of, leaves_of}
use Rattle.path_expr.specs.inside.Compiled.{LaysInTurn, LaysEach}
use Rattle.path_expr.proofs.compile.+compile.Given as goal

abbrev pub decreases-compile : goal.decreases-compile
decreases-compile l = goal.size-compile l

abbrev pub decreases-compile_in_turn : goal.decreases-compile_in_turn
decreases-compile_in_turn l = goal.size-compile_in_turn l

abbrev pub decreases-compile_each : goal.decreases-compile_each
decreases-compile_each l = goal.size-compile_each l

abbrev pub invariant-compile_in_turn-parts : goal.invariant-compile_in_turn-parts
invariant-compile_in_turn-parts l = record {
  laid : LaysInTurn (trees_of (drop l.left (map path_tree l.parts))) l.fn.then l.states l.fn.automaton l.automaton;
  room : length l.fn.automaton.leaves + leaves_of (trees_of (map path_tree l.parts)) ≤ 64;
  within : l.left ≤ length l.parts;
}

abbrev pub decreases-compile_in_turn-parts : goal.decreases-compile_in_turn-parts
decreases-compile_in_turn-parts l = l.left

abbrev pub invariant-compile_each-parts : goal.invariant-compile_each-parts
invariant-compile_each-parts l = record {
  laid : LaysEach (trees_of (drop l.left (map path_tree l.parts))) l.fn.then l.states l.fn.automaton l.automaton;
  room : length l.fn.automaton.leaves + leaves_of (trees_of (map path_tree l.parts)) ≤ 64;
  within : l.left ≤ length l.parts;
}

abbrev pub decreases-compile_each-parts : goal.decreases-compile_each-parts
decreases-compile_each-parts l = l.left
