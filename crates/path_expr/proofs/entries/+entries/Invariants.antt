use Rattle.std.proofs.Common.{◌≡◌, ◌+◌, ◌≤◌, length, drop, map}
use Rattle.lore_base.specs.Paths.{path_tree, trees_of, leaves_of}
use Rattle.path_expr.specs.Machines.{IsIn, UpToEnd}
use Rattle.path_expr.specs.inside.Compiled.{BeginsInTurn, BeginsSome, IsSet}
use Rattle.path_expr.proofs.entries.+entries.Given as goal

abbrev pub decreases-entry : goal.decreases-entry
decreases-entry l = goal.size-entry l

abbrev pub decreases-entry_in_turn : goal.decreases-entry_in_turn
decreases-entry_in_turn l = goal.size-entry_in_turn l

abbrev pub decreases-entry_of_some : goal.decreases-entry_of_some
decreases-entry_of_some l = goal.size-entry_of_some l

abbrev pub invariant-entry_in_turn-parts : goal.invariant-entry_in_turn-parts
invariant-entry_in_turn-parts l =
    let done = trees_of (drop l.left (map path_tree l.parts)) in
    record {
      states : IsSet l.reached.states (BeginsInTurn done l.fn.base (IsIn l.fn.then));
      next : l.reached.next ≡ l.fn.base + leaves_of done;
      within_end : UpToEnd l.reached.states;
      room : l.fn.base + leaves_of (trees_of (map path_tree l.parts)) ≤ 64;
      within : l.left ≤ length l.parts;
    }

abbrev pub decreases-entry_in_turn-parts : goal.decreases-entry_in_turn-parts
decreases-entry_in_turn-parts l = l.left

abbrev pub invariant-entry_of_some-parts : goal.invariant-entry_of_some-parts
invariant-entry_of_some-parts l =
    let done = trees_of (drop l.left (map path_tree l.parts)) in
    record {
      states : IsSet l.states (BeginsSome done l.fn.base (IsIn l.fn.then));
      next : l.next ≡ l.fn.base + leaves_of done;
      within_end : UpToEnd l.states;
      room : l.fn.base + leaves_of (trees_of (map path_tree l.parts)) ≤ 64;
      within : l.left ≤ length l.parts;
    }

abbrev pub decreases-entry_of_some-parts : goal.decreases-entry_of_some-parts
decreases-entry_of_some-parts l = l.left
