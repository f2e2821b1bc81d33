use Rattle.std.proofs.Common.{ℕ, drop, map, length, sym, ap, ◌∙◌, arith, subst}
use Rattle.lore_base.specs.declared.paths.Path.{Path}
use Rattle.lore_base.specs.Paths.{PathTree, PathTrees, path_tree, trees_of}
use Rattle.path_expr.specs.Machines.{IsIn}
use Rattle.path_expr.specs.inside.Compiled.{Begins, IsSet, LaysPath, LaysInTurn, LaysEach}
use Rattle.path_expr.proofs.PathLaws.{star_tree, plus_tree}
use Rattle.path_expr.proofs.BeginLaws.{join_within}
use Rattle.path_expr.proofs.CompiledLaws.{lays_star, lays_plus, lays_turn, lays_choice}
use Rattle.path_expr.proofs.compile.+compile.Goals as goal

pub compile-returns-in_ok-compile-in-Star : goal.compile-returns-in_ok-compile-in-Star
compile-returns-in_ok-compile-in-Star t c =
    let old = c.args.automaton.now in
    let new = c.compile-in-Star.new.automaton in
    let first = c.entry.result.states in
    let joined = c.join-again.result in
    let begins : IsSet first (Begins (path_tree c.in-Star.part.value) (length old.leaves) (IsIn c.args.then)) =
    subst (λ (p : Path). IsSet first (Begins (path_tree p) (length old.leaves) (IsIn c.args.then))) c.deref-in-Star.ensures
    (subst (λ (n : ℕ). IsSet first (Begins (path_tree c.deref-in-Star.result.now) n (IsIn c.args.then))) c.leaf_count-base.ensures.exact c.entry.ensures.states) in
    let laid : LaysPath (path_tree c.in-Star.part.value) joined c.in_ok-compile-in-Star.field-0 old new =
    subst (λ (p : Path). LaysPath (path_tree p) joined c.in_ok-compile-in-Star.field-0 old new) c.deref-in-Star-2.ensures c.in_ok-compile-in-Star.ensures in
    subst (λ (tree : PathTree). LaysPath tree c.args.then joined old new) (sym (ap path_tree c.in-Star.is ∙ star_tree c.in-Star.part))
    (lays_star (path_tree c.in-Star.part.value) c.args.then first joined c.in_ok-compile-in-Star.field-0 old new begins c.join-again.ensures laid
    (join_within first c.args.then joined c.join-again.ensures c.entry.ensures.within c.requires.within))

pub compile-returns-in_ok-compile-in-Plus : goal.compile-returns-in_ok-compile-in-Plus
compile-returns-in_ok-compile-in-Plus t c =
    let old = c.args.automaton.now in
    let new = c.compile-in-Plus.new.automaton in
    let first = c.entry-in-Plus.result.states in
    let joined = c.join-in-Plus.result in
    let begins : IsSet first (Begins (path_tree c.in-Plus.part.value) (length old.leaves) (IsIn c.args.then)) =
    subst (λ (p : Path). IsSet first (Begins (path_tree p) (length old.leaves) (IsIn c.args.then))) c.deref-in-Plus.ensures
    (subst (λ (n : ℕ). IsSet first (Begins (path_tree c.deref-in-Plus.result.now) n (IsIn c.args.then))) c.leaf_count-base.ensures.exact c.entry-in-Plus.ensures.states) in
    let laid : LaysPath (path_tree c.in-Plus.part.value) joined c.in_ok-compile-in-Plus.field-0 old new =
    subst (λ (p : Path). LaysPath (path_tree p) joined c.in_ok-compile-in-Plus.field-0 old new) c.deref-in-Plus-2.ensures c.in_ok-compile-in-Plus.ensures in
    subst (λ (tree : PathTree). LaysPath tree c.args.then first old new) (sym (ap path_tree c.in-Plus.is ∙ plus_tree c.in-Plus.part))
    (lays_plus (path_tree c.in-Plus.part.value) c.args.then first joined c.in_ok-compile-in-Plus.field-0 old new begins c.join-in-Plus.ensures laid
    c.entry-in-Plus.ensures.within)

pub compile_each-parts-preserved : goal.compile_each-parts-preserved
compile_each-parts-preserved t c =
    let done = trees_of (drop c.parts.left (map path_tree c.as_slice-parts.result.now)) in
    record {
      laid = subst (λ (parts : PathTrees). LaysEach parts c.args.then c.join-states.result c.args.automaton.now c.compile.new.automaton) (sym c.last_part.ensures.last)
          (lays_choice (path_tree c.last_part.result.now) done c.args.then c.parts.states c.in_ok-first.first c.join-states.result
          c.args.automaton.now c.parts.automaton c.compile.new.automaton c.parts.invariant.laid c.in_ok-first.ensures c.join-states.ensures);
      room = omega arith;
      within = omega arith;
    }

pub compile_in_turn-parts-preserved : goal.compile_in_turn-parts-preserved
compile_in_turn-parts-preserved t c =
    let done = trees_of (drop c.parts.left (map path_tree c.as_slice-parts.result.now)) in
    record {
      laid = subst (λ (parts : PathTrees). LaysInTurn parts c.args.then c.in_ok-states.states c.args.automaton.now c.compile.new.automaton) (sym c.last_part.ensures.last)
          (lays_turn (path_tree c.last_part.result.now) done c.args.then c.parts.states c.in_ok-states.states
          c.args.automaton.now c.parts.automaton c.compile.new.automaton c.parts.invariant.laid c.in_ok-states.ensures);
      room = omega arith;
      within = omega arith;
    }
