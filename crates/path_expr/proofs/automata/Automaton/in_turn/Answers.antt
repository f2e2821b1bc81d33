use Rattle.std.proofs.Common.{List, length, refl, ap}
use Rattle.path_expr.specs.Types.{Leaf}
use Rattle.lore_base.specs.Paths.{seq, path_trees, trees_of}
use Rattle.path_expr.specs.Machines.{Machine}
use Rattle.path_expr.proofs.ReadLaws.{built}
use Rattle.path_expr.proofs.automata.Automaton.in_turn.Goals as goal

pub returns : goal.returns
returns c =
    built (seq (trees_of (path_trees c.args.parts.now))) c.one.result c.in_ok-start.start _ c.compile_in_turn.new.automaton _ c.in_ok-start.ensures
    (ap (λ (ls : List Leaf). length ls) c.empty-automaton.ensures) (ap (λ (m : Machine). m.leaves) c.automaton.view_is) (ap (λ (m : Machine). m.follow) c.automaton.view_is)
    refl c.automaton.invariant.few c.one.ensures
