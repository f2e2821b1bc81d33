use Rattle.std.proofs.Common.{List, length, refl, ap}
use Rattle.path_expr.specs.Types.{Leaf}
use Rattle.lore_base.specs.Paths.{path_tree}
use Rattle.path_expr.specs.Machines.{Machine}
use Rattle.path_expr.proofs.ReadLaws.{built}
use Rattle.path_expr.proofs.automata.Automaton.build.Goals as goal

pub returns : goal.returns
returns c =
    built (path_tree c.args.path.now) c.one.result c.in_ok-start.start _ c.compile.new.automaton _ c.in_ok-start.ensures
    (ap (λ (ls : List Leaf). length ls) c.empty-automaton.ensures) (ap (λ (m : Machine). m.leaves) c.automaton.view_is) (ap (λ (m : Machine). m.follow) c.automaton.view_is)
    refl c.automaton.invariant.few c.one.ensures
