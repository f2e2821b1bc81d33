use Rattle.lore_base.specs.Paths.{path_tree}
use Rattle.product_walk.proofs.PathLaws.{turned_spells}
use Rattle.product_walk.proofs.ways_back.turn_automaton.Goals as goal

pub returns : goal.returns
returns c = turned_spells c.in_ok-automaton.automaton c.in_ok-turned.turned (path_tree c.args.path.now) c.in_ok-automaton.ensures c.in_ok-turned.ensures
