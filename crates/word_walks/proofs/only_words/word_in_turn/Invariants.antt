use Rattle.std.proofs.Common.{◌≡◌, ◌↔◌, List, map, take}
use Rattle.lore_base.specs.Paths.{path_tree, trees_of, SpellInTurn}
use Rattle.word_walks.specs.Types.{Label}
use Rattle.word_walks.proofs.only_words.word_in_turn.Given as goal

abbrev pub invariant-parts : goal.invariant-parts
invariant-parts l = (word : List Label) → SpellInTurn l.labels (trees_of (map path_tree (take l.part-index l.parts))) word ↔ (word ≡ l.word)
