-- A group is a choice of sequences, and the limit of nesting is reached.
use Rattle.std.proofs.Common.{refl, lit≤}
use Rattle.lorel_trees.specs.Grammar as g
use Rattle.lorel_trees.specs.Paths.{tree_seq, trees_choices, tree_base}
use Rattle.grammar_laws.specs.Laws.{IsSequence, AreSequences, IsChoice, MakesChoice, ReachesLimit, deep}

sequence_of : (one : g.Seq) → IsSequence (tree_seq one)
sequence_of (g.sequence first others) = tt

sequences_of : (others : g.Choices) → AreSequences (trees_choices others)
sequences_of g.no_choices = tt
sequences_of (g.bar first others) = (sequence_of first, sequences_of others)

choice_of : (inner : g.Alt) → IsChoice (tree_base (g.group inner))
choice_of (g.choice first others) = (sequence_of first, sequences_of others)

pub makes_choice : MakesChoice
makes_choice = record {
  spelled = λ inner rest. refl;
  tree = choice_of;
}

pub reaches_limit : ReachesLimit
reaches_limit = record {
  has = record { by = deep 63 15 4; deep = lit≤ tt; spelled = refl; tree = refl };
  reached = refl;
  passed_by_brace = refl;
  passed_by_group = refl;
}
