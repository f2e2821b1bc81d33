-- Names, labels and paths of the grammar: for each derivation its tokens with those that follow, its tree,
-- and how deep it nests: how many groups enclose its innermost place.
use Rattle.std.specs.Prelude.{ℕ, ◌+◌, max, List, [], ◌∷◌, map}
use Rattle.lorel_trees.specs.Types.{Plain, Wild, Kind}
use Rattle.lore_base.specs.Paths as p
use Rattle.lorel_tokens.specs.declared.token_types.Kind.TheVariants as k
use Rattle.lorel_tokens.specs.declared.token_types.Sign.TheVariants as s
use Rattle.lorel_trees.specs.Trees.{RootedTree}
use Rattle.lorel_trees.specs.Grammar as g
use Rattle.lorel_trees.specs.Repetitions.{spell_each}

-- names and labels

abbrev pub spell_name : g.Name → List Kind → List Kind
spell_name (g.free text unreserved) rest = k.Word text ∷ rest

abbrev pub text_of_name : g.Name → List ℕ
text_of_name (g.free text unreserved) = text

abbrev pub spell_label : g.Label → List Kind → List Kind
spell_label (g.word text) rest = k.Word text ∷ rest
spell_label (g.quoted text) rest = k.Quoted text ∷ rest

abbrev pub text_of_label : g.Label → List ℕ
text_of_label (g.word text) = text
text_of_label (g.quoted text) = text

-- label paths

abbrev pub spell_labels : List g.Label → List Kind → List Kind
spell_labels labels rest = spell_each (k.Symbol s.Dot) spell_label labels rest

abbrev pub texts_of_labels : List g.Label → List (List ℕ)
texts_of_labels labels = map text_of_label labels

abbrev pub spell_label_path : g.LabelPath → List Kind → List Kind
spell_label_path (g.walked name labels) rest = spell_name name (spell_labels labels rest)

-- paths

abbrev mutual
  pub spell_alt : g.Alt → List Kind → List Kind
  spell_alt (g.choice first others) rest = spell_seq first (spell_choices others rest)

  pub spell_choices : g.Choices → List Kind → List Kind
  spell_choices g.no_choices rest = rest
  spell_choices (g.bar first others) rest = k.Symbol s.Bar ∷ spell_seq first (spell_choices others rest)

  pub spell_seq : g.Seq → List Kind → List Kind
  spell_seq (g.sequence first others) rest = spell_part first (spell_parts others rest)

  pub spell_parts : g.Parts → List Kind → List Kind
  spell_parts g.no_parts rest = rest
  spell_parts (g.part first others) rest = spell_part first (spell_parts others rest)

  pub spell_part : g.Part → List Kind → List Kind
  spell_part (g.once base) rest = spell_base base rest
  spell_part (g.question base) rest = spell_base base (k.Symbol s.Question ∷ rest)
  spell_part (g.star base) rest = spell_base base (k.Symbol s.Star ∷ rest)
  spell_part (g.plus base) rest = spell_base base (k.Symbol s.Plus ∷ rest)

  pub spell_base : g.Base → List Kind → List Kind
  spell_base (g.label one) rest = k.Symbol s.Dot ∷ spell_label one rest
  spell_base (g.pattern text) rest = k.Symbol s.Dot ∷ k.Wild text ∷ rest
  spell_base g.hash rest = k.Symbol s.Dot ∷ k.Symbol s.Hash ∷ rest
  spell_base (g.group inner) rest = k.Symbol s.LeftParen ∷ spell_alt inner (k.Symbol s.RightParen ∷ rest)

-- a group is the choice of its sequences, also where it has one
abbrev mutual
  pub trees_alt : g.Alt → p.PathTrees
  trees_alt (g.choice first others) = p.more (tree_seq first) (trees_choices others)

  pub trees_choices : g.Choices → p.PathTrees
  trees_choices g.no_choices = p.none
  trees_choices (g.bar first others) = p.more (tree_seq first) (trees_choices others)

  pub tree_seq : g.Seq → p.PathTree
  tree_seq (g.sequence first others) = p.seq (p.more (tree_part first) (p.trees_of (trees_parts others)))

  pub trees_parts : g.Parts → List p.PathTree
  trees_parts g.no_parts = []
  trees_parts (g.part first others) = tree_part first ∷ trees_parts others

  pub tree_part : g.Part → p.PathTree
  tree_part (g.once base) = tree_base base
  tree_part (g.question base) = p.opt (tree_base base)
  tree_part (g.star base) = p.star (tree_base base)
  tree_part (g.plus base) = p.plus (tree_base base)

  pub tree_base : g.Base → p.PathTree
  tree_base (g.label one) = p.step (Plain (text_of_label one))
  tree_base (g.pattern text) = p.step (Wild text)
  tree_base g.hash = p.any
  tree_base (g.group inner) = p.alt (trees_alt inner)

abbrev mutual
  pub nest_alt : g.Alt → ℕ
  nest_alt (g.choice first others) = max (nest_seq first) (nest_choices others)

  pub nest_choices : g.Choices → ℕ
  nest_choices g.no_choices = 0
  nest_choices (g.bar first others) = max (nest_seq first) (nest_choices others)

  pub nest_seq : g.Seq → ℕ
  nest_seq (g.sequence first others) = max (nest_part first) (nest_parts others)

  pub nest_parts : g.Parts → ℕ
  nest_parts g.no_parts = 0
  nest_parts (g.part first others) = max (nest_part first) (nest_parts others)

  pub nest_part : g.Part → ℕ
  nest_part (g.once base) = nest_base base
  nest_part (g.question base) = nest_base base
  nest_part (g.star base) = nest_base base
  nest_part (g.plus base) = nest_base base

  pub nest_base : g.Base → ℕ
  nest_base (g.label one) = 0
  nest_base (g.pattern text) = 0
  nest_base g.hash = 0
  nest_base (g.group inner) = nest_alt inner + 1

abbrev pub spell_path : g.Path → List Kind → List Kind
spell_path (g.rooted name parts) rest = spell_name name (spell_parts parts rest)

abbrev pub tree_path : g.Path → RootedTree
tree_path (g.rooted name parts) = record { start = text_of_name name; parts = trees_parts parts }

abbrev pub nest_path : g.Path → ℕ
nest_path (g.rooted name parts) = nest_parts parts
