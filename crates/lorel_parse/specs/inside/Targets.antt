-- The target of `+=` and `-=` as it is read: the longest path that stands there without its last plain label.
use Rattle.std.specs.Prelude.{ℕ, List, [], ◌∷◌, Option, Some, None, option_map}
use Rattle.lorel_terms.specs.Types.{Pattern, Plain, Wild}
use Rattle.lore_base.specs.Paths.{PathTree, step}
use Rattle.lorel_trees.specs.Trees.{RootedTree}
use Rattle.lorel_terms.specs.Outcomes.{Parse, and_then, found}
use Rattle.lorel_terms.specs.Paths.{rooted}

-- the text of a plain label
abbrev pub plain_text : Pattern → Option (List ℕ)
plain_text (Plain text) = Some text
plain_text (Wild text) = None

abbrev pub plain_label : PathTree → Option (List ℕ)
plain_label (step pattern) = plain_text pattern
plain_label _ = None

-- the parts before the last one, and its label
abbrev pub split_last : List PathTree → Option (List PathTree × List ℕ)
split_last [] = None
split_last (last ∷ []) = option_map (λ text. ([], text)) (plain_label last)
split_last (first ∷ second ∷ others) =
    option_map (λ split. (first ∷ split.0, split.1)) (split_last (second ∷ others))

-- the path without its last label, and that label
abbrev pub aimed : RootedTree → Option (RootedTree × List ℕ)
aimed path =
    option_map (λ split. (record { start = path.start; parts = split.0 }, split.1)) (split_last path.parts)

unfoldable pub aim : ℕ → Parse (RootedTree × List ℕ)
aim depth kinds = and_then (rooted depth kinds) (λ path rest. found (aimed path) rest)
