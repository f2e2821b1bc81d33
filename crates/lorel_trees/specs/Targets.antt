-- What stands before `+=` and `-=`: a target and the label of its edges.
use Rattle.std.specs.Prelude.{◌≡◌, ◌++◌, List, [], ◌∷◌}
use Rattle.lorel_trees.specs.Types.{Plain, Kind}
use Rattle.lore_base.specs.Paths as p
use Rattle.lorel_tokens.specs.declared.token_types.Kind.TheVariants as k
use Rattle.lorel_tokens.specs.declared.token_types.Sign.TheVariants as s
use Rattle.lorel_trees.specs.Grammar as g
use Rattle.lorel_trees.specs.Paths.{text_of_label, spell_path, tree_path, nest_path, spell_label}

-- this path is the target, a dot and the label
pub record IsJoined (path target : g.Path) (last : g.Label) : Type 0 where
  pub spelled : (rest : List Kind)
      → spell_path path rest ≡ spell_path target (k.Symbol s.Dot ∷ spell_label last rest)
  pub start : (tree_path path).start ≡ (tree_path target).start
  pub parts : (tree_path path).parts ≡ (tree_path target).parts ++ p.step (Plain (text_of_label last)) ∷ []
  pub nest : nest_path path ≡ nest_path target
