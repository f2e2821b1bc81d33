-- Paths as they are read.
use Rattle.std.specs.Prelude.{ℕ, zero, suc, Bool, ◌||◌, if◌then◌else◌, List, [], ◌∷◌, ◌++◌, length, Option}
use Rattle.std.specs.Prelude.{Some, None}
use Rattle.lorel_terms.specs.Types.{Plain, Wild, Kind}
use Rattle.lore_base.specs.Paths.{PathTree, step, any, seq, alt, opt, star, plus, trees_of}
use Rattle.lorel_tokens.specs.declared.token_types.Kind.TheVariants as k
use Rattle.lorel_tokens.specs.declared.token_types.Sign.TheVariants as s
use Rattle.lorel_trees.specs.Trees.{RootedTree}
use Rattle.lorel_terms.specs.Outcomes.{Parse, and_then, next, sees, expect, refuse, token}
use Rattle.lorel_terms.specs.Names.{name}

abbrev pub pattern_of : Kind → Option PathTree
pattern_of (k.Word text) = Some (step (Plain text))
pattern_of (k.Quoted text) = Some (step (Plain text))
pattern_of (k.Wild text) = Some (step (Wild text))
pattern_of _ = None

-- what stands behind a dot
unfoldable pub one_step : Parse PathTree
one_step kinds = if sees s.Hash kinds then Some (any, next kinds) else token pattern_of kinds

-- the part, with the mark that may stand behind it
unfoldable pub repeated : PathTree → Parse PathTree
repeated base kinds =
    if sees s.Question kinds then Some (opt base, next kinds)
    else (if sees s.Star kinds then Some (star base, next kinds)
    else (if sees s.Plus kinds then Some (plus base, next kinds) else Some (base, kinds)))

-- a dot or an opening parenthesis
unfoldable pub begins_part : List Kind → Bool
begins_part kinds = sees s.Dot kinds || sees s.LeftParen kinds

-- over a parser of what stands behind the opening parenthesis of a group, up to the closing one
module _ (group : Parse (List PathTree)) where
  unfoldable pub base : Parse PathTree
  base kinds =
      if sees s.Dot kinds then one_step (next kinds)
      else and_then (expect s.LeftParen kinds) (λ _ rest.
      and_then (group rest) (λ trees behind. Some (alt (trees_of trees), behind)))

  unfoldable pub part : Parse PathTree
  part kinds = and_then (base kinds) repeated

  -- each part that stands there, in so many turns, after the parts found before
  unfoldable pub parts_from : ℕ → List PathTree → Parse (List PathTree)
  parts_from zero before kinds = Some (before, kinds)
  parts_from (suc turns) before kinds =
      if begins_part kinds then and_then (part kinds) (λ one rest. parts_from turns (before ++ one ∷ []) rest)
      else Some (before, kinds)

  unfoldable pub parts : List PathTree → Parse (List PathTree)
  parts before kinds = parts_from (length kinds) before kinds

  unfoldable pub sequence : Parse PathTree
  sequence kinds = and_then (part kinds) (λ first rest.
      and_then (parts (first ∷ []) rest) (λ trees behind. Some (seq (trees_of trees), behind)))

  -- each sequence behind a bar, in so many turns, after the sequences found before
  unfoldable pub choices_from : ℕ → List PathTree → Parse (List PathTree)
  choices_from zero before kinds = Some (before, kinds)
  choices_from (suc turns) before kinds =
      if sees s.Bar kinds then
      and_then (sequence (next kinds)) (λ one rest. choices_from turns (before ++ one ∷ []) rest)
      else Some (before, kinds)

  unfoldable pub more_choices : List PathTree → Parse (List PathTree)
  more_choices before kinds = choices_from (length kinds) before kinds

  -- sequences with bars between them, and the closing parenthesis
  unfoldable pub choices : Parse (List PathTree)
  choices kinds = and_then (sequence kinds) (λ first rest.
      and_then (more_choices (first ∷ []) rest) (λ trees behind.
      and_then (expect s.RightParen behind) (λ _ end. Some (trees, end))))

-- a group behind its opening parenthesis, where so many levels are left
unfoldable pub inside : ℕ → Parse (List PathTree)
inside zero = refuse
inside (suc depth) = choices (inside depth)

-- a path, whose groups nest so deep at most
unfoldable pub rooted : ℕ → Parse RootedTree
rooted depth kinds =
    and_then (name kinds) (λ start rest.
    and_then (parts (inside depth) [] rest) (λ trees behind.
    Some (record { start = start; parts = trees }, behind)))
