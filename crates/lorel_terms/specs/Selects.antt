-- From items, tails, items and selects as they are read.
use Rattle.std.specs.Prelude.{ℕ, Bool, true, false, if◌then◌else◌, List, [], codes, Option, Some, None}
use Rattle.lore_base.specs.declared.limits.TheConstants.{NESTING}
use Rattle.lorel_tokens.specs.declared.token_types.Kind.{Kind}
use Rattle.lorel_tokens.specs.declared.token_types.Kind.TheVariants as k
use Rattle.lorel_tokens.specs.declared.token_types.Sign.TheVariants as s
use Rattle.lorel_trees.specs.Trees.{RootedTree, CondTree, ItemTree, object, path_of, FromTree, TailTree, SelectTree}
use Rattle.lorel_terms.specs.Outcomes.{Parse, and_then, next, is_next, sees, sees_word}
use Rattle.lorel_terms.specs.Repetitions.{mapped, both, behind_sign, closed_sign, some_of}
use Rattle.lorel_terms.specs.Names.{name, sees_name}
use Rattle.lorel_terms.specs.Paths.{rooted}
use Rattle.lorel_terms.specs.Conditions.{condition}

abbrev pub is_path_of : Kind → Bool
is_path_of k.PathOf = true
is_path_of _ = false

-- `path-of` stands there
unfoldable pub sees_path_of : List Kind → Bool
sees_path_of = is_next is_path_of

abbrev pub bare : RootedTree → FromTree
bare path = record { path = path; word = None; variable = None }

abbrev pub named : RootedTree → List ℕ → FromTree
named path variable = record { path = path; word = None; variable = Some variable }

abbrev pub worded : RootedTree → List ℕ × List ℕ → FromTree
worded path variables = record { path = path; word = Some variables.0; variable = Some variables.1 }

-- the variables behind the path of a from item: a name that stands there is the object variable
unfoldable pub ranged : RootedTree → Parse FromTree
ranged path kinds =
    if sees s.At kinds then mapped (worded path) (both name name) (next kinds)
    else (if sees_name kinds then mapped (named path) name kinds else Some (bare path, kinds))

unfoldable pub range : Parse FromTree
range kinds = and_then (rooted NESTING kinds) ranged

-- the from items; without `from` there are none
unfoldable pub ranges : Parse (List FromTree)
ranges kinds =
    if sees_word (codes "from") kinds then some_of (sees s.Comma) range (next kinds) else Some ([], kinds)

unfoldable pub such_that : Parse (Option CondTree)
such_that kinds =
    if sees_word (codes "where") kinds then mapped Some (condition NESTING) (next kinds) else Some (None, kinds)

abbrev pub tail_of : List FromTree × Option CondTree → TailTree
tail_of parts = record { ranges = parts.0; cond = parts.1 }

unfoldable pub tail : Parse TailTree
tail = mapped tail_of (both ranges such_that)

unfoldable pub item : Parse ItemTree
item kinds =
    if sees_path_of kinds then mapped path_of (behind_sign s.LeftParen (closed_sign s.RightParen name)) (next kinds)
    else mapped object (rooted NESTING) kinds

unfoldable pub items : Parse (List ItemTree)
items = some_of (sees s.Comma) item

abbrev pub select_of : List ItemTree × TailTree → SelectTree
select_of parts = record { items = parts.0; tail = parts.1 }

-- what stands behind `select`
unfoldable pub select : Parse SelectTree
select = mapped select_of (both items tail)
