-- From items, tails and selects of the grammar: for each derivation its tokens with those that follow, its
-- tree, and how deep it nests.
use Rattle.std.specs.Prelude.{ℕ, max, List, [], ◌∷◌, codes, map, Option, Some, None, option_map}
use Rattle.lorel_trees.specs.Types.{Kind}
use Rattle.lorel_tokens.specs.declared.token_types.Kind.TheVariants as k
use Rattle.lorel_tokens.specs.declared.token_types.Sign.TheVariants as s
use Rattle.lorel_trees.specs.Trees as t
use Rattle.lorel_trees.specs.Grammar as g
use Rattle.lorel_trees.specs.Repetitions.{spell_each, nest_each}
use Rattle.lorel_trees.specs.Paths.{spell_name, text_of_name, spell_path, tree_path, nest_path}
use Rattle.lorel_trees.specs.Conditions.{spell_cond, tree_cond, nest_cond}

-- from items

abbrev pub spell_range : g.Range → List Kind → List Kind
spell_range (g.bare path) rest = spell_path path rest
spell_range (g.variable path name) rest = spell_path path (spell_name name rest)
spell_range (g.word_variable path bound name) rest =
    spell_path path (k.Symbol s.At ∷ spell_name bound (spell_name name rest))

abbrev pub tree_range : g.Range → t.FromTree
tree_range (g.bare path) = record { path = tree_path path; word = None; variable = None }
tree_range (g.variable path name) =
    record { path = tree_path path; word = None; variable = Some (text_of_name name) }
tree_range (g.word_variable path bound name) =
    record { path = tree_path path; word = Some (text_of_name bound); variable = Some (text_of_name name) }

abbrev pub nest_range : g.Range → ℕ
nest_range (g.bare path) = nest_path path
nest_range (g.variable path name) = nest_path path
nest_range (g.word_variable path bound name) = nest_path path

-- [ "from" range { "," range } ]
abbrev pub spell_from : List g.Range → List Kind → List Kind
spell_from [] rest = rest
spell_from (first ∷ others) rest =
    k.Word (codes "from") ∷ spell_range first (spell_each (k.Symbol s.Comma) spell_range others rest)

-- [ "where" cond ]
abbrev pub spell_where : Option g.Cond → List Kind → List Kind
spell_where None rest = rest
spell_where (Some cond) rest = k.Word (codes "where") ∷ spell_cond cond rest

abbrev pub nest_where : Option g.Cond → ℕ
nest_where None = 0
nest_where (Some cond) = nest_cond cond

-- tails

abbrev pub spell_tail : g.Tail → List Kind → List Kind
spell_tail (g.tail ranges cond) rest = spell_from ranges (spell_where cond rest)

abbrev pub tree_tail : g.Tail → t.TailTree
tree_tail (g.tail ranges cond) = record { ranges = map tree_range ranges; cond = option_map tree_cond cond }

abbrev pub nest_tail : g.Tail → ℕ
nest_tail (g.tail ranges cond) = max (nest_each nest_range ranges) (nest_where cond)

-- items and selects

abbrev pub spell_item : g.Item → List Kind → List Kind
spell_item (g.object path) rest = spell_path path rest
spell_item (g.path_of name) rest =
    k.PathOf ∷ k.Symbol s.LeftParen ∷ spell_name name (k.Symbol s.RightParen ∷ rest)

abbrev pub tree_item : g.Item → t.ItemTree
tree_item (g.object path) = t.object (tree_path path)
tree_item (g.path_of name) = t.path_of (text_of_name name)

abbrev pub nest_item : g.Item → ℕ
nest_item (g.object path) = nest_path path
nest_item (g.path_of name) = 0

abbrev pub spell_select : g.Select → List Kind → List Kind
spell_select (g.query first others end) rest =
    k.Word (codes "select")
    ∷ spell_item first (spell_each (k.Symbol s.Comma) spell_item others (spell_tail end rest))

abbrev pub tree_select : g.Select → t.SelectTree
tree_select (g.query first others end) =
    record { items = tree_item first ∷ map tree_item others; tail = tree_tail end }

abbrev pub nest_select : g.Select → ℕ
nest_select (g.query first others end) =
    max (max (nest_item first) (nest_each nest_item others)) (nest_tail end)

-- selects of paths alone, which are selects whose items are these paths

abbrev pub select_of_paths : g.Paths → g.Select
select_of_paths (g.paths first others end) = g.query (g.object first) (map g.object others) end

abbrev pub spell_paths : g.Paths → List Kind → List Kind
spell_paths query rest = spell_select (select_of_paths query) rest

abbrev pub tree_paths : g.Paths → t.SelectTree
tree_paths query = tree_select (select_of_paths query)

abbrev pub nest_paths : g.Paths → ℕ
nest_paths query = nest_select (select_of_paths query)
