-- A sound select is shallow, and so is that of a sound update: each quantifier of its condition nests in its derivation.
use Rattle.std.proofs.Common.{◌≡◌, ◌≢◌, List, [], ◌∷◌, ℕ, ◌≤◌, max, Option, Some, None, refl, sym, ap, ◌∙◌, subst, arith}
use Rattle.std.specs.Prelude.{ℤ}
use Rattle.std.proofs.Math.Nat.{le_trans, le-max_left, le-max_right, max-le}
use Rattle.lorel_trees.specs.Types.{NESTING}
use Rattle.lorel_trees.specs.Trees as t
use Rattle.lorel_trees.specs.Grammar as g
use Rattle.lorel_trees.specs.Conditions.{tree_cond, nest_cond, trees_more_conjs, nest_more_conjs, tree_conj, nest_conj, trees_more_unaries, nest_more_unaries, tree_unary, nest_unary, joined}
use Rattle.lorel_trees.specs.Literals.{nest_literal}
use Rattle.lorel_trees.specs.Repetitions.{nest_each}
use Rattle.lorel_trees.specs.Paths.{tree_path, nest_path}
use Rattle.lorel_trees.specs.Selects.{tree_tail, nest_tail, tree_select, nest_select, nest_item, nest_range}
use Rattle.lorel_trees.specs.Selects.{select_of_paths, tree_paths, nest_paths}
use Rattle.lorel_trees.specs.Statements.{tree_statement, nest_statement}
use Rattle.lorel_trees.specs.Sound.{IsSound}
use Rattle.lorel_trees.specs.UpdateRows.{target_select, pair_select, rows_of}
use Rattle.lorel_ranges.specs.Texts.{depth_of, depth_of_all, IsShallow}

both : (a b c d : ℕ) → a ≤ c → b ≤ d → max a b ≤ max c d
both a b c d first second = max-le (le_trans first (le-max_left c d)) (le_trans second (le-max_right c d))

-- ---- conditions that are joined nest no deeper than they do
joined_depth : (join : t.CondTrees → t.CondTree) → ((conds : t.CondTrees) → depth_of (join conds) ≡ depth_of_all conds)
    → (first : t.CondTree) (others : t.CondTrees) → depth_of (joined join first others) ≤ max (depth_of first) (depth_of_all others)
joined_depth join same first t.no_cond = le-max_left (depth_of first) 0
joined_depth join same first (t.cond second others) = omega (arith, same (t.cond first (t.cond second others)))

mutual
  cond_shallow : (cond : g.Cond) → depth_of (tree_cond cond) ≤ nest_cond cond
  cond_shallow (g.conjs first others) =
      let whole = both (depth_of (tree_conj first)) (depth_of_all (trees_more_conjs others)) (nest_conj first) (nest_more_conjs others) (conj_shallow first) (conjs_shallow others) in
      omega (arith, whole, joined_depth t.or (λ conds. refl) (tree_conj first) (trees_more_conjs others))

  conjs_shallow : (conjs : g.MoreConjs) → depth_of_all (trees_more_conjs conjs) ≤ nest_more_conjs conjs
  conjs_shallow g.no_conjs = omega arith
  conjs_shallow (g.or first others) =
      both (depth_of (tree_conj first)) (depth_of_all (trees_more_conjs others)) (nest_conj first) (nest_more_conjs others) (conj_shallow first) (conjs_shallow others)

  conj_shallow : (conj : g.Conj) → depth_of (tree_conj conj) ≤ nest_conj conj
  conj_shallow (g.unaries first others) =
      let whole = both (depth_of (tree_unary first)) (depth_of_all (trees_more_unaries others)) (nest_unary first) (nest_more_unaries others) (unary_shallow first) (unaries_shallow others) in
      omega (arith, whole, joined_depth t.and (λ conds. refl) (tree_unary first) (trees_more_unaries others))

  unaries_shallow : (unaries : g.MoreUnaries) → depth_of_all (trees_more_unaries unaries) ≤ nest_more_unaries unaries
  unaries_shallow g.no_unaries = omega arith
  unaries_shallow (g.and first others) =
      both (depth_of (tree_unary first)) (depth_of_all (trees_more_unaries others)) (nest_unary first) (nest_more_unaries others) (unary_shallow first) (unaries_shallow others)

  unary_shallow : (unary : g.Unary) → depth_of (tree_unary unary) ≤ nest_unary unary
  unary_shallow (g.not body) = omega (arith, unary_shallow body)
  unary_shallow (g.parens inner) = omega (arith, cond_shallow inner)
  unary_shallow (g.exists name path body) = omega (arith, unary_shallow body, le-max_right (nest_path path) (nest_unary body))
  unary_shallow (g.for_all name path body) = omega (arith, unary_shallow body, le-max_right (nest_path path) (nest_unary body))
  unary_shallow (g.compare left by right) = omega arith
  unary_shallow (g.same left right) = omega arith

select_shallow : (select : g.Select) → nest_select select ≤ NESTING → IsShallow (tree_select select)
select_shallow (g.query first others (g.tail ranges None)) deep = tt
select_shallow (g.query first others (g.tail ranges (Some cond))) deep =
    let tail = le-max_right (max (nest_item first) (nest_each nest_item others)) (max (nest_each nest_range ranges) (nest_cond cond)) in
    let inner = le-max_right (nest_each nest_range ranges) (nest_cond cond) in
    omega (arith, cond_shallow cond, inner, tail, deep)

-- the select that a statement is made of
abbrev select_in : t.StatementTree → Option t.SelectTree
select_in (t.select query) = Some query
select_in (t.explain query) = Some query
select_in (t.select_at moment query) = Some query
select_in (t.blocks_of query) = Some query
select_in statement = None

inner_shallow : (inner : g.Select) (query : t.SelectTree) → Some (tree_select inner) ≡ Some query → nest_select inner ≤ NESTING → IsShallow query
inner_shallow inner query is deep = let same : tree_select inner ≡ query = cc in subst IsShallow same (select_shallow inner deep)

-- its derivation
derived_shallow : (by : g.Statement) (query : t.SelectTree) → select_in (tree_statement by) ≡ Some query → nest_statement by ≤ NESTING
    → IsShallow query
derived_shallow (g.load name literal) query is deep = cc
derived_shallow (g.bind name path) query is deep = cc
derived_shallow (g.unname name) query is deep = cc
derived_shallow (g.assign target value end) query is deep = cc
derived_shallow (g.add target name (g.fresh literal) end) query is deep = cc
derived_shallow (g.add target name (g.link path) end) query is deep = cc
derived_shallow (g.remove target name right end) query is deep = cc
derived_shallow (g.select inner) query is deep = inner_shallow inner query is deep
derived_shallow (g.explain inner) query is deep = inner_shallow inner query is deep
derived_shallow g.guide query is deep = cc
derived_shallow (g.browse (g.walked name labels)) query is deep = cc
derived_shallow (g.sample (g.walked name labels) count) query is deep = cc
derived_shallow (g.set_nodes nodes) query is deep = cc
derived_shallow (g.set_plan mode) query is deep = cc
derived_shallow g.dump query is deep = cc
derived_shallow (g.restore text) query is deep = cc
derived_shallow (g.generate seed count) query is deep = cc
derived_shallow (g.history on) query is deep = cc
derived_shallow (g.select_at moment inner) query is deep = inner_shallow inner query is deep
derived_shallow (g.changes first last) query is deep = cc
derived_shallow g.blocks query is deep = cc
derived_shallow (g.blocks_of inner) query is deep = inner_shallow inner query is deep
derived_shallow (g.watch name inner) query is deep = cc
derived_shallow (g.unwatch name) query is deep = cc
derived_shallow (g.show name) query is deep = cc

pub sound_shallow : (query : t.SelectTree) → IsSound (t.select query) → IsShallow query
sound_shallow query sound = derived_shallow sound.spelled.by query (ap select_in sound.spelled.tree) sound.spelled.deep

pub explain_shallow : (query : t.SelectTree) → IsSound (t.explain query) → IsShallow query
explain_shallow query sound = derived_shallow sound.spelled.by query (ap select_in sound.spelled.tree) sound.spelled.deep

pub at_shallow : (moment : ℤ) (query : t.SelectTree) → IsSound (t.select_at moment query) → IsShallow query
at_shallow moment query sound = derived_shallow sound.spelled.by query (ap select_in sound.spelled.tree) sound.spelled.deep

pub blocks_shallow : (query : t.SelectTree) → IsSound (t.blocks_of query) → IsShallow query
blocks_shallow query sound = derived_shallow sound.spelled.by query (ap select_in sound.spelled.tree) sound.spelled.deep

-- ---- the select of a view
some_items : {X : Type 0} (first : X) (others : List X) → first ∷ others ≢ []
some_items first others is = cc

paths_listed : (inner : g.Paths) → nest_paths inner ≤ NESTING → IsShallow (tree_paths inner) × ((tree_paths inner).items ≢ [])
paths_listed (g.paths first others end) deep =
    (select_shallow (select_of_paths (g.paths first others end)) deep, some_items _ _)

-- the derivation of a watch: its select has an item, and is shallow
derived_view : (by : g.Statement) (name : List ℕ) (query : t.SelectTree) → tree_statement by ≡ t.watch name query → nest_statement by ≤ NESTING
    → IsShallow query × (query.items ≢ [])
derived_view (g.load own literal) name query is deep = cc
derived_view (g.bind own path) name query is deep = cc
derived_view (g.unname own) name query is deep = cc
derived_view (g.assign target value end) name query is deep = cc
derived_view (g.add target own (g.fresh literal) end) name query is deep = cc
derived_view (g.add target own (g.link path) end) name query is deep = cc
derived_view (g.remove target own right end) name query is deep = cc
derived_view (g.select inner) name query is deep = cc
derived_view (g.explain inner) name query is deep = cc
derived_view g.guide name query is deep = cc
derived_view (g.browse (g.walked own labels)) name query is deep = cc
derived_view (g.sample (g.walked own labels) count) name query is deep = cc
derived_view (g.set_nodes nodes) name query is deep = cc
derived_view (g.set_plan mode) name query is deep = cc
derived_view g.dump name query is deep = cc
derived_view (g.restore text) name query is deep = cc
derived_view (g.generate seed count) name query is deep = cc
derived_view (g.history on) name query is deep = cc
derived_view (g.select_at moment inner) name query is deep = cc
derived_view (g.changes first last) name query is deep = cc
derived_view g.blocks name query is deep = cc
derived_view (g.blocks_of inner) name query is deep = cc
derived_view (g.watch own inner) name query is deep =
    let same : tree_paths inner ≡ query = cc in subst (λ (q : t.SelectTree). IsShallow q × (q.items ≢ [])) same (paths_listed inner deep)
derived_view (g.unwatch own) name query is deep = cc
derived_view (g.show own) name query is deep = cc

pub watch_listed : (name : List ℕ) (query : t.SelectTree) → IsSound (t.watch name query) → IsShallow query × (query.items ≢ [])
watch_listed name query sound = derived_view sound.spelled.by name query sound.spelled.tree sound.spelled.deep

-- ---- the select of an update
tail_shallow : (target : t.RootedTree) (end : g.Tail) → nest_tail end ≤ NESTING → IsShallow (target_select target (tree_tail end))
tail_shallow target (g.tail ranges None) deep = tt
tail_shallow target (g.tail ranges (Some cond)) deep =
    let inner = le-max_right (nest_each nest_range ranges) (nest_cond cond) in
    omega (arith, cond_shallow cond, inner, deep)

-- the one with this tail
given_shallow : (target : t.RootedTree) (end : g.Tail) (given query : t.SelectTree) → given.tail ≡ tree_tail end → Some given ≡ Some query
    → nest_tail end ≤ NESTING → IsShallow query
given_shallow target end given query tail is deep =
    let same : given ≡ query = cc in
    let whole : tree_tail end ≡ query.tail = sym tail ∙ ap (λ (q : t.SelectTree). q.tail) same in
    subst (λ (other : t.TailTree). IsShallow (target_select target other)) whole (tail_shallow target end deep)

rows_derived : (by : g.Statement) (query : t.SelectTree) → rows_of (tree_statement by) ≡ Some query → nest_statement by ≤ NESTING → IsShallow query
rows_derived (g.load name literal) query is deep = cc
rows_derived (g.bind name path) query is deep = cc
rows_derived (g.unname name) query is deep = cc
rows_derived (g.assign target value end) query is deep =
    given_shallow (tree_path target) end (target_select (tree_path target) (tree_tail end)) query refl is
    (omega (arith, deep, le-max_right (nest_path target) (nest_tail end)))
rows_derived (g.add target name (g.fresh literal) end) query is deep =
    given_shallow (tree_path target) end (target_select (tree_path target) (tree_tail end)) query refl is
    (omega (arith, deep, le-max_right (max (nest_path target) (nest_literal literal)) (nest_tail end)))
rows_derived (g.add target name (g.link path) end) query is deep =
    given_shallow (tree_path target) end (pair_select (tree_path target) (tree_path path) (tree_tail end)) query refl is
    (omega (arith, deep, le-max_right (max (nest_path target) (nest_path path)) (nest_tail end)))
rows_derived (g.remove target name right end) query is deep =
    given_shallow (tree_path target) end (pair_select (tree_path target) (tree_path right) (tree_tail end)) query refl is
    (omega (arith, deep, le-max_right (max (nest_path target) (nest_path right)) (nest_tail end)))
rows_derived (g.select inner) query is deep = cc
rows_derived (g.explain inner) query is deep = cc
rows_derived g.guide query is deep = cc
rows_derived (g.browse (g.walked name labels)) query is deep = cc
rows_derived (g.sample (g.walked name labels) count) query is deep = cc
rows_derived (g.set_nodes nodes) query is deep = cc
rows_derived (g.set_plan mode) query is deep = cc
rows_derived g.dump query is deep = cc
rows_derived (g.restore text) query is deep = cc
rows_derived (g.generate seed count) query is deep = cc
rows_derived (g.history on) query is deep = cc
rows_derived (g.select_at moment inner) query is deep = cc
rows_derived (g.changes first last) query is deep = cc
rows_derived g.blocks query is deep = cc
rows_derived (g.blocks_of inner) query is deep = cc
rows_derived (g.watch name inner) query is deep = cc
rows_derived (g.unwatch name) query is deep = cc
rows_derived (g.show name) query is deep = cc

pub rows_shallow : (statement : t.StatementTree) (query : t.SelectTree) → IsSound statement → rows_of statement ≡ Some query → IsShallow query
rows_shallow statement query sound is =
    rows_derived sound.spelled.by query (ap rows_of sound.spelled.tree ∙ is) sound.spelled.deep
