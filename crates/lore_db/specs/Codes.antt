-- How the trees of selects are told apart: each is given back by a list of marks, its parts before itself. Nothing else
-- asks for these.
use Rattle.std.proofs.Common.{◌≡◌, ℕ, List, [], ◌∷◌, refl, ◌∙◌}
use Rattle.std.specs.Coded.{Coded, code_by, coded_list}
use Rattle.lore_base.specs.declared.paths.Pattern.{Pattern}
use Rattle.lore_base.specs.Paths.{PathTree, PathTrees, step, any, seq, alt, opt, star, plus, none, more}
use Rattle.lorel_trees.specs.Types.{Op}
use Rattle.lorel_trees.specs.Trees.{RootedTree, OperandTree, CondTree, CondTrees}
use Rattle.lorel_trees.specs.Trees as t

-- ---- paths
pub data PathMark : Type 0 where
  step_mark : (pattern : Pattern) → PathMark
  any_mark : PathMark
  seq_mark : PathMark
  alt_mark : PathMark
  opt_mark : PathMark
  star_mark : PathMark
  plus_mark : PathMark
  none_mark : PathMark
  more_mark : PathMark

abbrev mutual
  pub path_marks : PathTree → List PathMark → List PathMark
  path_marks (step pattern) rest = step_mark pattern ∷ rest
  path_marks any rest = any_mark ∷ rest
  path_marks (seq parts) rest = parts_marks parts (seq_mark ∷ rest)
  path_marks (alt parts) rest = parts_marks parts (alt_mark ∷ rest)
  path_marks (opt part) rest = path_marks part (opt_mark ∷ rest)
  path_marks (star part) rest = path_marks part (star_mark ∷ rest)
  path_marks (plus part) rest = path_marks part (plus_mark ∷ rest)

  pub parts_marks : PathTrees → List PathMark → List PathMark
  parts_marks none rest = none_mark ∷ rest
  parts_marks (more first others) rest = path_marks first (parts_marks others (more_mark ∷ rest))

-- the path that marks give back, over what those before them gave
abbrev pub path_from : List PathMark → List PathTree → List PathTrees → PathTree
path_from [] [] lists = any
path_from [] (path ∷ paths) lists = path
path_from (step_mark pattern ∷ marks) paths lists = path_from marks (step pattern ∷ paths) lists
path_from (any_mark ∷ marks) paths lists = path_from marks (any ∷ paths) lists
path_from (seq_mark ∷ marks) paths [] = any
path_from (seq_mark ∷ marks) paths (parts ∷ lists) = path_from marks (seq parts ∷ paths) lists
path_from (alt_mark ∷ marks) paths [] = any
path_from (alt_mark ∷ marks) paths (parts ∷ lists) = path_from marks (alt parts ∷ paths) lists
path_from (opt_mark ∷ marks) [] lists = any
path_from (opt_mark ∷ marks) (part ∷ paths) lists = path_from marks (opt part ∷ paths) lists
path_from (star_mark ∷ marks) [] lists = any
path_from (star_mark ∷ marks) (part ∷ paths) lists = path_from marks (star part ∷ paths) lists
path_from (plus_mark ∷ marks) [] lists = any
path_from (plus_mark ∷ marks) (part ∷ paths) lists = path_from marks (plus part ∷ paths) lists
path_from (none_mark ∷ marks) paths lists = path_from marks paths (none ∷ lists)
path_from (more_mark ∷ marks) [] lists = any
path_from (more_mark ∷ marks) (first ∷ paths) [] = any
path_from (more_mark ∷ marks) (first ∷ paths) (others ∷ lists) = path_from marks paths (more first others ∷ lists)

mutual
  pub path_back : (path : PathTree) (rest : List PathMark) (paths : List PathTree) (lists : List PathTrees)
      → path_from (path_marks path rest) paths lists ≡ path_from rest (path ∷ paths) lists
  path_back (step pattern) rest paths lists = refl
  path_back any rest paths lists = refl
  path_back (seq parts) rest paths lists = parts_back parts (seq_mark ∷ rest) paths lists
  path_back (alt parts) rest paths lists = parts_back parts (alt_mark ∷ rest) paths lists
  path_back (opt part) rest paths lists = path_back part (opt_mark ∷ rest) paths lists
  path_back (star part) rest paths lists = path_back part (star_mark ∷ rest) paths lists
  path_back (plus part) rest paths lists = path_back part (plus_mark ∷ rest) paths lists

  parts_back : (parts : PathTrees) (rest : List PathMark) (paths : List PathTree) (lists : List PathTrees)
      → path_from (parts_marks parts rest) paths lists ≡ path_from rest paths (parts ∷ lists)
  parts_back none rest paths lists = refl
  parts_back (more first others) rest paths lists =
      path_back first (parts_marks others (more_mark ∷ rest)) paths lists
      ∙ parts_back others (more_mark ∷ rest) (first ∷ paths) lists

abbrev pub path_code : Coded PathMark → Coded PathTree
path_code marks =
    code_by (List PathMark) (coded_list marks) (λ path. path_marks path []) (λ all. path_from all [] [])
    (λ path. path_back path [] [] [])

-- ---- conditions
pub data CondMark : Type 0 where
  or_mark : CondMark
  and_mark : CondMark
  not_mark : CondMark
  exists_mark : (variable : List ℕ) (path : RootedTree) → CondMark
  for_all_mark : (variable : List ℕ) (path : RootedTree) → CondMark
  compare_mark : (left : OperandTree) (op : Op) (right : OperandTree) → CondMark
  same_mark : (left right : RootedTree) → CondMark
  no_cond_mark : CondMark
  cond_mark : CondMark

abbrev mutual
  pub cond_marks : CondTree → List CondMark → List CondMark
  cond_marks (t.or members) rest = conds_marks members (or_mark ∷ rest)
  cond_marks (t.and members) rest = conds_marks members (and_mark ∷ rest)
  cond_marks (t.not body) rest = cond_marks body (not_mark ∷ rest)
  cond_marks (t.exists variable path body) rest = cond_marks body (exists_mark variable path ∷ rest)
  cond_marks (t.for_all variable path body) rest = cond_marks body (for_all_mark variable path ∷ rest)
  cond_marks (t.compare left op right) rest = compare_mark left op right ∷ rest
  cond_marks (t.same left right) rest = same_mark left right ∷ rest

  pub conds_marks : CondTrees → List CondMark → List CondMark
  conds_marks t.no_cond rest = no_cond_mark ∷ rest
  conds_marks (t.cond first others) rest = cond_marks first (conds_marks others (cond_mark ∷ rest))

-- the condition that marks give back, over what those before them gave
abbrev pub cond_from : List CondMark → List CondTree → List CondTrees → CondTree
cond_from [] [] lists = t.or t.no_cond
cond_from [] (cond ∷ conds) lists = cond
cond_from (or_mark ∷ marks) conds [] = t.or t.no_cond
cond_from (or_mark ∷ marks) conds (members ∷ lists) = cond_from marks (t.or members ∷ conds) lists
cond_from (and_mark ∷ marks) conds [] = t.or t.no_cond
cond_from (and_mark ∷ marks) conds (members ∷ lists) = cond_from marks (t.and members ∷ conds) lists
cond_from (not_mark ∷ marks) [] lists = t.or t.no_cond
cond_from (not_mark ∷ marks) (body ∷ conds) lists = cond_from marks (t.not body ∷ conds) lists
cond_from (exists_mark variable path ∷ marks) [] lists = t.or t.no_cond
cond_from (exists_mark variable path ∷ marks) (body ∷ conds) lists =
    cond_from marks (t.exists variable path body ∷ conds) lists
cond_from (for_all_mark variable path ∷ marks) [] lists = t.or t.no_cond
cond_from (for_all_mark variable path ∷ marks) (body ∷ conds) lists =
    cond_from marks (t.for_all variable path body ∷ conds) lists
cond_from (compare_mark left op right ∷ marks) conds lists =
    cond_from marks (t.compare left op right ∷ conds) lists
cond_from (same_mark left right ∷ marks) conds lists = cond_from marks (t.same left right ∷ conds) lists
cond_from (no_cond_mark ∷ marks) conds lists = cond_from marks conds (t.no_cond ∷ lists)
cond_from (cond_mark ∷ marks) [] lists = t.or t.no_cond
cond_from (cond_mark ∷ marks) (first ∷ conds) [] = t.or t.no_cond
cond_from (cond_mark ∷ marks) (first ∷ conds) (others ∷ lists) =
    cond_from marks conds (t.cond first others ∷ lists)

mutual
  pub cond_back : (cond : CondTree) (rest : List CondMark) (conds : List CondTree) (lists : List CondTrees)
      → cond_from (cond_marks cond rest) conds lists ≡ cond_from rest (cond ∷ conds) lists
  cond_back (t.or members) rest conds lists = conds_back members (or_mark ∷ rest) conds lists
  cond_back (t.and members) rest conds lists = conds_back members (and_mark ∷ rest) conds lists
  cond_back (t.not body) rest conds lists = cond_back body (not_mark ∷ rest) conds lists
  cond_back (t.exists variable path body) rest conds lists =
      cond_back body (exists_mark variable path ∷ rest) conds lists
  cond_back (t.for_all variable path body) rest conds lists =
      cond_back body (for_all_mark variable path ∷ rest) conds lists
  cond_back (t.compare left op right) rest conds lists = refl
  cond_back (t.same left right) rest conds lists = refl

  conds_back : (members : CondTrees) (rest : List CondMark) (conds : List CondTree) (lists : List CondTrees)
      → cond_from (conds_marks members rest) conds lists ≡ cond_from rest conds (members ∷ lists)
  conds_back t.no_cond rest conds lists = refl
  conds_back (t.cond first others) rest conds lists =
      cond_back first (conds_marks others (cond_mark ∷ rest)) conds lists
      ∙ conds_back others (cond_mark ∷ rest) (first ∷ conds) lists

abbrev pub cond_code : Coded CondMark → Coded CondTree
cond_code marks =
    code_by (List CondMark) (coded_list marks) (λ cond. cond_marks cond []) (λ all. cond_from all [] [])
    (λ cond. cond_back cond [] [] [])
