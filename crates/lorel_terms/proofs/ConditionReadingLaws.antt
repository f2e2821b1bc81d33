-- The functions of conditions of the reference parser, each by what it calls.
use Rattle.std.proofs.Common.{◌≡◌, ℕ, suc, true, false, List, [], ◌∷◌, ◌++◌, length, codes, Some, None, refl}
use Rattle.lorel_terms.specs.Types.{Op, Eq, Ne, Lt, Le, Gt, Ge, Like, Value, Kind}
use Rattle.lorel_tokens.specs.declared.token_types.Kind.TheVariants as k
use Rattle.lorel_tokens.specs.declared.token_types.Sign.TheVariants as s
use Rattle.lorel_trees.specs.Conditions.{spell_op}
use Rattle.lorel_trees.specs.Trees.{RootedTree, OperandTree, constant, at, CondTree, CondTrees, not, exists, for_all, compare, same, conds_from}
use Rattle.lorel_terms.specs.Outcomes.{Outcome, Parse, next, sees, sees_word, expect, expect_word}
use Rattle.lorel_terms.specs.Names.{name, sees_atom, atom}
use Rattle.lorel_terms.specs.Paths.{rooted}
use Rattle.lorel_terms.specs.Conditions.{op, operand, compared, same_as, behind_left, comparison, others_from, others, list, cond, enclosed_path, quantified, unary_by, enclosed, unary, condition}

-- comparisons

pub op-spelled : (by : Op) (rest : List Kind) → ◌≡◌ {A = Outcome Op} (op (spell_op by rest)) (Some (by, rest))
unfolding op sees_word
op-spelled Eq rest = refl
op-spelled Ne rest = refl
op-spelled Lt rest = refl
op-spelled Le rest = refl
op-spelled Gt rest = refl
op-spelled Ge rest = refl
op-spelled Like rest = refl

pub operand-atom : (depth : ℕ) (kinds rest : List Kind) (value : Value) → sees_atom kinds ≡ true → ◌≡◌ {A = Outcome Value} (atom kinds) (Some (value, rest))
    → ◌≡◌ {A = Outcome OperandTree} (operand depth kinds) (Some (constant value, rest))
unfolding operand
operand-atom depth kinds rest value begins read = rw (begins, read)

pub operand-path : (depth : ℕ) (kinds rest : List Kind) (path : RootedTree) → sees_atom kinds ≡ false → ◌≡◌ {A = Outcome RootedTree} (rooted depth kinds) (Some (path, rest))
    → ◌≡◌ {A = Outcome OperandTree} (operand depth kinds) (Some (at path, rest))
unfolding operand
operand-path depth kinds rest path other read = rw (other, read)

pub compared-by : (depth : ℕ) (left right : OperandTree) (by : Op) (kinds mid rest : List Kind) → ◌≡◌ {A = Outcome Op} (op kinds) (Some (by, mid))
    → ◌≡◌ {A = Outcome OperandTree} (operand depth mid) (Some (right, rest)) → ◌≡◌ {A = Outcome CondTree} (compared depth left kinds) (Some (compare left by right, rest))
unfolding compared
compared-by depth left right by kinds mid rest sign read = rw (sign, read)

pub behind_left-other : (depth : ℕ) (left : OperandTree) (kinds : List Kind) → sees s.SameAs kinds ≡ false → behind_left depth left kinds ≡ compared depth left kinds
unfolding behind_left
behind_left-other depth (constant value) kinds other = refl
behind_left-other depth (at path) kinds other = rw other

pub behind_left-same : (depth : ℕ) (left right : RootedTree) (kinds rest : List Kind) → ◌≡◌ {A = Outcome RootedTree} (rooted depth kinds) (Some (right, rest))
    → ◌≡◌ {A = Outcome CondTree} (behind_left depth (at left) (k.Symbol s.SameAs ∷ kinds)) (Some (same left right, rest))
unfolding behind_left same_as sees
behind_left-same depth left right kinds rest read = rw read

pub comparison-left : (depth : ℕ) (left : OperandTree) (kinds rest : List Kind) → ◌≡◌ {A = Outcome OperandTree} (operand depth kinds) (Some (left, rest))
    → comparison depth kinds ≡ behind_left depth left rest
unfolding comparison
comparison-left depth left kinds rest read = rw read

-- lists

module _ (word : List ℕ) (item : Parse CondTree) where
  pub others_from-zero : (before : List CondTree) (kinds : List Kind) → ◌≡◌ {A = Outcome (List CondTree)} (others_from word item 0 before kinds) (Some (before, kinds))
  unfolding others_from
  others_from-zero before kinds = refl

  pub others_from-end : (turns : ℕ) (before : List CondTree) (kinds : List Kind) → sees_word word kinds ≡ false
      → ◌≡◌ {A = Outcome (List CondTree)} (others_from word item (suc turns) before kinds) (Some (before, kinds))
  unfolding others_from
  others_from-end turns before kinds ends = rw ends

  pub others_from-more : (turns : ℕ) (before : List CondTree) (kinds rest : List Kind) (one : CondTree) → sees_word word kinds ≡ true
      → ◌≡◌ {A = Outcome CondTree} (item (next kinds)) (Some (one, rest))
      → others_from word item (suc turns) before kinds ≡ others_from word item turns (before ++ one ∷ []) rest
  unfolding others_from
  others_from-more turns before kinds rest one seen read = rw (seen, read)

  pub list-one : (join : CondTrees → CondTree) (kinds rest : List Kind) (first : CondTree) → ◌≡◌ {A = Outcome CondTree} (item kinds) (Some (first, rest)) → sees_word word rest ≡ false
      → ◌≡◌ {A = Outcome CondTree} (list word item join kinds) (Some (first, rest))
  unfolding list
  list-one join kinds rest first read ends = rw (read, ends)

  pub list-more : (join : CondTrees → CondTree) (kinds rest behind end : List Kind) (first second : CondTree) (all : List CondTree)
      → ◌≡◌ {A = Outcome CondTree} (item kinds) (Some (first, rest)) → sees_word word rest ≡ true → ◌≡◌ {A = Outcome CondTree} (item (next rest)) (Some (second, behind))
      → ◌≡◌ {A = Outcome (List CondTree)} (others_from word item (length behind) (first ∷ second ∷ []) behind) (Some (all, end))
      → ◌≡◌ {A = Outcome CondTree} (list word item join kinds) (Some (join (conds_from all), end))
  unfolding list others
  list-more join kinds rest behind end first second all read seen also more = rw (read, seen, also, more)

-- single conditions

module _ (depth : ℕ) (body : Parse CondTree) where
  pub quantified-over : (kinds a b c end : List Kind) (variable : List ℕ) (path : RootedTree) (holds : CondTree) → ◌≡◌ {A = Outcome (List ℕ)} (name kinds) (Some (variable, a))
      → ◌≡◌ {A = Outcome (Unit {0})} (expect_word (codes "in") a) (Some (tt, b)) → ◌≡◌ {A = Outcome RootedTree} (enclosed_path depth b) (Some (path, k.Symbol s.Colon ∷ c))
      → ◌≡◌ {A = Outcome CondTree} (body c) (Some (holds, end))
      → ◌≡◌ {A = Outcome (List ℕ × RootedTree × CondTree)} (quantified depth body kinds) (Some ((variable, path, holds), end))
  unfolding quantified expect sees
  quantified-over kinds a b c end variable path holds named word read held = rw (named, word, read, held)

  pub unary_by-not : (kinds rest : List Kind) (inner : CondTree) → ◌≡◌ {A = Outcome CondTree} (body kinds) (Some (inner, rest))
      → ◌≡◌ {A = Outcome CondTree} (unary_by depth body (k.Word (codes "not") ∷ kinds)) (Some (not inner, rest))
  unfolding unary_by sees_word
  unary_by-not kinds rest inner read = rw read

  pub unary_by-parens : (kinds rest : List Kind) (inner : CondTree) → ◌≡◌ {A = Outcome CondTree} (cond body kinds) (Some (inner, k.Symbol s.RightParen ∷ rest))
      → ◌≡◌ {A = Outcome CondTree} (unary_by depth body (k.Symbol s.LeftParen ∷ kinds)) (Some (inner, rest))
  unfolding unary_by sees_word sees expect
  unary_by-parens kinds rest inner read = rw read

  pub unary_by-exists : (kinds rest : List Kind) (variable : List ℕ) (path : RootedTree) (holds : CondTree)
      → ◌≡◌ {A = Outcome (List ℕ × RootedTree × CondTree)} (quantified depth body kinds) (Some ((variable, path, holds), rest))
      → ◌≡◌ {A = Outcome CondTree} (unary_by depth body (k.Word (codes "exists") ∷ kinds)) (Some (exists variable path holds, rest))
  unfolding unary_by sees_word sees
  unary_by-exists kinds rest variable path holds read = rw read

  pub unary_by-for_all : (kinds rest : List Kind) (variable : List ℕ) (path : RootedTree) (holds : CondTree)
      → ◌≡◌ {A = Outcome (List ℕ × RootedTree × CondTree)} (quantified depth body kinds) (Some ((variable, path, holds), rest))
      → ◌≡◌ {A = Outcome CondTree} (unary_by depth body (k.Word (codes "for") ∷ k.Word (codes "all") ∷ kinds)) (Some (for_all variable path holds, rest))
  unfolding unary_by sees_word sees expect_word
  unary_by-for_all kinds rest variable path holds read = rw read

  pub unary_by-comparison : (kinds : List Kind) → sees_word (codes "not") kinds ≡ false → sees s.LeftParen kinds ≡ false → sees_word (codes "exists") kinds ≡ false
      → sees_word (codes "for") kinds ≡ false → unary_by depth body kinds ≡ comparison depth kinds
  unfolding unary_by
  unary_by-comparison kinds no_not no_paren no_exists no_for = rw (no_not, no_paren, no_exists, no_for)

pub enclosed-deeper : (depth : ℕ) → enclosed (suc depth) ≡ unary depth
unfolding enclosed
enclosed-deeper depth = refl

pub enclosed_path-deeper : (depth : ℕ) (kinds : List Kind) → enclosed_path (suc depth) kinds ≡ rooted depth kinds
unfolding enclosed_path
enclosed_path-deeper depth kinds = refl

pub condition-is : (depth : ℕ) (kinds : List Kind) → condition depth kinds ≡ cond (unary depth) kinds
unfolding condition
condition-is depth kinds = refl

-- where no level is left, none is enclosed
pub cond-enclosed_zero : (kinds : List Kind) → ◌≡◌ {A = Outcome CondTree} (cond (enclosed 0) kinds) None
unfolding list enclosed
cond-enclosed_zero kinds = refl
