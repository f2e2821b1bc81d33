-- What the reference parser reads as a condition is derived by the grammar: from its answer comes a derivation that spells the
-- tokens and has the tree.
use Rattle.std.proofs.Common.{◌≡◌, ℕ, zero, suc, ◌<◌, ◌≤◌, cond, List, [], ◌∷◌, ◌++◌, length, codes, Some, refl, ap, ◌∙◌, sym, arith, inl, inr}
use Rattle.std.proofs.lemmas.Bool.{cases_Bool}
use Rattle.lorel_terms.specs.Types.{Op, Value, Kind, Sign}
use Rattle.lorel_tokens.specs.declared.token_types.Kind.TheVariants as k
use Rattle.lorel_tokens.specs.declared.token_types.Sign.TheVariants as s
use Rattle.lorel_trees.specs.Grammar as g
use Rattle.lorel_trees.specs.Trees as t
use Rattle.lorel_trees.specs.Paths.{spell_name, text_of_name, spell_path, tree_path, nest_path}
use Rattle.lorel_trees.specs.Literals.{spell_atom}
use Rattle.lorel_trees.specs.Conditions.{spell_op, spell_operand, tree_operand, nest_operand, spell_cond, spell_more_conjs, spell_conj, spell_more_unaries, spell_unary, tree_cond, trees_more_conjs, tree_conj, trees_more_unaries, tree_unary, nest_cond, nest_more_conjs, nest_conj, nest_more_unaries, nest_unary}
use Rattle.lorel_terms.specs.Outcomes.{Outcome, Parse, and_then, next, found, token, sees, sees_word, expect, expect_word}
use Rattle.lorel_terms.specs.Names.{name, sees_atom, atom}
use Rattle.lorel_terms.specs.Paths.{rooted}
use Rattle.lorel_terms.specs.Conditions as spec
use Rattle.lorel_terms.specs.Conditions.{sign_op, op_of, op, operand, compared, same_as, behind_left, comparison, others_from, others, list, conj, enclosed_path, quantified, unary_by, enclosed, unary, condition}
use Rattle.lorel_terms.proofs.OutcomeLaws.{some_parts, none_some, bind_some, sees_sign, expect_some, sees_this_word, expect_word_some}
use Rattle.lorel_terms.proofs.NameLaws.{sound_name, sound_atom}
use Rattle.lorel_terms.proofs.PathSoundLaws.{IsPath, sound_path}

-- trees found before, and trees behind them
abbrev followed : List t.CondTree → t.CondTrees → t.CondTrees
followed [] others = others
followed (first ∷ before) others = t.cond first (followed before others)

followed-none : (before : List t.CondTree) → followed before t.no_cond ≡ t.conds_from before
followed-none [] = refl
followed-none (first ∷ before) = ap (t.cond first) (followed-none before)

followed-push : (before : List t.CondTree) (one : t.CondTree) (others : t.CondTrees) → followed (before ++ one ∷ []) others ≡ followed before (t.cond one others)
followed-push [] one others = refl
followed-push (first ∷ before) one others = ap (t.cond first) (followed-push before one others)

-- derivations of the tokens that a parser took, which nest so deep at most

record IsOperand (depth : ℕ) (kinds rest : List Kind) (tree : t.OperandTree) : Type 0 where
  by : g.Operand
  deep : nest_operand by ≤ depth
  spelled : kinds ≡ spell_operand by rest
  stands : tree_operand by ≡ tree

record IsUnary (depth : ℕ) (kinds rest : List Kind) (tree : t.CondTree) : Type 0 where
  by : g.Unary
  deep : nest_unary by ≤ depth
  spelled : kinds ≡ spell_unary by rest
  stands : tree_unary by ≡ tree

record IsConj (depth : ℕ) (kinds rest : List Kind) (tree : t.CondTree) : Type 0 where
  by : g.Conj
  deep : nest_conj by ≤ depth
  spelled : kinds ≡ spell_conj by rest
  stands : tree_conj by ≡ tree

record AreUnaries (depth : ℕ) (kinds rest : List Kind) (before trees : List t.CondTree) : Type 0 where
  by : g.MoreUnaries
  deep : nest_more_unaries by ≤ depth
  spelled : kinds ≡ spell_more_unaries by rest
  stands : followed before (trees_more_unaries by) ≡ t.conds_from trees

record AreConjs (depth : ℕ) (kinds rest : List Kind) (before trees : List t.CondTree) : Type 0 where
  by : g.MoreConjs
  deep : nest_more_conjs by ≤ depth
  spelled : kinds ≡ spell_more_conjs by rest
  stands : followed before (trees_more_conjs by) ≡ t.conds_from trees

pub record IsCond (depth : ℕ) (kinds rest : List Kind) (tree : t.CondTree) : Type 0 where
  pub by : g.Cond
  pub deep : nest_cond by ≤ depth
  pub spelled : kinds ≡ spell_cond by rest
  pub stands : tree_cond by ≡ tree

-- comparisons

sign_sound : (sign : Sign) (kinds rest : List Kind) (by : Op) → ◌≡◌ {A = Outcome Op} (found (sign_op sign) kinds) (Some (by, rest)) → k.Symbol sign ∷ kinds ≡ spell_op by rest
sign_sound s.Equal kinds rest by read = let parts = some_parts read in ap (λ (left : List Kind). k.Symbol s.Equal ∷ left) parts.1 ∙ ap (λ (o : Op). spell_op o rest) parts.0
sign_sound s.NotEqual kinds rest by read = let parts = some_parts read in ap (λ (left : List Kind). k.Symbol s.NotEqual ∷ left) parts.1 ∙ ap (λ (o : Op). spell_op o rest) parts.0
sign_sound s.Less kinds rest by read = let parts = some_parts read in ap (λ (left : List Kind). k.Symbol s.Less ∷ left) parts.1 ∙ ap (λ (o : Op). spell_op o rest) parts.0
sign_sound s.LessEqual kinds rest by read = let parts = some_parts read in ap (λ (left : List Kind). k.Symbol s.LessEqual ∷ left) parts.1 ∙ ap (λ (o : Op). spell_op o rest) parts.0
sign_sound s.Greater kinds rest by read = let parts = some_parts read in ap (λ (left : List Kind). k.Symbol s.Greater ∷ left) parts.1 ∙ ap (λ (o : Op). spell_op o rest) parts.0
sign_sound s.GreaterEqual kinds rest by read = let parts = some_parts read in ap (λ (left : List Kind). k.Symbol s.GreaterEqual ∷ left) parts.1 ∙ ap (λ (o : Op). spell_op o rest) parts.0
sign_sound _ kinds rest by read = absurd (none_some read)

token_sound : (kinds rest : List Kind) (by : Op) → ◌≡◌ {A = Outcome Op} (token op_of kinds) (Some (by, rest)) → kinds ≡ spell_op by rest
token_sound [] rest by read = absurd (none_some read)
token_sound (k.Symbol sign ∷ kinds) rest by read = sign_sound sign kinds rest by read
token_sound (_ ∷ kinds) rest by read = absurd (none_some read)

op_sound : (kinds rest : List Kind) (by : Op) → ◌≡◌ {A = Outcome Op} (op kinds) (Some (by, rest)) → kinds ≡ spell_op by rest
unfolding op
op_sound kinds rest by read =
    elim (cases_Bool (sees_word (codes "like") kinds)) [
      | inl like ↦
          let parts = some_parts (rw like at read) in
          sees_this_word (codes "like") kinds like ∙ ap (λ (left : List Kind). k.Word (codes "like") ∷ left) parts.1 ∙ ap (λ (o : Op). spell_op o rest) parts.0
      | inr other ↦ token_sound kinds rest by (rw other at read)
    ]

operand_sound : (depth : ℕ) (kinds rest : List Kind) (tree : t.OperandTree) → ◌≡◌ {A = Outcome t.OperandTree} (operand depth kinds) (Some (tree, rest)) → IsOperand depth kinds rest tree
unfolding operand
operand_sound depth kinds rest tree read =
    elim (cases_Bool (sees_atom kinds)) [
      | inl begins ↦
          let wrap : Value → Parse t.OperandTree = λ value end. Some (t.constant value, end) in
          let (value, end, atom_is, wrapped) = bind_some (atom kinds) wrap tree rest (rw begins at read) in
          let parts = some_parts wrapped in
          let is = sound_atom kinds end value atom_is in
          record { by = g.constant is.by; deep = omega arith; spelled = is.spelled ∙ ap (spell_atom is.by) parts.1; stands = ap t.constant is.stands ∙ parts.0 }
      | inr other ↦
          let wrap : t.RootedTree → Parse t.OperandTree = λ path end. Some (t.at path, end) in
          let (path, end, path_is, wrapped) = bind_some (rooted depth kinds) wrap tree rest (rw other at read) in
          let parts = some_parts wrapped in
          let is = sound_path depth kinds end path path_is in
          record { by = g.reached is.by; deep = is.deep; spelled = is.spelled ∙ ap (spell_path is.by) parts.1; stands = ap t.at is.stands ∙ parts.0 }
    ]

-- an operator and the right side, behind a left side
compared_sound : (depth : ℕ) (kinds mid rest : List Kind) (left : t.OperandTree) (tree : t.CondTree) → IsOperand depth kinds mid left
    → ◌≡◌ {A = Outcome t.CondTree} (compared depth left mid) (Some (tree, rest)) → IsUnary depth kinds rest tree
unfolding compared
compared_sound depth kinds mid rest left tree is read =
    let wrap : Op → t.OperandTree → Parse t.CondTree = λ by right end. Some (t.compare left by right, end) in
    let more : Op → Parse t.CondTree = λ by a. and_then (operand depth a) (wrap by) in
    let (by, a, signed, behind_is) = bind_some (op mid) more tree rest read in
    let (right, end, operand_is, wrapped) = bind_some (operand depth a) (wrap by) tree rest behind_is in
    let parts = some_parts wrapped in
    let second = operand_sound depth a end right operand_is in
    record {
      by = g.compare is.by by second.by;
      deep = let one = is.deep in let two = second.deep in omega arith;
      spelled = is.spelled ∙ ap (spell_operand is.by) (op_sound mid a by signed ∙ ap (spell_op by) (second.spelled ∙ ap (spell_operand second.by) parts.1));
      stands = ap (λ (o : t.OperandTree). t.compare o by (tree_operand second.by)) is.stands ∙ ap (t.compare left by) second.stands ∙ parts.0;
    }

-- the path of a left side that is one
reached_path : (depth : ℕ) (kinds mid : List Kind) (path : t.RootedTree) (by : g.Operand) → nest_operand by ≤ depth → kinds ≡ spell_operand by mid
    → tree_operand by ≡ t.at path → IsPath depth kinds mid path
reached_path depth kinds mid path (g.constant one) deep spelled stands = absurd (cc)
reached_path depth kinds mid path (g.reached walked) deep spelled stands = record { by = walked; deep = deep; spelled = spelled; stands = cc }

path_of_operand : (depth : ℕ) (kinds mid : List Kind) (path : t.RootedTree) → IsOperand depth kinds mid (t.at path) → IsPath depth kinds mid path
path_of_operand depth kinds mid path is = reached_path depth kinds mid path is.by is.deep is.spelled is.stands

same_as_sound : (depth : ℕ) (kinds mid rest : List Kind) (left : t.RootedTree) (tree : t.CondTree) → IsPath depth kinds (k.Symbol s.SameAs ∷ mid) left
    → ◌≡◌ {A = Outcome t.CondTree} (same_as depth left mid) (Some (tree, rest)) → IsUnary depth kinds rest tree
unfolding same_as
same_as_sound depth kinds mid rest left tree is read =
    let wrap : t.RootedTree → Parse t.CondTree = λ right end. Some (t.same left right, end) in
    let (right, end, path_is, wrapped) = bind_some (rooted depth mid) wrap tree rest read in
    let parts = some_parts wrapped in
    let second = sound_path depth mid end right path_is in
    record {
      by = g.same is.by second.by;
      deep = let one = is.deep in let two = second.deep in omega arith;
      spelled = is.spelled ∙ ap (λ (left : List Kind). spell_path is.by (k.Symbol s.SameAs ∷ left)) (second.spelled ∙ ap (spell_path second.by) parts.1);
      stands = ap (λ (p : t.RootedTree). t.same p (tree_path second.by)) is.stands ∙ ap (t.same left) second.stands ∙ parts.0;
    }

behind_left_sound : (depth : ℕ) (kinds mid rest : List Kind) (left : t.OperandTree) (tree : t.CondTree) → IsOperand depth kinds mid left
    → ◌≡◌ {A = Outcome t.CondTree} (behind_left depth left mid) (Some (tree, rest)) → IsUnary depth kinds rest tree
unfolding behind_left
behind_left_sound depth kinds mid rest (t.constant value) tree is read = compared_sound depth kinds mid rest (t.constant value) tree is read
behind_left_sound depth kinds mid rest (t.at path) tree is read =
    elim (cases_Bool (sees s.SameAs mid)) [
      | inl same ↦
          let walked = path_of_operand depth kinds mid path is in
          let joined : IsPath depth kinds (k.Symbol s.SameAs ∷ next mid) path =
          record { by = walked.by; deep = walked.deep; spelled = walked.spelled ∙ ap (spell_path walked.by) (sees_sign s.SameAs mid same); stands = walked.stands } in
          same_as_sound depth kinds (next mid) rest path tree joined (rw same at read)
      | inr other ↦ compared_sound depth kinds mid rest (t.at path) tree is (rw other at read)
    ]

comparison_sound : (depth : ℕ) (kinds rest : List Kind) (tree : t.CondTree) → ◌≡◌ {A = Outcome t.CondTree} (comparison depth kinds) (Some (tree, rest)) → IsUnary depth kinds rest tree
unfolding comparison
comparison_sound depth kinds rest tree read =
    let (left, mid, left_is, behind_is) = bind_some (operand depth kinds) (behind_left depth) tree rest read in
    behind_left_sound depth kinds mid rest left tree (operand_sound depth kinds mid left left_is) behind_is

-- lists, over a parser of single conditions that reads what the grammar derives

module _ (depth : ℕ) (single : Parse t.CondTree)
    (sound : (kinds rest : List Kind) (tree : t.CondTree) → ◌≡◌ {A = Outcome t.CondTree} (single kinds) (Some (tree, rest)) → IsUnary depth kinds rest tree) where
  unaries_sound : (turns : ℕ) (before : List t.CondTree) (kinds rest : List Kind) (trees : List t.CondTree)
      → ◌≡◌ {A = Outcome (List t.CondTree)} (others_from (codes "and") single turns before kinds) (Some (trees, rest)) → AreUnaries depth kinds rest before trees
  unfolding others_from
  unaries_sound zero before kinds rest trees read =
      let parts = some_parts read in
      record { by = g.no_unaries; deep = omega arith; spelled = parts.1; stands = followed-none before ∙ ap t.conds_from parts.0 }
  unaries_sound (suc turns) before kinds rest trees read =
      elim (cases_Bool (sees_word (codes "and") kinds)) [
        | inl seen ↦
            let more : t.CondTree → Parse (List t.CondTree) = λ one left. others_from (codes "and") single turns (before ++ one ∷ []) left in
            let (one, mid, one_is, left_is) = bind_some (single (next kinds)) more trees rest (rw seen at read) in
            let first = sound (next kinds) mid one one_is in
            let all = unaries_sound turns (before ++ one ∷ []) mid rest trees left_is in
            record {
              by = g.and first.by all.by;
              deep = let a = first.deep in let b = all.deep in omega arith;
              spelled = sees_this_word (codes "and") kinds seen ∙ ap (λ (left : List Kind). k.Word (codes "and") ∷ left) (first.spelled ∙ ap (spell_unary first.by) all.spelled);
              stands = ap (λ (x : t.CondTree). followed before (t.cond x (trees_more_unaries all.by))) first.stands ∙ sym (followed-push before one (trees_more_unaries all.by)) ∙ all.stands;
            }
        | inr ended ↦
            let parts = some_parts (rw ended at read) in
            record { by = g.no_unaries; deep = omega arith; spelled = parts.1; stands = followed-none before ∙ ap t.conds_from parts.0 }
      ]

  conj_sound : (kinds rest : List Kind) (tree : t.CondTree) → ◌≡◌ {A = Outcome t.CondTree} (conj single kinds) (Some (tree, rest)) → IsConj depth kinds rest tree
  unfolding list others
  conj_sound kinds rest tree read =
      let wrap : List t.CondTree → Parse t.CondTree = λ all end. Some (t.and (t.conds_from all), end) in
      let third : t.CondTree → t.CondTree → Parse t.CondTree = λ first second left.
      and_then (others_from (codes "and") single (length left) (first ∷ second ∷ []) left) wrap in
      let more : t.CondTree → Parse t.CondTree = λ first left. cond (sees_word (codes "and") left) (and_then (single (next left)) (third first)) (Some (first, left)) in
      let (one, mid, one_is, more_is) = bind_some (single kinds) more tree rest read in
      let first = sound kinds mid one one_is in
      elim (cases_Bool (sees_word (codes "and") mid)) [
        | inl seen ↦
            let (two, left, two_is, third_is) = bind_some (single (next mid)) (third one) tree rest (rw seen at more_is) in
            let (trees, end, trees_are, wrapped) = bind_some (others_from (codes "and") single (length left) (one ∷ two ∷ []) left) wrap tree rest third_is in
            let parts = some_parts wrapped in
            let second = sound (next mid) left two two_is in
            let all = unaries_sound (length left) (one ∷ two ∷ []) left end trees trees_are in
            record {
              by = g.unaries first.by (g.and second.by all.by);
              deep = let a = first.deep in let b = second.deep in let c = all.deep in omega arith;
              spelled = first.spelled ∙ ap (spell_unary first.by) (sees_this_word (codes "and") mid seen ∙ ap (λ (l : List Kind). k.Word (codes "and") ∷ l)
                  (second.spelled ∙ ap (spell_unary second.by) (all.spelled ∙ ap (spell_more_unaries all.by) parts.1)));
              stands = ap (λ (x : t.CondTree). t.and (t.cond x (t.cond (tree_unary second.by) (trees_more_unaries all.by)))) first.stands
                  ∙ ap (λ (x : t.CondTree). t.and (t.cond one (t.cond x (trees_more_unaries all.by)))) second.stands ∙ ap t.and all.stands ∙ parts.0;
            }
        | inr ended ↦
            let parts = some_parts (rw ended at more_is) in
            record {
              by = g.unaries first.by g.no_unaries;
              deep = let a = first.deep in omega arith;
              spelled = first.spelled ∙ ap (spell_unary first.by) parts.1;
              stands = first.stands ∙ parts.0;
            }
      ]

  conjs_sound : (turns : ℕ) (before : List t.CondTree) (kinds rest : List Kind) (trees : List t.CondTree)
      → ◌≡◌ {A = Outcome (List t.CondTree)} (others_from (codes "or") (conj single) turns before kinds) (Some (trees, rest)) → AreConjs depth kinds rest before trees
  unfolding others_from
  conjs_sound zero before kinds rest trees read =
      let parts = some_parts read in
      record { by = g.no_conjs; deep = omega arith; spelled = parts.1; stands = followed-none before ∙ ap t.conds_from parts.0 }
  conjs_sound (suc turns) before kinds rest trees read =
      elim (cases_Bool (sees_word (codes "or") kinds)) [
        | inl seen ↦
            let more : t.CondTree → Parse (List t.CondTree) = λ one left. others_from (codes "or") (conj single) turns (before ++ one ∷ []) left in
            let (one, mid, one_is, left_is) = bind_some (conj single (next kinds)) more trees rest (rw seen at read) in
            let first = conj_sound (next kinds) mid one one_is in
            let all = conjs_sound turns (before ++ one ∷ []) mid rest trees left_is in
            record {
              by = g.or first.by all.by;
              deep = let a = first.deep in let b = all.deep in omega arith;
              spelled = sees_this_word (codes "or") kinds seen ∙ ap (λ (left : List Kind). k.Word (codes "or") ∷ left) (first.spelled ∙ ap (spell_conj first.by) all.spelled);
              stands = ap (λ (x : t.CondTree). followed before (t.cond x (trees_more_conjs all.by))) first.stands ∙ sym (followed-push before one (trees_more_conjs all.by)) ∙ all.stands;
            }
        | inr ended ↦
            let parts = some_parts (rw ended at read) in
            record { by = g.no_conjs; deep = omega arith; spelled = parts.1; stands = followed-none before ∙ ap t.conds_from parts.0 }
      ]

  cond_sound : (kinds rest : List Kind) (tree : t.CondTree) → ◌≡◌ {A = Outcome t.CondTree} (spec.cond single kinds) (Some (tree, rest)) → IsCond depth kinds rest tree
  unfolding list others
  cond_sound kinds rest tree read =
      let wrap : List t.CondTree → Parse t.CondTree = λ all end. Some (t.or (t.conds_from all), end) in
      let third : t.CondTree → t.CondTree → Parse t.CondTree = λ first second left.
      and_then (others_from (codes "or") (conj single) (length left) (first ∷ second ∷ []) left) wrap in
      let more : t.CondTree → Parse t.CondTree = λ first left. cond (sees_word (codes "or") left) (and_then (conj single (next left)) (third first)) (Some (first, left)) in
      let (one, mid, one_is, more_is) = bind_some (conj single kinds) more tree rest read in
      let first = conj_sound kinds mid one one_is in
      elim (cases_Bool (sees_word (codes "or") mid)) [
        | inl seen ↦
            let (two, left, two_is, third_is) = bind_some (conj single (next mid)) (third one) tree rest (rw seen at more_is) in
            let (trees, end, trees_are, wrapped) = bind_some (others_from (codes "or") (conj single) (length left) (one ∷ two ∷ []) left) wrap tree rest third_is in
            let parts = some_parts wrapped in
            let second = conj_sound (next mid) left two two_is in
            let all = conjs_sound (length left) (one ∷ two ∷ []) left end trees trees_are in
            record {
              by = g.conjs first.by (g.or second.by all.by);
              deep = let a = first.deep in let b = second.deep in let c = all.deep in omega arith;
              spelled = first.spelled ∙ ap (spell_conj first.by) (sees_this_word (codes "or") mid seen ∙ ap (λ (l : List Kind). k.Word (codes "or") ∷ l)
                  (second.spelled ∙ ap (spell_conj second.by) (all.spelled ∙ ap (spell_more_conjs all.by) parts.1)));
              stands = ap (λ (x : t.CondTree). t.or (t.cond x (t.cond (tree_conj second.by) (trees_more_conjs all.by)))) first.stands
                  ∙ ap (λ (x : t.CondTree). t.or (t.cond one (t.cond x (trees_more_conjs all.by)))) second.stands ∙ ap t.or all.stands ∙ parts.0;
            }
        | inr ended ↦
            let parts = some_parts (rw ended at more_is) in
            record {
              by = g.conjs first.by g.no_conjs;
              deep = let a = first.deep in omega arith;
              spelled = first.spelled ∙ ap (spell_conj first.by) parts.1;
              stands = first.stands ∙ parts.0;
            }
      ]

-- what a level encloses

record IsEnclosed (depth : ℕ) (kinds rest : List Kind) (tree : t.CondTree) : Type 0 where
  by : g.Unary
  deep : nest_unary by < depth
  spelled : kinds ≡ spell_unary by rest
  stands : tree_unary by ≡ tree

record IsEnclosedCond (depth : ℕ) (kinds rest : List Kind) (tree : t.CondTree) : Type 0 where
  by : g.Cond
  deep : nest_cond by < depth
  spelled : kinds ≡ spell_cond by rest
  stands : tree_cond by ≡ tree

record IsEnclosedPath (depth : ℕ) (kinds rest : List Kind) (tree : t.RootedTree) : Type 0 where
  by : g.Path
  deep : nest_path by < depth
  spelled : kinds ≡ spell_path by rest
  stands : tree_path by ≡ tree

enclosed_path_sound : (depth : ℕ) (kinds rest : List Kind) (path : t.RootedTree) → ◌≡◌ {A = Outcome t.RootedTree} (enclosed_path depth kinds) (Some (path, rest))
    → IsEnclosedPath depth kinds rest path
unfolding enclosed_path
enclosed_path_sound zero kinds rest path read = absurd (none_some read)
enclosed_path_sound (suc depth) kinds rest path read =
    let is = sound_path depth kinds rest path read in
    record { by = is.by; deep = let a = is.deep in omega arith; spelled = is.spelled; stands = is.stands }

lowered : (depth : ℕ) (kinds rest : List Kind) (tree : t.CondTree) → IsEnclosed (suc depth) kinds rest tree → IsUnary depth kinds rest tree
lowered depth kinds rest tree is = record { by = is.by; deep = let a = is.deep in omega arith; spelled = is.spelled; stands = is.stands }

list_reads : (word : List ℕ) (item : Parse t.CondTree) (join : t.CondTrees → t.CondTree) (kinds rest : List Kind) (tree : t.CondTree)
    → ◌≡◌ {A = Outcome t.CondTree} (list word item join kinds) (Some (tree, rest)) → (one : t.CondTree) × (mid : List Kind) × (◌≡◌ {A = Outcome t.CondTree} (item kinds) (Some (one, mid)))
unfolding list
list_reads word item join kinds rest tree read = let (one, mid, one_is, more) = bind_some (item kinds) _ tree rest read in (one, mid, one_is)

-- what stands behind `exists` or `for all`
record IsQuantified (depth : ℕ) (kinds rest : List Kind) (q : List ℕ × t.RootedTree × t.CondTree) : Type 0 where
  name : g.Name
  path : g.Path
  by : g.Unary
  path_deep : nest_path path < depth
  deep : nest_unary by < depth
  spelled : kinds ≡ spell_name name (k.Word (codes "in") ∷ spell_path path (k.Symbol s.Colon ∷ spell_unary by rest))
  variable_is : text_of_name name ≡ q.0
  path_is : tree_path path ≡ q.1
  body_is : tree_unary by ≡ q.2

module _ (depth : ℕ) (body : Parse t.CondTree)
    (sound : (kinds rest : List Kind) (tree : t.CondTree) → ◌≡◌ {A = Outcome t.CondTree} (body kinds) (Some (tree, rest)) → IsEnclosed depth kinds rest tree) where
  quantified_sound : (kinds rest : List Kind) (q : List ℕ × t.RootedTree × t.CondTree)
      → ◌≡◌ {A = Outcome (List ℕ × t.RootedTree × t.CondTree)} (quantified depth body kinds) (Some (q, rest)) → IsQuantified depth kinds rest q
  unfolding quantified
  quantified_sound kinds rest q read =
      let (variable, a, named, named_then) = bind_some (name kinds) _ q rest read in
      let (in_unit, b, in_is, in_then) = bind_some (expect_word (codes "in") a) _ q rest named_then in
      let (path, c, path_is, path_then) = bind_some (enclosed_path depth b) _ q rest in_then in
      let (colon_unit, d, colon_is, colon_then) = bind_some (expect s.Colon c) _ q rest path_then in
      let (holds, e, body_is, wrapped) = bind_some (body d) _ q rest colon_then in
      let parts = some_parts wrapped in
      let first = sound_name kinds a variable named in
      let walked = enclosed_path_sound depth b c path path_is in
      let held = sound d e holds body_is in
      record {
        name = first.by;
        path = walked.by;
        by = held.by;
        path_deep = walked.deep;
        deep = held.deep;
        spelled = first.spelled ∙ ap (spell_name first.by) (expect_word_some (codes "in") a b in_unit in_is ∙ ap (λ (l : List Kind). k.Word (codes "in") ∷ l)
            (walked.spelled ∙ ap (spell_path walked.by) (expect_some s.Colon c d colon_unit colon_is ∙ ap (λ (l : List Kind). k.Symbol s.Colon ∷ l)
            (held.spelled ∙ ap (spell_unary held.by) parts.1))));
        variable_is = first.stands ∙ ap (λ (x : List ℕ × t.RootedTree × t.CondTree). x.0) parts.0;
        path_is = walked.stands ∙ ap (λ (x : List ℕ × t.RootedTree × t.CondTree). x.1) parts.0;
        body_is = held.stands ∙ ap (λ (x : List ℕ × t.RootedTree × t.CondTree). x.2) parts.0;
      }

enclosed_cond_sound : (depth : ℕ) (body : Parse t.CondTree)
    → ((kinds rest : List Kind) (tree : t.CondTree) → ◌≡◌ {A = Outcome t.CondTree} (body kinds) (Some (tree, rest)) → IsEnclosed depth kinds rest tree)
    → (kinds rest : List Kind) (tree : t.CondTree) → ◌≡◌ {A = Outcome t.CondTree} (spec.cond body kinds) (Some (tree, rest)) → IsEnclosedCond depth kinds rest tree
enclosed_cond_sound zero body sound kinds rest tree read =
    let (conj_one, conj_mid, conj_is) = list_reads (codes "or") (conj body) t.or kinds rest tree read in
    let (one, mid, one_is) = list_reads (codes "and") body t.and kinds conj_mid conj_one conj_is in
    let is = sound kinds mid one one_is in
    absurd (let a = is.deep in omega arith)
enclosed_cond_sound (suc depth) body sound kinds rest tree read =
    let is = cond_sound depth body (λ a b one one_is. lowered depth a b one (sound a b one one_is)) kinds rest tree read in
    record { by = is.by; deep = let a = is.deep in omega arith; spelled = is.spelled; stands = is.stands }

exists_sound : (depth : ℕ) (kinds mid rest : List Kind) (tree : t.CondTree) (q : List ℕ × t.RootedTree × t.CondTree) → IsQuantified depth kinds mid q
    → ◌≡◌ {A = Outcome t.CondTree} (Some (t.exists q.0 q.1 q.2, mid)) (Some (tree, rest)) → IsUnary depth (k.Word (codes "exists") ∷ kinds) rest tree
exists_sound depth kinds mid rest tree q is read =
    let parts = some_parts read in
    record {
      by = g.exists is.name is.path is.by;
      deep = let a = is.path_deep in let b = is.deep in omega arith;
      spelled = ap (λ (l : List Kind). k.Word (codes "exists") ∷ l) is.spelled
          ∙ ap (λ (l : List Kind). k.Word (codes "exists") ∷ spell_name is.name (k.Word (codes "in") ∷ spell_path is.path (k.Symbol s.Colon ∷ spell_unary is.by l))) parts.1;
      stands = ap (λ (x : List ℕ). t.exists x (tree_path is.path) (tree_unary is.by)) is.variable_is
          ∙ ap (λ (x : t.RootedTree). t.exists q.0 x (tree_unary is.by)) is.path_is ∙ ap (t.exists q.0 q.1) is.body_is ∙ parts.0;
    }

for_all_sound : (depth : ℕ) (kinds mid rest : List Kind) (tree : t.CondTree) (q : List ℕ × t.RootedTree × t.CondTree) → IsQuantified depth kinds mid q
    → ◌≡◌ {A = Outcome t.CondTree} (Some (t.for_all q.0 q.1 q.2, mid)) (Some (tree, rest)) → IsUnary depth (k.Word (codes "for") ∷ k.Word (codes "all") ∷ kinds) rest tree
for_all_sound depth kinds mid rest tree q is read =
    let parts = some_parts read in
    record {
      by = g.for_all is.name is.path is.by;
      deep = let a = is.path_deep in let b = is.deep in omega arith;
      spelled = ap (λ (l : List Kind). k.Word (codes "for") ∷ k.Word (codes "all") ∷ l) is.spelled
          ∙ ap (λ (l : List Kind). k.Word (codes "for") ∷ k.Word (codes "all")
          ∷ spell_name is.name (k.Word (codes "in") ∷ spell_path is.path (k.Symbol s.Colon ∷ spell_unary is.by l))) parts.1;
      stands = ap (λ (x : List ℕ). t.for_all x (tree_path is.path) (tree_unary is.by)) is.variable_is
          ∙ ap (λ (x : t.RootedTree). t.for_all q.0 x (tree_unary is.by)) is.path_is ∙ ap (t.for_all q.0 q.1) is.body_is ∙ parts.0;
    }

moved : (depth : ℕ) (kinds same rest : List Kind) (tree : t.CondTree) → kinds ≡ same → IsUnary depth same rest tree → IsUnary depth kinds rest tree
moved depth kinds same rest tree is found = record { by = found.by; deep = found.deep; spelled = is ∙ found.spelled; stands = found.stands }

module _ (depth : ℕ) (body : Parse t.CondTree)
    (sound : (kinds rest : List Kind) (tree : t.CondTree) → ◌≡◌ {A = Outcome t.CondTree} (body kinds) (Some (tree, rest)) → IsEnclosed depth kinds rest tree) where
  not_sound : (kinds rest : List Kind) (tree : t.CondTree) → ◌≡◌ {A = Outcome t.CondTree} (and_then (body kinds) (λ inner end. Some (t.not inner, end))) (Some (tree, rest))
      → IsUnary depth (k.Word (codes "not") ∷ kinds) rest tree
  not_sound kinds rest tree read =
      let (inner, end, body_is, wrapped) = bind_some (body kinds) _ tree rest read in
      let parts = some_parts wrapped in
      let is = sound kinds end inner body_is in
      record {
        by = g.not is.by;
        deep = let a = is.deep in omega arith;
        spelled = ap (λ (l : List Kind). k.Word (codes "not") ∷ l) (is.spelled ∙ ap (spell_unary is.by) parts.1);
        stands = ap t.not is.stands ∙ parts.0;
      }

  parens_sound : (kinds rest : List Kind) (tree : t.CondTree)
      → ◌≡◌ {A = Outcome t.CondTree} (and_then (spec.cond body kinds) (λ inner left. and_then (expect s.RightParen left) (λ _ end. Some (inner, end)))) (Some (tree, rest))
      → IsUnary depth (k.Symbol s.LeftParen ∷ kinds) rest tree
  parens_sound kinds rest tree read =
      let (inner, left, cond_is, closed) = bind_some (spec.cond body kinds) _ tree rest read in
      let (unit, end, paren_is, wrapped) = bind_some (expect s.RightParen left) _ tree rest closed in
      let parts = some_parts wrapped in
      let is = enclosed_cond_sound depth body sound kinds left inner cond_is in
      record {
        by = g.parens is.by;
        deep = let a = is.deep in omega arith;
        spelled = ap (λ (l : List Kind). k.Symbol s.LeftParen ∷ l) (is.spelled ∙ ap (spell_cond is.by) (expect_some s.RightParen left end unit paren_is
            ∙ ap (λ (l : List Kind). k.Symbol s.RightParen ∷ l) parts.1));
        stands = is.stands ∙ parts.0;
      }

  behind_exists_sound : (kinds rest : List Kind) (tree : t.CondTree)
      → ◌≡◌ {A = Outcome t.CondTree} (and_then (quantified depth body kinds) (λ q end. Some (t.exists q.0 q.1 q.2, end))) (Some (tree, rest))
      → IsUnary depth (k.Word (codes "exists") ∷ kinds) rest tree
  behind_exists_sound kinds rest tree read =
      let (q, mid, q_is, wrapped) = bind_some (quantified depth body kinds) _ tree rest read in
      exists_sound depth kinds mid rest tree q (quantified_sound depth body sound kinds mid q q_is) wrapped

  behind_for_sound : (kinds rest : List Kind) (tree : t.CondTree)
      → ◌≡◌ {A = Outcome t.CondTree} (and_then (expect_word (codes "all") kinds) (λ _ left. and_then (quantified depth body left) (λ q end. Some (t.for_all q.0 q.1 q.2, end)))) (Some (tree, rest))
      → IsUnary depth (k.Word (codes "for") ∷ kinds) rest tree
  behind_for_sound kinds rest tree read =
      let (unit, left, all_is, then_is) = bind_some (expect_word (codes "all") kinds) _ tree rest read in
      let (q, mid, q_is, wrapped) = bind_some (quantified depth body left) _ tree rest then_is in
      let is = for_all_sound depth left mid rest tree q (quantified_sound depth body sound left mid q q_is) wrapped in
      record {
        by = is.by;
        deep = is.deep;
        spelled = ap (λ (l : List Kind). k.Word (codes "for") ∷ l) (expect_word_some (codes "all") kinds left unit all_is) ∙ is.spelled;
        stands = is.stands;
      }

  unary_by_sound : (kinds rest : List Kind) (tree : t.CondTree) → ◌≡◌ {A = Outcome t.CondTree} (unary_by depth body kinds) (Some (tree, rest)) → IsUnary depth kinds rest tree
  unfolding unary_by
  unary_by_sound kinds rest tree read =
      elim (cases_Bool (sees_word (codes "not") kinds)) [
        | inl is_not ↦ moved depth kinds (k.Word (codes "not") ∷ next kinds) rest tree (sees_this_word (codes "not") kinds is_not) (not_sound (next kinds) rest tree (rw is_not at read))
        | inr no_not ↦
            let second = rw no_not at read in
            elim (cases_Bool (sees s.LeftParen kinds)) [
              | inl is_paren ↦ moved depth kinds (k.Symbol s.LeftParen ∷ next kinds) rest tree (sees_sign s.LeftParen kinds is_paren) (parens_sound (next kinds) rest tree (rw is_paren at second))
              | inr no_paren ↦
                  let third = rw no_paren at second in
                  elim (cases_Bool (sees_word (codes "exists") kinds)) [
                    | inl is_exists ↦
                        moved depth kinds (k.Word (codes "exists") ∷ next kinds) rest tree (sees_this_word (codes "exists") kinds is_exists) (behind_exists_sound (next kinds) rest tree (rw is_exists at third))
                    | inr no_exists ↦
                        let fourth = rw no_exists at third in
                        elim (cases_Bool (sees_word (codes "for") kinds)) [
                          | inl is_for ↦
                              moved depth kinds (k.Word (codes "for") ∷ next kinds) rest tree (sees_this_word (codes "for") kinds is_for) (behind_for_sound (next kinds) rest tree (rw is_for at fourth))
                          | inr no_for ↦ comparison_sound depth kinds rest tree (rw no_for at fourth)
                        ]
                  ]
            ]
      ]

enclosed_sound : (depth : ℕ) (kinds rest : List Kind) (tree : t.CondTree) → ◌≡◌ {A = Outcome t.CondTree} (enclosed depth kinds) (Some (tree, rest)) → IsEnclosed depth kinds rest tree
unfolding enclosed
enclosed_sound zero kinds rest tree read = absurd (none_some read)
enclosed_sound (suc depth) kinds rest tree read =
    let is = unary_by_sound depth (enclosed depth) (enclosed_sound depth) kinds rest tree read in
    record { by = is.by; deep = let a = is.deep in omega arith; spelled = is.spelled; stands = is.stands }

pub sound_cond : (depth : ℕ) (kinds rest : List Kind) (tree : t.CondTree) → ◌≡◌ {A = Outcome t.CondTree} (condition depth kinds) (Some (tree, rest)) → IsCond depth kinds rest tree
unfolding condition
sound_cond depth kinds rest tree read =
    cond_sound depth (unary depth) (unary_by_sound depth (enclosed depth) (enclosed_sound depth)) kinds rest tree read
