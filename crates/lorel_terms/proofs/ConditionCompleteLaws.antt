-- The reference parser reads what a derivation of a condition spells: it takes exactly those tokens and gives the derivation's
-- tree.
use Rattle.std.proofs.Common.{◌≡◌, ℕ, zero, suc, ◌<◌, ◌≤◌, true, false, List, [], ◌∷◌, ◌++◌, length, codes, Some, refl, ap, ◌∙◌, sym, arith, append_assoc, inl, inr}
use Rattle.std.proofs.lemmas.List.{append-nil}
use Rattle.std.proofs.lemmas.Bool.{cases_Bool}
use Rattle.std.proofs.lemmas.Slice.Eq.{bytes_eq-Decides}
use Rattle.std.specs.Str.{bytes_eq}
use Rattle.lore_base.specs.Names.{is_reserved}
use Rattle.lorel_terms.specs.Types.{Op, Eq, Ne, Lt, Le, Gt, Ge, Like, Kind}
use Rattle.lorel_tokens.specs.declared.token_types.Kind.TheVariants as k
use Rattle.lorel_tokens.specs.declared.token_types.Sign.TheVariants as s
use Rattle.lorel_trees.specs.Grammar as g
use Rattle.lorel_trees.specs.Trees as t
use Rattle.lorel_trees.specs.Paths.{spell_name, text_of_name, spell_parts, spell_path, tree_path, nest_path}
use Rattle.lorel_trees.specs.Literals.{spell_atom, value_of_atom, is_atom_kind}
use Rattle.lorel_trees.specs.Conditions.{spell_op, spell_operand, tree_operand, nest_operand, spell_cond, spell_more_conjs, spell_conj, spell_more_unaries, spell_unary, tree_cond, trees_more_conjs, tree_conj, trees_more_unaries, tree_unary, nest_cond, nest_more_conjs, nest_conj, nest_more_unaries, nest_unary}
use Rattle.lorel_terms.specs.Outcomes.{Outcome, Parse, sees, sees_word, expect_word}
use Rattle.lorel_terms.specs.Names.{sees_atom}
use Rattle.lorel_terms.specs.Conditions.{operand, comparison, others_from, conj, cond, quantified, enclosed, unary, condition}
use Rattle.lorel_terms.proofs.NameLaws.{complete_name, complete_atom, longer_name, longer_atom, atom_seen_here, atom_no_sign, atom_no_word, name_no_atom_here}
use Rattle.lorel_terms.proofs.EndLaws.{EndsPath, EndsCond}
use Rattle.lorel_terms.proofs.PathCompleteLaws.{complete_path, longer_path}
use Rattle.lorel_terms.proofs.ConditionReadingLaws as law

-- a name is none of the words that begin a condition

not_both : true ≡ false → ⊥
not_both same = cc

other_word : (text wanted : List ℕ) → is_reserved wanted ≡ true → is_reserved text ≡ false → bytes_eq text wanted ≡ false
other_word text wanted reserved free =
    elim (cases_Bool (bytes_eq text wanted)) [
      | inl same ↦ absurd (not_both (sym reserved ∙ sym (ap is_reserved ((bytes_eq-Decides text wanted).0 same)) ∙ free))
      | inr other ↦ other
    ]

path_no_word : (path : g.Path) (rest : List Kind) (wanted : List ℕ) → is_reserved wanted ≡ true → sees_word wanted (spell_path path rest) ≡ false
unfolding sees_word
path_no_word (g.rooted (g.free text free) parts) rest wanted reserved = other_word text wanted reserved free

path_no_paren : (path : g.Path) (rest : List Kind) → sees s.LeftParen (spell_path path rest) ≡ false
unfolding sees
path_no_paren (g.rooted (g.free text free) parts) rest = refl

operand_no_word : (one : g.Operand) (rest : List Kind) (wanted : List ℕ) → is_reserved wanted ≡ true → is_atom_kind (k.Word wanted) ≡ false → sees_word wanted (spell_operand one rest) ≡ false
operand_no_word (g.constant value) rest wanted reserved other = atom_no_word value wanted rest other
operand_no_word (g.reached path) rest wanted reserved other = path_no_word path rest wanted reserved

operand_no_paren : (one : g.Operand) (rest : List Kind) → sees s.LeftParen (spell_operand one rest) ≡ false
operand_no_paren (g.constant value) rest = atom_no_sign value s.LeftParen rest
operand_no_paren (g.reached path) rest = path_no_paren path rest

-- comparisons

op_ends : (by : Op) (rest : List Kind) → EndsPath (spell_op by rest)
op_ends Eq rest = record { mark = refl; more = refl }
op_ends Ne rest = record { mark = refl; more = refl }
op_ends Lt rest = record { mark = refl; more = refl }
op_ends Le rest = record { mark = refl; more = refl }
op_ends Gt rest = record { mark = refl; more = refl }
op_ends Ge rest = record { mark = refl; more = refl }
op_ends Like rest = record { mark = refl; more = refl }

op_no_same : (by : Op) (rest : List Kind) → sees s.SameAs (spell_op by rest) ≡ false
unfolding sees
op_no_same Eq rest = refl
op_no_same Ne rest = refl
op_no_same Lt rest = refl
op_no_same Le rest = refl
op_no_same Gt rest = refl
op_no_same Ge rest = refl
op_no_same Like rest = refl

path_no_atom : (path : g.Path) (rest : List Kind) → sees_atom (spell_path path rest) ≡ false
path_no_atom (g.rooted name parts) rest = name_no_atom_here name (spell_parts parts rest)

complete_operand : (depth : ℕ) (one : g.Operand) (rest : List Kind) → nest_operand one ≤ depth → EndsPath rest
    → ◌≡◌ {A = Outcome t.OperandTree} (operand depth (spell_operand one rest)) (Some (tree_operand one, rest))
complete_operand depth (g.constant one) rest deep ends = law.operand-atom depth (spell_atom one rest) rest (value_of_atom one) (atom_seen_here one rest) (complete_atom one rest)
complete_operand depth (g.reached path) rest deep ends =
    law.operand-path depth (spell_path path rest) rest (tree_path path) (path_no_atom path rest) (complete_path depth path rest deep ends)

complete_compare : (depth : ℕ) (left right : g.Operand) (by : Op) (rest : List Kind) → nest_operand left ≤ depth → nest_operand right ≤ depth → EndsPath rest
    → ◌≡◌ {A = Outcome t.CondTree} (comparison depth (spell_operand left (spell_op by (spell_operand right rest)))) (Some (t.compare (tree_operand left) by (tree_operand right), rest))
complete_compare depth left right by rest deep deeper ends =
    let behind = spell_operand right rest in
    let signed = spell_op by behind in
    law.comparison-left depth (tree_operand left) (spell_operand left signed) signed (complete_operand depth left signed deep (op_ends by behind))
    ∙ law.behind_left-other depth (tree_operand left) signed (op_no_same by behind)
    ∙ law.compared-by depth (tree_operand left) (tree_operand right) by signed behind rest (law.op-spelled by behind) (complete_operand depth right rest deeper ends)

same_ends : (rest : List Kind) → EndsPath (k.Symbol s.SameAs ∷ rest)
same_ends rest = record { mark = refl; more = refl }

complete_same : (depth : ℕ) (left right : g.Path) (rest : List Kind) → nest_path left ≤ depth → nest_path right ≤ depth → EndsPath rest
    → ◌≡◌ {A = Outcome t.CondTree} (comparison depth (spell_path left (k.Symbol s.SameAs ∷ spell_path right rest))) (Some (t.same (tree_path left) (tree_path right), rest))
complete_same depth left right rest deep deeper ends =
    let behind = spell_path right rest in
    let signed = k.Symbol s.SameAs ∷ behind in
    law.comparison-left depth (t.at (tree_path left)) (spell_path left signed) signed (complete_operand depth (g.reached left) signed deep (same_ends behind))
    ∙ law.behind_left-same depth (tree_path left) (tree_path right) behind rest (complete_path depth right rest deeper ends)

-- each takes a token

longer_op : (by : Op) (rest : List Kind) → length rest < length (spell_op by rest)
longer_op Eq rest = omega arith
longer_op Ne rest = omega arith
longer_op Lt rest = omega arith
longer_op Le rest = omega arith
longer_op Gt rest = omega arith
longer_op Ge rest = omega arith
longer_op Like rest = omega arith

longer_operand : (one : g.Operand) (rest : List Kind) → length rest < length (spell_operand one rest)
longer_operand (g.constant one) rest = longer_atom one rest
longer_operand (g.reached path) rest = longer_path path rest

mutual
  longer_cond : (one : g.Cond) (rest : List Kind) → length rest < length (spell_cond one rest)
  longer_cond (g.conjs first others) rest = omega (arith, longer_conj first (spell_more_conjs others rest), longer_conjs others rest)

  longer_conjs : (others : g.MoreConjs) (rest : List Kind) → length rest ≤ length (spell_more_conjs others rest)
  longer_conjs g.no_conjs rest = omega arith
  longer_conjs (g.or first others) rest = omega (arith, longer_conj first (spell_more_conjs others rest), longer_conjs others rest)

  longer_conj : (one : g.Conj) (rest : List Kind) → length rest < length (spell_conj one rest)
  longer_conj (g.unaries first others) rest = omega (arith, longer_unary first (spell_more_unaries others rest), longer_unaries others rest)

  longer_unaries : (others : g.MoreUnaries) (rest : List Kind) → length rest ≤ length (spell_more_unaries others rest)
  longer_unaries g.no_unaries rest = omega arith
  longer_unaries (g.and first others) rest = omega (arith, longer_unary first (spell_more_unaries others rest), longer_unaries others rest)

  longer_unary : (one : g.Unary) (rest : List Kind) → length rest < length (spell_unary one rest)
  longer_unary (g.not body) rest = omega (arith, longer_unary body rest)
  longer_unary (g.parens inner) rest = omega (arith, longer_cond inner (k.Symbol s.RightParen ∷ rest))
  longer_unary (g.exists name path body) rest =
      let held = spell_unary body rest in
      omega (arith, longer_name name (k.Word (codes "in") ∷ spell_path path (k.Symbol s.Colon ∷ held)), longer_path path (k.Symbol s.Colon ∷ held), longer_unary body rest)
  longer_unary (g.for_all name path body) rest =
      let held = spell_unary body rest in
      omega (arith, longer_name name (k.Word (codes "in") ∷ spell_path path (k.Symbol s.Colon ∷ held)), longer_path path (k.Symbol s.Colon ∷ held), longer_unary body rest)
  longer_unary (g.compare left by right) rest = omega (arith, longer_operand left (spell_op by (spell_operand right rest)), longer_op by (spell_operand right rest), longer_operand right rest)
  longer_unary (g.same left right) rest = omega (arith, longer_path left (k.Symbol s.SameAs ∷ spell_path right rest), longer_path right rest)

-- lists of conditions

abbrev listed_conjs : g.MoreConjs → List t.CondTree
listed_conjs g.no_conjs = []
listed_conjs (g.or first others) = tree_conj first ∷ listed_conjs others

abbrev listed_unaries : g.MoreUnaries → List t.CondTree
listed_unaries g.no_unaries = []
listed_unaries (g.and first others) = tree_unary first ∷ listed_unaries others

conds_from-conjs : (others : g.MoreConjs) → t.conds_from (listed_conjs others) ≡ trees_more_conjs others
conds_from-conjs g.no_conjs = refl
conds_from-conjs (g.or first others) = ap (t.cond (tree_conj first)) (conds_from-conjs others)

conds_from-unaries : (others : g.MoreUnaries) → t.conds_from (listed_unaries others) ≡ trees_more_unaries others
conds_from-unaries g.no_unaries = refl
conds_from-unaries (g.and first others) = ap (t.cond (tree_unary first)) (conds_from-unaries others)

-- what ends a condition ends each member of its lists

record EndsConj (rest : List Kind) : Type 0 where
  path : EndsPath rest
  conj : sees_word (codes "and") rest ≡ false

conjs_end : (others : g.MoreConjs) (rest : List Kind) → EndsCond rest → EndsConj (spell_more_conjs others rest)
unfolding sees_word
conjs_end g.no_conjs rest ends = record { path = ends.path; conj = ends.conj }
conjs_end (g.or first others) rest ends = record { path = record { mark = refl; more = refl }; conj = refl }

unaries_end : (others : g.MoreUnaries) (rest : List Kind) → EndsPath rest → EndsPath (spell_more_unaries others rest)
unaries_end g.no_unaries rest ends = ends
unaries_end (g.and first others) rest ends = record { mark = refl; more = refl }

close_ends : (rest : List Kind) → EndsCond (k.Symbol s.RightParen ∷ rest)
unfolding sees_word
close_ends rest = record { path = record { mark = refl; more = refl }; conj = refl; disj = refl }

colon_ends : (rest : List Kind) → EndsPath (k.Symbol s.Colon ∷ rest)
colon_ends rest = record { mark = refl; more = refl }

sees_or : (rest : List Kind) → sees_word (codes "or") (k.Word (codes "or") ∷ rest) ≡ true
unfolding sees_word
sees_or rest = refl

sees_and : (rest : List Kind) → sees_word (codes "and") (k.Word (codes "and") ∷ rest) ≡ true
unfolding sees_word
sees_and rest = refl

expects_in : (rest : List Kind) → ◌≡◌ {A = Outcome (Unit {0})} (expect_word (codes "in") (k.Word (codes "in") ∷ rest)) (Some (tt, rest))
unfolding expect_word sees_word
expects_in rest = refl

enclosed-reads : (depth : ℕ) (kinds : List Kind) → enclosed (suc depth) kinds ≡ unary depth kinds
enclosed-reads depth kinds = ap (λ (read : Parse t.CondTree). read kinds) (law.enclosed-deeper depth)

-- the quantifier's variable, path and body, behind its first words
complete_quantified : (depth : ℕ) (name : g.Name) (path : g.Path) (held rest : List Kind) (holds : t.CondTree) → nest_path path ≤ depth
    → ◌≡◌ {A = Outcome t.CondTree} (unary depth held) (Some (holds, rest))
    → ◌≡◌ {A = Outcome (List ℕ × t.RootedTree × t.CondTree)}
    (quantified (suc depth) (enclosed (suc depth)) (spell_name name (k.Word (codes "in") ∷ spell_path path (k.Symbol s.Colon ∷ held)))) (Some ((text_of_name name, tree_path path, holds), rest))
complete_quantified depth name path held rest holds deep read =
    let closing = k.Symbol s.Colon ∷ held in
    let walked = spell_path path closing in
    let worded = k.Word (codes "in") ∷ walked in
    law.quantified-over (suc depth) (enclosed (suc depth)) (spell_name name worded) worded walked held rest (text_of_name name) (tree_path path) holds
    (complete_name name worded) (expects_in walked) (law.enclosed_path-deeper depth walked ∙ complete_path depth path closing deep (colon_ends held))
    (enclosed-reads depth held ∙ read)

mutual
  complete_conds : (depth : ℕ) (one : g.Cond) (rest : List Kind) → nest_cond one ≤ depth → EndsCond rest
      → ◌≡◌ {A = Outcome t.CondTree} (cond (unary depth) (spell_cond one rest)) (Some (tree_cond one, rest))
  complete_conds depth (g.conjs first g.no_conjs) rest deep ends =
      law.list-one (codes "or") (conj (unary depth)) t.or (spell_conj first rest) rest (tree_conj first)
      (complete_conj depth first rest (omega arith) ends.path ends.conj) ends.disj
  complete_conds depth (g.conjs first (g.or second others)) rest deep ends =
      let behind = spell_more_conjs others rest in
      let also = spell_conj second behind in
      let worded = k.Word (codes "or") ∷ also in
      let end = conjs_end (g.or second others) rest ends in
      let end_second = conjs_end others rest ends in
      let view : t.CondTrees → Outcome t.CondTree = λ trees. Some (t.or (t.cond (tree_conj first) (t.cond (tree_conj second) trees)), rest) in
      law.list-more (codes "or") (conj (unary depth)) t.or (spell_conj first worded) worded behind rest (tree_conj first) (tree_conj second)
      (tree_conj first ∷ tree_conj second ∷ listed_conjs others)
      (complete_conj depth first worded (omega arith) end.path end.conj) (sees_or also)
      (complete_conj depth second behind (omega arith) end_second.path end_second.conj)
      (complete_more_conjs depth others (length behind) (tree_conj first ∷ tree_conj second ∷ []) rest (omega arith) (omega arith) ends)
      ∙ ap view (conds_from-conjs others)

  complete_more_conjs : (depth : ℕ) (others : g.MoreConjs) (turns : ℕ) (before : List t.CondTree) (rest : List Kind) → nest_more_conjs others ≤ depth
      → length (spell_more_conjs others rest) ≤ turns → EndsCond rest
      → ◌≡◌ {A = Outcome (List t.CondTree)} (others_from (codes "or") (conj (unary depth)) turns before (spell_more_conjs others rest)) (Some (before ++ listed_conjs others, rest))
  complete_more_conjs depth g.no_conjs zero before rest deep fits ends = rw append-nil (law.others_from-zero (codes "or") (conj (unary depth)) before rest)
  complete_more_conjs depth g.no_conjs (suc turns) before rest deep fits ends = rw append-nil (law.others_from-end (codes "or") (conj (unary depth)) turns before rest ends.disj)
  complete_more_conjs depth (g.or first others) zero before rest deep fits ends = absurd (omega arith)
  complete_more_conjs depth (g.or first others) (suc turns) before rest deep fits ends =
      let behind = spell_more_conjs others rest in
      let spelled = spell_conj first behind in
      let fewer : length behind ≤ turns = omega (arith, longer_conj first behind) in
      let end = conjs_end others rest ends in
      law.others_from-more (codes "or") (conj (unary depth)) turns before (k.Word (codes "or") ∷ spelled) behind (tree_conj first) (sees_or spelled)
      (complete_conj depth first behind (omega arith) end.path end.conj)
      ∙ complete_more_conjs depth others turns (before ++ tree_conj first ∷ []) rest (omega arith) fewer ends
      ∙ (simp append_assoc)

  complete_conj : (depth : ℕ) (one : g.Conj) (rest : List Kind) → nest_conj one ≤ depth → EndsPath rest → sees_word (codes "and") rest ≡ false
      → ◌≡◌ {A = Outcome t.CondTree} (conj (unary depth) (spell_conj one rest)) (Some (tree_conj one, rest))
  complete_conj depth (g.unaries first g.no_unaries) rest deep path ends =
      law.list-one (codes "and") (unary depth) t.and (spell_unary first rest) rest (tree_unary first) (complete_unary depth first rest (omega arith) path) ends
  complete_conj depth (g.unaries first (g.and second others)) rest deep path ends =
      let behind = spell_more_unaries others rest in
      let also = spell_unary second behind in
      let worded = k.Word (codes "and") ∷ also in
      let view : t.CondTrees → Outcome t.CondTree = λ trees. Some (t.and (t.cond (tree_unary first) (t.cond (tree_unary second) trees)), rest) in
      law.list-more (codes "and") (unary depth) t.and (spell_unary first worded) worded behind rest (tree_unary first) (tree_unary second)
      (tree_unary first ∷ tree_unary second ∷ listed_unaries others)
      (complete_unary depth first worded (omega arith) (unaries_end (g.and second others) rest path)) (sees_and also)
      (complete_unary depth second behind (omega arith) (unaries_end others rest path))
      (complete_more_unaries depth others (length behind) (tree_unary first ∷ tree_unary second ∷ []) rest (omega arith) (omega arith) path ends)
      ∙ ap view (conds_from-unaries others)

  complete_more_unaries : (depth : ℕ) (others : g.MoreUnaries) (turns : ℕ) (before : List t.CondTree) (rest : List Kind) → nest_more_unaries others ≤ depth
      → length (spell_more_unaries others rest) ≤ turns → EndsPath rest → sees_word (codes "and") rest ≡ false
      → ◌≡◌ {A = Outcome (List t.CondTree)} (others_from (codes "and") (unary depth) turns before (spell_more_unaries others rest)) (Some (before ++ listed_unaries others, rest))
  complete_more_unaries depth g.no_unaries zero before rest deep fits path ends = rw append-nil (law.others_from-zero (codes "and") (unary depth) before rest)
  complete_more_unaries depth g.no_unaries (suc turns) before rest deep fits path ends = rw append-nil (law.others_from-end (codes "and") (unary depth) turns before rest ends)
  complete_more_unaries depth (g.and first others) zero before rest deep fits path ends = absurd (omega arith)
  complete_more_unaries depth (g.and first others) (suc turns) before rest deep fits path ends =
      let behind = spell_more_unaries others rest in
      let spelled = spell_unary first behind in
      let fewer : length behind ≤ turns = omega (arith, longer_unary first behind) in
      law.others_from-more (codes "and") (unary depth) turns before (k.Word (codes "and") ∷ spelled) behind (tree_unary first) (sees_and spelled)
      (complete_unary depth first behind (omega arith) (unaries_end others rest path))
      ∙ complete_more_unaries depth others turns (before ++ tree_unary first ∷ []) rest (omega arith) fewer path ends
      ∙ (simp append_assoc)

  complete_unary : (depth : ℕ) (one : g.Unary) (rest : List Kind) → nest_unary one ≤ depth → EndsPath rest
      → ◌≡◌ {A = Outcome t.CondTree} (unary depth (spell_unary one rest)) (Some (tree_unary one, rest))
  complete_unary zero (g.not body) rest deep ends = absurd (omega arith)
  complete_unary (suc depth) (g.not body) rest deep ends =
      let held = spell_unary body rest in
      law.unary_by-not (suc depth) (enclosed (suc depth)) held rest (tree_unary body) (enclosed-reads depth held ∙ complete_unary depth body rest (omega arith) ends)
  complete_unary zero (g.parens inner) rest deep ends = absurd (omega arith)
  complete_unary (suc depth) (g.parens inner) rest deep ends =
      let closing = k.Symbol s.RightParen ∷ rest in
      let held = spell_cond inner closing in
      law.unary_by-parens (suc depth) (enclosed (suc depth)) held rest (tree_cond inner)
      (ap (λ (read : Parse t.CondTree). cond read held) (law.enclosed-deeper depth) ∙ complete_conds depth inner closing (omega arith) (close_ends rest))
  complete_unary zero (g.exists name path body) rest deep ends = absurd (omega arith)
  complete_unary (suc depth) (g.exists name path body) rest deep ends =
      let held = spell_unary body rest in
      law.unary_by-exists (suc depth) (enclosed (suc depth)) (spell_name name (k.Word (codes "in") ∷ spell_path path (k.Symbol s.Colon ∷ held))) rest (text_of_name name) (tree_path path) (tree_unary body)
      (complete_quantified depth name path held rest (tree_unary body) (omega arith) (complete_unary depth body rest (omega arith) ends))
  complete_unary zero (g.for_all name path body) rest deep ends = absurd (omega arith)
  complete_unary (suc depth) (g.for_all name path body) rest deep ends =
      let held = spell_unary body rest in
      law.unary_by-for_all (suc depth) (enclosed (suc depth)) (spell_name name (k.Word (codes "in") ∷ spell_path path (k.Symbol s.Colon ∷ held))) rest (text_of_name name) (tree_path path) (tree_unary body)
      (complete_quantified depth name path held rest (tree_unary body) (omega arith) (complete_unary depth body rest (omega arith) ends))
  complete_unary depth (g.compare left by right) rest deep ends =
      let signed = spell_op by (spell_operand right rest) in
      law.unary_by-comparison depth (enclosed depth) (spell_operand left signed) (operand_no_word left signed (codes "not") refl refl) (operand_no_paren left signed)
      (operand_no_word left signed (codes "exists") refl refl) (operand_no_word left signed (codes "for") refl refl)
      ∙ complete_compare depth left right by rest (omega arith) (omega arith) ends
  complete_unary depth (g.same left right) rest deep ends =
      let signed = k.Symbol s.SameAs ∷ spell_path right rest in
      law.unary_by-comparison depth (enclosed depth) (spell_path left signed) (operand_no_word (g.reached left) signed (codes "not") refl refl) (operand_no_paren (g.reached left) signed)
      (operand_no_word (g.reached left) signed (codes "exists") refl refl) (operand_no_word (g.reached left) signed (codes "for") refl refl)
      ∙ complete_same depth left right rest (omega arith) (omega arith) ends

pub complete_cond : (depth : ℕ) (one : g.Cond) (rest : List Kind) → nest_cond one ≤ depth → EndsCond rest
    → ◌≡◌ {A = Outcome t.CondTree} (condition depth (spell_cond one rest)) (Some (tree_cond one, rest))
complete_cond depth one rest deep ends = law.condition-is depth (spell_cond one rest) ∙ complete_conds depth one rest deep ends
