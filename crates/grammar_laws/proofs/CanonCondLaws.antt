-- Canonical derivations of conditions, for each place where a condition may stand.
use Rattle.std.proofs.Common.{◌≡◌, ℕ, ◌+◌, ◌≤◌, List, ◌∷◌, codes, refl, ap, ◌∙◌, arith}
use Rattle.lorel_trees.specs.Types.{Kind}
use Rattle.lorel_tokens.specs.declared.token_types.Kind.TheVariants as k
use Rattle.lorel_tokens.specs.declared.token_types.Sign.TheVariants as s
use Rattle.lorel_trees.specs.Trees as t
use Rattle.lorel_trees.specs.Grammar as g
use Rattle.lorel_trees.specs.Paths.{text_of_name, spell_path, tree_path}
use Rattle.lorel_trees.specs.Conditions.{spell_op, spell_operand, tree_operand, spell_cond, tree_cond, nest_cond, spell_more_conjs, trees_more_conjs, nest_more_conjs, spell_conj, tree_conj, nest_conj, spell_more_unaries, trees_more_unaries, nest_more_unaries, spell_unary, tree_unary, nest_unary}
use Rattle.lorel_ast.specs.declared.print_conditions.Standing.TheVariants.{Alone, InOr, Inside}
use Rattle.lorel_ast.specs.Printing.{print_cond, print_more_conds, print_rooted, print_operand}
use Rattle.grammar_laws.proofs.CanonPathLaws.{Canon, canon_path, canon_operand}

abbrev pub CanonCond : t.CondTree → ℕ → Type 0
CanonCond wanted limit = Canon spell_cond tree_cond nest_cond (λ tree. print_cond tree Alone) wanted limit

abbrev CanonConj : t.CondTree → ℕ → Type 0
CanonConj wanted limit = Canon spell_conj tree_conj nest_conj (λ tree. print_cond tree InOr) wanted limit

abbrev CanonUnary : t.CondTree → ℕ → Type 0
CanonUnary wanted limit = Canon spell_unary tree_unary nest_unary (λ tree. print_cond tree Inside) wanted limit

-- a condition is printed at each place within these depths
record Prints (wanted : t.CondTree) (at_alone at_or at_inside : ℕ) : Type 0 where
  pub whole : CanonCond wanted at_alone
  pub member : CanonConj wanted at_or
  pub body : CanonUnary wanted at_inside

deeper : {D T : Type 0} {spell : D → List Kind → List Kind} {tree : D → T} {nest : D → ℕ} {print : T → List Kind → List Kind} {wanted : T} {limit : ℕ}
    (above : ℕ) → limit ≤ above → Canon spell tree nest print wanted limit → Canon spell tree nest print wanted above
deeper above low one = record { by = one.by; spelled = one.spelled; same = one.same; deep = let fits = one.deep in omega arith }

-- what is neither an `or` nor an `and` is printed alike everywhere
simple : (wanted : t.CondTree) (limit : ℕ) → CanonUnary wanted limit → ((rest : List Kind) → print_cond wanted Inside rest ≡ print_cond wanted InOr rest)
    → ((rest : List Kind) → print_cond wanted Inside rest ≡ print_cond wanted Alone rest) → Prints wanted limit limit limit
simple wanted limit one to_or to_alone = record {
  whole = record {
    by = g.conjs (g.unaries one.by g.no_unaries) g.no_conjs;
    spelled = λ rest. one.spelled rest ∙ to_alone rest;
    same = one.same;
    deep = let fits = one.deep in omega arith;
  };
  member = record {
    by = g.unaries one.by g.no_unaries;
    spelled = λ rest. one.spelled rest ∙ to_or rest;
    same = one.same;
    deep = let fits = one.deep in omega arith;
  };
  body = one;
}

-- an `and` stands in parentheses as a member of an `and` and as a body, an `or` everywhere but alone
joined_and : (members : t.CondTrees) (limit : ℕ) → CanonConj (t.and members) limit → Prints (t.and members) limit limit (limit + 1)
joined_and members limit one = record {
  whole = record {
    by = g.conjs one.by g.no_conjs;
    spelled = one.spelled;
    same = one.same;
    deep = let fits = one.deep in omega arith;
  };
  member = one;
  body = record {
    by = g.parens (g.conjs one.by g.no_conjs);
    spelled = λ rest. ap (λ kinds. k.Symbol s.LeftParen ∷ kinds) (one.spelled (k.Symbol s.RightParen ∷ rest));
    same = one.same;
    deep = let fits = one.deep in omega arith;
  };
}

joined_or : (members : t.CondTrees) (limit : ℕ) → CanonCond (t.or members) limit → Prints (t.or members) limit (limit + 1) (limit + 1)
joined_or members limit one =
    let body : CanonUnary (t.or members) (limit + 1) = record {
      by = g.parens one.by;
      spelled = λ rest. ap (λ kinds. k.Symbol s.LeftParen ∷ kinds) (one.spelled (k.Symbol s.RightParen ∷ rest));
      same = one.same;
      deep = let fits = one.deep in omega arith;
    } in
    record {
      whole = one;
      member = record { by = g.unaries body.by g.no_unaries; spelled = body.spelled; same = body.same; deep = let fits = one.deep in omega arith };
      body = body;
    }

-- a quantifier with its word, its variable, its path and its body
exists_spelled : (name : g.Name) (path canonical : g.Path) (body : g.Unary) (tree : t.CondTree) → ((rest : List Kind) → spell_path canonical rest ≡ print_rooted (tree_path path) rest)
    → ((rest : List Kind) → spell_unary body rest ≡ print_cond tree Inside rest) → (rest : List Kind)
    → spell_unary (g.exists name canonical body) rest ≡ print_cond (t.exists (text_of_name name) (tree_path path) tree) Inside rest
exists_spelled (g.free text unreserved) path canonical body tree on of rest =
    ap (λ kinds. k.Word (codes "exists") ∷ k.Word text ∷ k.Word (codes "in") ∷ kinds)
    (on (k.Symbol s.Colon ∷ spell_unary body rest) ∙ ap (λ kinds. print_rooted (tree_path path) (k.Symbol s.Colon ∷ kinds)) (of rest))

for_all_spelled : (name : g.Name) (path canonical : g.Path) (body : g.Unary) (tree : t.CondTree) → ((rest : List Kind) → spell_path canonical rest ≡ print_rooted (tree_path path) rest)
    → ((rest : List Kind) → spell_unary body rest ≡ print_cond tree Inside rest) → (rest : List Kind)
    → spell_unary (g.for_all name canonical body) rest ≡ print_cond (t.for_all (text_of_name name) (tree_path path) tree) Inside rest
for_all_spelled (g.free text unreserved) path canonical body tree on of rest =
    ap (λ kinds. k.Word (codes "for") ∷ k.Word (codes "all") ∷ k.Word text ∷ k.Word (codes "in") ∷ kinds)
    (on (k.Symbol s.Colon ∷ spell_unary body rest) ∙ ap (λ kinds. print_rooted (tree_path path) (k.Symbol s.Colon ∷ kinds)) (of rest))

abbrev CanonUnaries : g.MoreUnaries → Type 0
CanonUnaries others = Canon spell_more_unaries trees_more_unaries nest_more_unaries (λ trees. print_more_conds trees (codes "and") Inside) (trees_more_unaries others) (nest_more_unaries others)

abbrev CanonConjs : g.MoreConjs → Type 0
CanonConjs others = Canon spell_more_conjs trees_more_conjs nest_more_conjs (λ trees. print_more_conds trees (codes "or") InOr) (trees_more_conjs others) (nest_more_conjs others)

-- two or more, where the second one and those behind it are known
and_of : (first second : t.CondTree) (others : t.CondTrees) (a b c : ℕ) (limit : ℕ) → CanonUnary first a → CanonUnary second b
    → Canon spell_more_unaries trees_more_unaries nest_more_unaries (λ trees. print_more_conds trees (codes "and") Inside) others c
    → a ≤ limit → b ≤ limit → c ≤ limit → CanonConj (t.and (t.cond first (t.cond second others))) limit
and_of first second others a b c limit one two more low mid high = record {
  by = g.unaries one.by (g.and two.by more.by);
  spelled = λ rest. one.spelled (spell_more_unaries (g.and two.by more.by) rest)
      ∙ ap (λ kinds. print_cond first Inside (k.Word (codes "and") ∷ kinds)) (two.spelled (spell_more_unaries more.by rest) ∙ ap (print_cond second Inside) (more.spelled rest));
  same = cc (one.same, two.same, more.same);
  deep = let x = one.deep in let y = two.deep in let z = more.deep in omega arith;
}

or_of : (first second : t.CondTree) (others : t.CondTrees) (a b c : ℕ) (limit : ℕ) → CanonConj first a → CanonConj second b
    → Canon spell_more_conjs trees_more_conjs nest_more_conjs (λ trees. print_more_conds trees (codes "or") InOr) others c
    → a ≤ limit → b ≤ limit → c ≤ limit → CanonCond (t.or (t.cond first (t.cond second others))) limit
or_of first second others a b c limit one two more low mid high = record {
  by = g.conjs one.by (g.or two.by more.by);
  spelled = λ rest. one.spelled (spell_more_conjs (g.or two.by more.by) rest)
      ∙ ap (λ kinds. print_cond first InOr (k.Word (codes "or") ∷ kinds)) (two.spelled (spell_more_conjs more.by rest) ∙ ap (print_cond second InOr) (more.spelled rest));
  same = cc (one.same, two.same, more.same);
  deep = let x = one.deep in let y = two.deep in let z = more.deep in omega arith;
}

mutual
  good_cond : (cond : g.Cond) → Prints (tree_cond cond) (nest_cond cond) (nest_cond cond + 1) (nest_cond cond + 1)
  good_cond (g.conjs first g.no_conjs) =
      let one = good_conj first in
      record { whole = deeper _ (omega arith) one.whole; member = deeper _ (omega arith) one.member; body = deeper _ (omega arith) one.body }
  good_cond (g.conjs first (g.or second others)) =
      joined_or _ _ (or_of (tree_conj first) (tree_conj second) (trees_more_conjs others) (nest_conj first) (nest_conj second) (nest_more_conjs others) _
      (good_conj first).member (good_conj second).member (good_conjs others) (omega arith) (omega arith) (omega arith))

  good_conjs : (others : g.MoreConjs) → CanonConjs others
  good_conjs g.no_conjs = record { by = g.no_conjs; spelled = λ rest. refl; same = refl; deep = omega arith }
  good_conjs (g.or first others) =
      let one = (good_conj first).member in
      let more = good_conjs others in
      record {
        by = g.or one.by more.by;
        spelled = λ rest. ap (λ kinds. k.Word (codes "or") ∷ kinds) (one.spelled (spell_more_conjs more.by rest) ∙ ap (print_cond (tree_conj first) InOr) (more.spelled rest));
        same = cc (one.same, more.same);
        deep = let x = one.deep in let y = more.deep in omega arith;
      }

  good_conj : (conj : g.Conj) → Prints (tree_conj conj) (nest_conj conj) (nest_conj conj) (nest_conj conj + 1)
  good_conj (g.unaries first g.no_unaries) =
      let one = good_unary first in
      record { whole = deeper _ (omega arith) one.whole; member = deeper _ (omega arith) one.member; body = deeper _ (omega arith) one.body }
  good_conj (g.unaries first (g.and second others)) =
      joined_and _ _ (and_of (tree_unary first) (tree_unary second) (trees_more_unaries others) (nest_unary first) (nest_unary second) (nest_more_unaries others) _
      (good_unary first).body (good_unary second).body (good_unaries others) (omega arith) (omega arith) (omega arith))

  good_unaries : (others : g.MoreUnaries) → CanonUnaries others
  good_unaries g.no_unaries = record { by = g.no_unaries; spelled = λ rest. refl; same = refl; deep = omega arith }
  good_unaries (g.and first others) =
      let one = (good_unary first).body in
      let more = good_unaries others in
      record {
        by = g.and one.by more.by;
        spelled = λ rest. ap (λ kinds. k.Word (codes "and") ∷ kinds) (one.spelled (spell_more_unaries more.by rest) ∙ ap (print_cond (tree_unary first) Inside) (more.spelled rest));
        same = cc (one.same, more.same);
        deep = let x = one.deep in let y = more.deep in omega arith;
      }

  good_unary : (unary : g.Unary) → Prints (tree_unary unary) (nest_unary unary) (nest_unary unary) (nest_unary unary)
  good_unary (g.not body) =
      let one = (good_unary body).body in
      simple (t.not (tree_unary body)) _ record {
        by = g.not one.by;
        spelled = λ rest. ap (λ kinds. k.Word (codes "not") ∷ kinds) (one.spelled rest);
        same = ap t.not one.same;
        deep = let x = one.deep in omega arith;
      } (λ rest. refl) (λ rest. refl)
  good_unary (g.parens inner) =
      let one = good_cond inner in
      record { whole = deeper _ (omega arith) one.whole; member = one.member; body = one.body }
  good_unary (g.exists name path body) =
      let on = canon_path path in
      let one = (good_unary body).body in
      simple (t.exists (text_of_name name) (tree_path path) (tree_unary body)) _ record {
        by = g.exists name on.by one.by;
        spelled = exists_spelled name path on.by one.by (tree_unary body) on.spelled one.spelled;
        same = cc (on.same, one.same);
        deep = let x = on.deep in let y = one.deep in omega arith;
      } (λ rest. refl) (λ rest. refl)
  good_unary (g.for_all name path body) =
      let on = canon_path path in
      let one = (good_unary body).body in
      simple (t.for_all (text_of_name name) (tree_path path) (tree_unary body)) _ record {
        by = g.for_all name on.by one.by;
        spelled = for_all_spelled name path on.by one.by (tree_unary body) on.spelled one.spelled;
        same = cc (on.same, one.same);
        deep = let x = on.deep in let y = one.deep in omega arith;
      } (λ rest. refl) (λ rest. refl)
  good_unary (g.compare left by right) =
      let one = canon_operand left in
      let two = canon_operand right in
      simple (t.compare (tree_operand left) by (tree_operand right)) _ record {
        by = g.compare one.by by two.by;
        spelled = λ rest. one.spelled (spell_op by (spell_operand two.by rest))
            ∙ ap (λ kinds. print_operand (tree_operand left) (spell_op by kinds)) (two.spelled rest);
        same = cc (one.same, two.same);
        deep = let x = one.deep in let y = two.deep in omega arith;
      } (λ rest. refl) (λ rest. refl)
  good_unary (g.same left right) =
      let one = canon_path left in
      let two = canon_path right in
      simple (t.same (tree_path left) (tree_path right)) _ record {
        by = g.same one.by two.by;
        spelled = λ rest. one.spelled (k.Symbol s.SameAs ∷ spell_path two.by rest)
            ∙ ap (λ kinds. print_rooted (tree_path left) (k.Symbol s.SameAs ∷ kinds)) (two.spelled rest);
        same = cc (one.same, two.same);
        deep = let x = one.deep in let y = two.deep in omega arith;
      } (λ rest. refl) (λ rest. refl)

pub canon_cond : (cond : g.Cond) → CanonCond (tree_cond cond) (nest_cond cond)
canon_cond cond = (good_cond cond).whole
