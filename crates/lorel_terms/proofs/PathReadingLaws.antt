-- The functions of paths of the reference parser, each by what it calls, for any parser of groups.
use Rattle.std.proofs.Common.{◌≡◌, ℕ, suc, true, false, List, [], ◌∷◌, ◌++◌, length, Some, refl}
use Rattle.lorel_terms.specs.Types.{Plain, Wild, Kind}
use Rattle.lore_base.specs.Paths.{PathTree, step, any, seq, alt, opt, star, plus, trees_of}
use Rattle.lorel_tokens.specs.declared.token_types.Kind.TheVariants as k
use Rattle.lorel_tokens.specs.declared.token_types.Sign.TheVariants as s
use Rattle.lorel_trees.specs.Grammar as g
use Rattle.lorel_trees.specs.Paths.{spell_label, text_of_label}
use Rattle.lorel_trees.specs.Trees.{RootedTree}
use Rattle.lorel_terms.specs.Outcomes.{Outcome, Parse, sees, expect}
use Rattle.lorel_terms.specs.Names.{name}
use Rattle.lorel_terms.specs.Paths.{one_step, repeated, begins_part, base, part, parts_from, parts, sequence, choices_from, more_choices, choices, inside, rooted}
use Rattle.lorel_terms.proofs.EndLaws.{begins_mark, sees_no_mark}

pub one_step-label : (one : g.Label) (rest : List Kind) → ◌≡◌ {A = Outcome PathTree} (one_step (spell_label one rest)) (Some (step (Plain (text_of_label one)), rest))
unfolding one_step sees
one_step-label (g.word text) rest = refl
one_step-label (g.quoted text) rest = refl

pub one_step-pattern : (text : List ℕ) (rest : List Kind) → ◌≡◌ {A = Outcome PathTree} (one_step (k.Wild text ∷ rest)) (Some (step (Wild text), rest))
unfolding one_step sees
one_step-pattern text rest = refl

pub one_step-hash : (rest : List Kind) → ◌≡◌ {A = Outcome PathTree} (one_step (k.Symbol s.Hash ∷ rest)) (Some (any, rest))
unfolding one_step sees
one_step-hash rest = refl

pub repeated-question : (tree : PathTree) (rest : List Kind) → ◌≡◌ {A = Outcome PathTree} (repeated tree (k.Symbol s.Question ∷ rest)) (Some (opt tree, rest))
unfolding repeated sees
repeated-question tree rest = refl

pub repeated-star : (tree : PathTree) (rest : List Kind) → ◌≡◌ {A = Outcome PathTree} (repeated tree (k.Symbol s.Star ∷ rest)) (Some (star tree, rest))
unfolding repeated sees
repeated-star tree rest = refl

pub repeated-plus : (tree : PathTree) (rest : List Kind) → ◌≡◌ {A = Outcome PathTree} (repeated tree (k.Symbol s.Plus ∷ rest)) (Some (plus tree, rest))
unfolding repeated sees
repeated-plus tree rest = refl

pub repeated-once : (tree : PathTree) (rest : List Kind) → begins_mark rest ≡ false → ◌≡◌ {A = Outcome PathTree} (repeated tree rest) (Some (tree, rest))
unfolding repeated
repeated-once tree rest ends = let none = sees_no_mark rest ends in rw (none.question, none.star, none.plus)

module _ (group : Parse (List PathTree)) where
  pub base-step : (rest : List Kind) → base group (k.Symbol s.Dot ∷ rest) ≡ one_step rest
  unfolding base sees
  base-step rest = refl

  pub base-group : (kinds rest : List Kind) (trees : List PathTree) → ◌≡◌ {A = Outcome (List PathTree)} (group kinds) (Some (trees, rest))
      → ◌≡◌ {A = Outcome PathTree} (base group (k.Symbol s.LeftParen ∷ kinds)) (Some (alt (trees_of trees), rest))
  unfolding base sees expect
  base-group kinds rest trees read = rw read

  pub part-base : (kinds rest : List Kind) (tree : PathTree) → ◌≡◌ {A = Outcome PathTree} (base group kinds) (Some (tree, rest)) → part group kinds ≡ repeated tree rest
  unfolding part
  part-base kinds rest tree read = rw read

  pub parts_from-zero : (before : List PathTree) (kinds : List Kind) → ◌≡◌ {A = Outcome (List PathTree)} (parts_from group 0 before kinds) (Some (before, kinds))
  unfolding parts_from
  parts_from-zero before kinds = refl

  pub parts_from-end : (turns : ℕ) (before : List PathTree) (kinds : List Kind) → begins_part kinds ≡ false
      → ◌≡◌ {A = Outcome (List PathTree)} (parts_from group (suc turns) before kinds) (Some (before, kinds))
  unfolding parts_from
  parts_from-end turns before kinds ends = rw ends

  pub parts_from-more : (turns : ℕ) (before : List PathTree) (kinds rest : List Kind) (one : PathTree) → begins_part kinds ≡ true
      → ◌≡◌ {A = Outcome PathTree} (part group kinds) (Some (one, rest)) → parts_from group (suc turns) before kinds ≡ parts_from group turns (before ++ one ∷ []) rest
  unfolding parts_from
  parts_from-more turns before kinds rest one begins read = rw (begins, read)

  pub sequence-parts : (kinds rest behind : List Kind) (first : PathTree) (trees : List PathTree) → ◌≡◌ {A = Outcome PathTree} (part group kinds) (Some (first, rest))
      → ◌≡◌ {A = Outcome (List PathTree)} (parts_from group (length rest) (first ∷ []) rest) (Some (trees, behind))
      → ◌≡◌ {A = Outcome PathTree} (sequence group kinds) (Some (seq (trees_of trees), behind))
  unfolding sequence parts
  sequence-parts kinds rest behind first trees read more = rw (read, more)

  pub choices_from-zero : (before : List PathTree) (kinds : List Kind) → ◌≡◌ {A = Outcome (List PathTree)} (choices_from group 0 before kinds) (Some (before, kinds))
  unfolding choices_from
  choices_from-zero before kinds = refl

  pub choices_from-end : (turns : ℕ) (before : List PathTree) (kinds : List Kind) → sees s.Bar kinds ≡ false
      → ◌≡◌ {A = Outcome (List PathTree)} (choices_from group (suc turns) before kinds) (Some (before, kinds))
  unfolding choices_from
  choices_from-end turns before kinds ends = rw ends

  pub choices_from-bar : (turns : ℕ) (before : List PathTree) (kinds rest : List Kind) (one : PathTree)
      → ◌≡◌ {A = Outcome PathTree} (sequence group kinds) (Some (one, rest))
      → choices_from group (suc turns) before (k.Symbol s.Bar ∷ kinds) ≡ choices_from group turns (before ++ one ∷ []) rest
  unfolding choices_from sees
  choices_from-bar turns before kinds rest one read = rw read

  pub choices-closed : (kinds rest behind : List Kind) (first : PathTree) (trees : List PathTree) → ◌≡◌ {A = Outcome PathTree} (sequence group kinds) (Some (first, rest))
      → ◌≡◌ {A = Outcome (List PathTree)} (choices_from group (length rest) (first ∷ []) rest) (Some (trees, k.Symbol s.RightParen ∷ behind))
      → ◌≡◌ {A = Outcome (List PathTree)} (choices group kinds) (Some (trees, behind))
  unfolding choices more_choices expect sees
  choices-closed kinds rest behind first trees read more = rw (read, more)

pub inside-deeper : (depth : ℕ) (kinds : List Kind) → inside (suc depth) kinds ≡ choices (inside depth) kinds
unfolding inside
inside-deeper depth kinds = refl

pub rooted-parts : (depth : ℕ) (kinds rest behind : List Kind) (start : List ℕ) (trees : List PathTree) → ◌≡◌ {A = Outcome (List ℕ)} (name kinds) (Some (start, rest))
    → ◌≡◌ {A = Outcome (List PathTree)} (parts_from (inside depth) (length rest) [] rest) (Some (trees, behind))
    → ◌≡◌ {A = Outcome RootedTree} (rooted depth kinds) (Some (record { start = start; parts = trees }, behind))
unfolding rooted parts
rooted-parts depth kinds rest behind start trees named more = rw (named, more)
