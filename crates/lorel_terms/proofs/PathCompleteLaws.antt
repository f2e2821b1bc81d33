-- The reference parser reads what a derivation of a path spells: it takes exactly those tokens and gives the derivation's tree.
use Rattle.std.proofs.Common.{◌≡◌, ℕ, zero, suc, ◌<◌, ◌≤◌, true, false, List, [], ◌∷◌, ◌++◌, length, Some, refl, ap, ◌∙◌, arith, append_assoc}
use Rattle.std.proofs.lemmas.List.{append-nil}
use Rattle.lorel_terms.specs.Types.{Kind}
use Rattle.lore_base.specs.Paths.{PathTree, PathTrees, more, alt, trees_of}
use Rattle.lorel_tokens.specs.declared.token_types.Kind.TheVariants as k
use Rattle.lorel_tokens.specs.declared.token_types.Sign.TheVariants as s
use Rattle.lorel_trees.specs.Grammar as g
use Rattle.lorel_trees.specs.Trees.{RootedTree}
use Rattle.lorel_trees.specs.Paths.{spell_name, text_of_name, spell_label, spell_alt, spell_choices, spell_seq, spell_parts, spell_part, spell_base, spell_path, trees_alt, trees_choices, tree_seq, trees_parts, tree_part, tree_base, tree_path, nest_alt, nest_choices, nest_seq, nest_parts, nest_part, nest_base, nest_path}
use Rattle.lorel_terms.specs.Outcomes.{Outcome, sees}
use Rattle.lorel_terms.specs.Paths.{begins_part, base, part, parts_from, sequence, choices_from, choices, inside, rooted}
use Rattle.lorel_terms.proofs.NameLaws.{complete_name, longer_label}
use Rattle.lorel_terms.proofs.EndLaws.{EndsPath, begins_mark, sees_no_part}
use Rattle.lorel_terms.proofs.PathReadingLaws as law

-- each takes as many tokens as it must
mutual
  pub longer_alt : (one : g.Alt) (rest : List Kind) → length rest < length (spell_alt one rest)
  longer_alt (g.choice first others) rest = omega (arith, longer_seq first (spell_choices others rest), longer_choices others rest)

  pub longer_choices : (others : g.Choices) (rest : List Kind) → length rest ≤ length (spell_choices others rest)
  longer_choices g.no_choices rest = omega arith
  longer_choices (g.bar first others) rest = omega (arith, longer_seq first (spell_choices others rest), longer_choices others rest)

  pub longer_seq : (one : g.Seq) (rest : List Kind) → length rest < length (spell_seq one rest)
  longer_seq (g.sequence first others) rest = omega (arith, longer_part first (spell_parts others rest), longer_parts others rest)

  pub longer_parts : (parts : g.Parts) (rest : List Kind) → length rest ≤ length (spell_parts parts rest)
  longer_parts g.no_parts rest = omega arith
  longer_parts (g.part first others) rest = omega (arith, longer_part first (spell_parts others rest), longer_parts others rest)

  pub longer_part : (one : g.Part) (rest : List Kind) → length rest < length (spell_part one rest)
  longer_part (g.once base) rest = longer_base base rest
  longer_part (g.question base) rest = omega (arith, longer_base base (k.Symbol s.Question ∷ rest))
  longer_part (g.star base) rest = omega (arith, longer_base base (k.Symbol s.Star ∷ rest))
  longer_part (g.plus base) rest = omega (arith, longer_base base (k.Symbol s.Plus ∷ rest))

  pub longer_base : (base : g.Base) (rest : List Kind) → length rest < length (spell_base base rest)
  longer_base (g.label one) rest = omega (arith, longer_label one rest)
  longer_base (g.pattern text) rest = omega arith
  longer_base g.hash rest = omega arith
  longer_base (g.group inner) rest = omega (arith, longer_alt inner (k.Symbol s.RightParen ∷ rest))

pub longer_path : (path : g.Path) (rest : List Kind) → length rest < length (spell_path path rest)
longer_path (g.rooted (g.free text free) parts) rest = omega (arith, longer_parts parts rest)

-- the first token of a part

base_begins : (base : g.Base) (rest : List Kind) → begins_part (spell_base base rest) ≡ true
unfolding begins_part sees
base_begins (g.label one) rest = refl
base_begins (g.pattern text) rest = refl
base_begins g.hash rest = refl
base_begins (g.group inner) rest = refl

part_begins : (one : g.Part) (rest : List Kind) → begins_part (spell_part one rest) ≡ true
part_begins (g.once base) rest = base_begins base rest
part_begins (g.question base) rest = base_begins base (k.Symbol s.Question ∷ rest)
part_begins (g.star base) rest = base_begins base (k.Symbol s.Star ∷ rest)
part_begins (g.plus base) rest = base_begins base (k.Symbol s.Plus ∷ rest)

base_unmarked : (base : g.Base) (rest : List Kind) → begins_mark (spell_base base rest) ≡ false
base_unmarked (g.label one) rest = refl
base_unmarked (g.pattern text) rest = refl
base_unmarked g.hash rest = refl
base_unmarked (g.group inner) rest = refl

part_unmarked : (one : g.Part) (rest : List Kind) → begins_mark (spell_part one rest) ≡ false
part_unmarked (g.once base) rest = base_unmarked base rest
part_unmarked (g.question base) rest = base_unmarked base (k.Symbol s.Question ∷ rest)
part_unmarked (g.star base) rest = base_unmarked base (k.Symbol s.Star ∷ rest)
part_unmarked (g.plus base) rest = base_unmarked base (k.Symbol s.Plus ∷ rest)

parts_unmarked : (parts : g.Parts) (rest : List Kind) → begins_mark rest ≡ false → begins_mark (spell_parts parts rest) ≡ false
parts_unmarked g.no_parts rest ends = ends
parts_unmarked (g.part first others) rest ends = part_unmarked first (spell_parts others rest)

choices_path : (others : g.Choices) (rest : List Kind) → EndsPath rest → EndsPath (spell_choices others rest)
choices_path g.no_choices rest ends = ends
choices_path (g.bar first others) rest ends = record { mark = refl; more = refl }

close_ends : (rest : List Kind) → EndsPath (k.Symbol s.RightParen ∷ rest)
close_ends rest = record { mark = refl; more = refl }

-- the trees of choices as a list

abbrev listed : g.Choices → List PathTree
listed g.no_choices = []
listed (g.bar first others) = tree_seq first ∷ listed others

abbrev listed_alt : g.Alt → List PathTree
listed_alt (g.choice first others) = tree_seq first ∷ listed others

trees_of-listed : (others : g.Choices) → trees_of (listed others) ≡ trees_choices others
trees_of-listed g.no_choices = refl
trees_of-listed (g.bar first others) = ap (more (tree_seq first)) (trees_of-listed others)

trees_of-listed_alt : (one : g.Alt) → trees_of (listed_alt one) ≡ trees_alt one
trees_of-listed_alt (g.choice first others) = ap (more (tree_seq first)) (trees_of-listed others)

close_no_bar : (rest : List Kind) → sees s.Bar (k.Symbol s.RightParen ∷ rest) ≡ false
unfolding sees
close_no_bar rest = refl

mutual
  complete_alt : (depth : ℕ) (one : g.Alt) (rest : List Kind) → nest_alt one ≤ depth
      → ◌≡◌ {A = Outcome (List PathTree)} (choices (inside depth) (spell_alt one (k.Symbol s.RightParen ∷ rest))) (Some (listed_alt one, rest))
  complete_alt depth (g.choice first others) rest deep =
      let behind = spell_choices others (k.Symbol s.RightParen ∷ rest) in
      law.choices-closed (inside depth) (spell_seq first behind) behind rest (tree_seq first) (tree_seq first ∷ listed others)
      (complete_seq depth first behind (omega arith) (choices_path others (k.Symbol s.RightParen ∷ rest) (close_ends rest)))
      (complete_choices depth others (length behind) (tree_seq first ∷ []) (k.Symbol s.RightParen ∷ rest) (omega arith) (omega arith) (close_no_bar rest) (close_ends rest))

  complete_choices : (depth : ℕ) (others : g.Choices) (turns : ℕ) (before : List PathTree) (rest : List Kind) → nest_choices others ≤ depth
      → length (spell_choices others rest) ≤ turns → sees s.Bar rest ≡ false → EndsPath rest
      → ◌≡◌ {A = Outcome (List PathTree)} (choices_from (inside depth) turns before (spell_choices others rest)) (Some (before ++ listed others, rest))
  complete_choices depth g.no_choices zero before rest deep fits ends path = rw append-nil (law.choices_from-zero (inside depth) before rest)
  complete_choices depth g.no_choices (suc turns) before rest deep fits ends path = rw append-nil (law.choices_from-end (inside depth) turns before rest ends)
  complete_choices depth (g.bar first others) zero before rest deep fits ends path = absurd (omega arith)
  complete_choices depth (g.bar first others) (suc turns) before rest deep fits ends path =
      let behind = spell_choices others rest in
      let fewer : length behind ≤ turns = omega (arith, longer_seq first behind) in
      law.choices_from-bar (inside depth) turns before (spell_seq first behind) behind (tree_seq first) (complete_seq depth first behind (omega arith) (choices_path others rest path))
      ∙ complete_choices depth others turns (before ++ tree_seq first ∷ []) rest (omega arith) fewer ends path
      ∙ (simp append_assoc)

  complete_seq : (depth : ℕ) (one : g.Seq) (rest : List Kind) → nest_seq one ≤ depth → EndsPath rest
      → ◌≡◌ {A = Outcome PathTree} (sequence (inside depth) (spell_seq one rest)) (Some (tree_seq one, rest))
  complete_seq depth (g.sequence first others) rest deep ends =
      let behind = spell_parts others rest in
      law.sequence-parts (inside depth) (spell_part first behind) behind rest (tree_part first) (tree_part first ∷ trees_parts others)
      (complete_part depth first behind (omega arith) (parts_unmarked others rest ends.mark))
      (complete_parts depth others (length behind) (tree_part first ∷ []) rest (omega arith) (omega arith) ends)

  complete_parts : (depth : ℕ) (all : g.Parts) (turns : ℕ) (before : List PathTree) (rest : List Kind) → nest_parts all ≤ depth
      → length (spell_parts all rest) ≤ turns → EndsPath rest
      → ◌≡◌ {A = Outcome (List PathTree)} (parts_from (inside depth) turns before (spell_parts all rest)) (Some (before ++ trees_parts all, rest))
  complete_parts depth g.no_parts zero before rest deep fits ends = rw append-nil (law.parts_from-zero (inside depth) before rest)
  complete_parts depth g.no_parts (suc turns) before rest deep fits ends = rw append-nil (law.parts_from-end (inside depth) turns before rest (sees_no_part rest ends.more))
  complete_parts depth (g.part first others) zero before rest deep fits ends = absurd (omega (arith, longer_part first (spell_parts others rest)))
  complete_parts depth (g.part first others) (suc turns) before rest deep fits ends =
      let behind = spell_parts others rest in
      let fewer : length behind ≤ turns = omega (arith, longer_part first behind) in
      law.parts_from-more (inside depth) turns before (spell_part first behind) behind (tree_part first) (part_begins first behind)
      (complete_part depth first behind (omega arith) (parts_unmarked others rest ends.mark))
      ∙ complete_parts depth others turns (before ++ tree_part first ∷ []) rest (omega arith) fewer ends
      ∙ (simp append_assoc)

  complete_part : (depth : ℕ) (one : g.Part) (rest : List Kind) → nest_part one ≤ depth → begins_mark rest ≡ false
      → ◌≡◌ {A = Outcome PathTree} (part (inside depth) (spell_part one rest)) (Some (tree_part one, rest))
  complete_part depth (g.once base) rest deep ends =
      law.part-base (inside depth) (spell_base base rest) rest (tree_base base) (complete_base depth base rest deep) ∙ law.repeated-once (tree_base base) rest ends
  complete_part depth (g.question base) rest deep ends =
      let behind = k.Symbol s.Question ∷ rest in
      law.part-base (inside depth) (spell_base base behind) behind (tree_base base) (complete_base depth base behind deep) ∙ law.repeated-question (tree_base base) rest
  complete_part depth (g.star base) rest deep ends =
      let behind = k.Symbol s.Star ∷ rest in
      law.part-base (inside depth) (spell_base base behind) behind (tree_base base) (complete_base depth base behind deep) ∙ law.repeated-star (tree_base base) rest
  complete_part depth (g.plus base) rest deep ends =
      let behind = k.Symbol s.Plus ∷ rest in
      law.part-base (inside depth) (spell_base base behind) behind (tree_base base) (complete_base depth base behind deep) ∙ law.repeated-plus (tree_base base) rest

  complete_base : (depth : ℕ) (one : g.Base) (rest : List Kind) → nest_base one ≤ depth
      → ◌≡◌ {A = Outcome PathTree} (base (inside depth) (spell_base one rest)) (Some (tree_base one, rest))
  complete_base depth (g.label one) rest deep = law.base-step (inside depth) (spell_label one rest) ∙ law.one_step-label one rest
  complete_base depth (g.pattern text) rest deep = law.base-step (inside depth) (k.Wild text ∷ rest) ∙ law.one_step-pattern text rest
  complete_base depth g.hash rest deep = law.base-step (inside depth) (k.Symbol s.Hash ∷ rest) ∙ law.one_step-hash rest
  complete_base zero (g.group inner) rest deep = absurd (omega arith)
  complete_base (suc depth) (g.group inner) rest deep =
      let held = spell_alt inner (k.Symbol s.RightParen ∷ rest) in
      let view : PathTrees → Outcome PathTree = λ trees. Some (alt trees, rest) in
      law.base-group (inside (suc depth)) held rest (listed_alt inner) (law.inside-deeper depth held ∙ complete_alt depth inner rest (omega arith))
      ∙ ap view (trees_of-listed_alt inner)

pub complete_path : (depth : ℕ) (path : g.Path) (rest : List Kind) → nest_path path ≤ depth → EndsPath rest
    → ◌≡◌ {A = Outcome RootedTree} (rooted depth (spell_path path rest)) (Some (tree_path path, rest))
complete_path depth (g.rooted start all) rest deep ends =
    let behind = spell_parts all rest in
    law.rooted-parts depth (spell_name start behind) behind rest (text_of_name start) (trees_parts all) (complete_name start behind)
    (complete_parts depth all (length behind) [] rest deep (omega arith) ends)
