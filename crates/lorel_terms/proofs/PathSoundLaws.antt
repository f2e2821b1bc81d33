-- What the reference parser reads as a path is derived by the grammar: from its answer comes a derivation that spells the
-- tokens and has the tree.
use Rattle.std.proofs.Common.{◌≡◌, ℕ, zero, suc, ◌≤◌, List, [], ◌∷◌, ◌++◌, length, Some, refl, ap, ◌∙◌, sym, arith, append_assoc, inl, inr}
use Rattle.std.proofs.lemmas.List.{append-nil}
use Rattle.std.proofs.lemmas.Bool.{cases_Bool}
use Rattle.lorel_terms.specs.Types.{Kind}
use Rattle.lore_base.specs.Paths.{PathTree, PathTrees, more, none, seq, alt, opt, star, plus, trees_of}
use Rattle.lorel_tokens.specs.declared.token_types.Kind.TheVariants as k
use Rattle.lorel_tokens.specs.declared.token_types.Sign.TheVariants as s
use Rattle.lorel_trees.specs.Grammar as g
use Rattle.lorel_trees.specs.Trees.{RootedTree}
use Rattle.lorel_trees.specs.Paths.{spell_name, spell_alt, spell_choices, spell_seq, spell_parts, spell_part, spell_base, spell_path, trees_alt, trees_choices, tree_seq, trees_parts, tree_part, tree_base, tree_path, nest_alt, nest_choices, nest_seq, nest_parts, nest_part, nest_base, nest_path}
use Rattle.lorel_terms.specs.Outcomes.{Outcome, Parse, and_then, next, sees, expect}
use Rattle.lorel_terms.specs.Names.{name}
use Rattle.lorel_terms.specs.Paths.{one_step, repeated, begins_part, base, part, parts_from, parts, sequence, choices_from, more_choices, choices, inside, rooted}
use Rattle.lorel_terms.proofs.OutcomeLaws.{some_parts, none_some, bind_some, sees_sign, expect_some}
use Rattle.lorel_terms.proofs.NameLaws.{sound_name}

-- trees found before, and trees behind them
abbrev followed : List PathTree → PathTrees → PathTrees
followed [] others = others
followed (first ∷ before) others = more first (followed before others)

followed-none : (before : List PathTree) → followed before none ≡ trees_of before
followed-none [] = refl
followed-none (first ∷ before) = ap (more first) (followed-none before)

followed-push : (before : List PathTree) (one : PathTree) (others : PathTrees) → followed (before ++ one ∷ []) others ≡ followed before (more one others)
followed-push [] one others = refl
followed-push (first ∷ before) one others = ap (more first) (followed-push before one others)

-- derivations of the tokens that a parser took, whose groups nest so deep at most

record IsBase (depth : ℕ) (kinds rest : List Kind) (tree : PathTree) : Type 0 where
  by : g.Base
  deep : nest_base by ≤ depth
  spelled : kinds ≡ spell_base by rest
  stands : tree_base by ≡ tree

record IsPart (depth : ℕ) (kinds rest : List Kind) (tree : PathTree) : Type 0 where
  by : g.Part
  deep : nest_part by ≤ depth
  spelled : kinds ≡ spell_part by rest
  stands : tree_part by ≡ tree

record AreParts (depth : ℕ) (kinds rest : List Kind) (before trees : List PathTree) : Type 0 where
  by : g.Parts
  deep : nest_parts by ≤ depth
  spelled : kinds ≡ spell_parts by rest
  stands : before ++ trees_parts by ≡ trees

record IsSeq (depth : ℕ) (kinds rest : List Kind) (tree : PathTree) : Type 0 where
  by : g.Seq
  deep : nest_seq by ≤ depth
  spelled : kinds ≡ spell_seq by rest
  stands : tree_seq by ≡ tree

record AreChoices (depth : ℕ) (kinds rest : List Kind) (before trees : List PathTree) : Type 0 where
  by : g.Choices
  deep : nest_choices by ≤ depth
  spelled : kinds ≡ spell_choices by rest
  stands : followed before (trees_choices by) ≡ trees_of trees

record IsAlt (depth : ℕ) (kinds rest : List Kind) (trees : List PathTree) : Type 0 where
  by : g.Alt
  deep : nest_alt by ≤ depth
  spelled : kinds ≡ spell_alt by (k.Symbol s.RightParen ∷ rest)
  stands : trees_alt by ≡ trees_of trees

-- a parser of groups that reads what the grammar derives: where such a group is, a level more is left
abbrev IsInside : ℕ → List Kind → List Kind → List PathTree → Type 0
IsInside depth kinds rest trees = IsBase depth (k.Symbol s.LeftParen ∷ kinds) rest (alt (trees_of trees))

pub record IsPath (depth : ℕ) (kinds rest : List Kind) (tree : RootedTree) : Type 0 where
  pub by : g.Path
  pub deep : nest_path by ≤ depth
  pub spelled : kinds ≡ spell_path by rest
  pub stands : tree_path by ≡ tree

one_step_sound : (depth : ℕ) (kinds rest : List Kind) (tree : PathTree) → ◌≡◌ {A = Outcome PathTree} (one_step kinds) (Some (tree, rest))
    → IsBase depth (k.Symbol s.Dot ∷ kinds) rest tree
unfolding one_step sees
one_step_sound depth [] rest tree read = absurd (none_some read)
one_step_sound depth (k.Word text ∷ kinds) rest tree read =
    let parts = some_parts read in
    record { by = g.label (g.word text); deep = omega arith; spelled = ap (λ (left : List Kind). k.Symbol s.Dot ∷ k.Word text ∷ left) parts.1; stands = parts.0 }
one_step_sound depth (k.Quoted text ∷ kinds) rest tree read =
    let parts = some_parts read in
    record { by = g.label (g.quoted text); deep = omega arith; spelled = ap (λ (left : List Kind). k.Symbol s.Dot ∷ k.Quoted text ∷ left) parts.1; stands = parts.0 }
one_step_sound depth (k.Wild text ∷ kinds) rest tree read =
    let parts = some_parts read in
    record { by = g.pattern text; deep = omega arith; spelled = ap (λ (left : List Kind). k.Symbol s.Dot ∷ k.Wild text ∷ left) parts.1; stands = parts.0 }
one_step_sound depth (k.Symbol s.Hash ∷ kinds) rest tree read =
    let parts = some_parts read in
    record { by = g.hash; deep = omega arith; spelled = ap (λ (left : List Kind). k.Symbol s.Dot ∷ k.Symbol s.Hash ∷ left) parts.1; stands = parts.0 }
one_step_sound depth (k.Symbol _ ∷ kinds) rest tree read = absurd (none_some read)
one_step_sound depth (_ ∷ kinds) rest tree read = absurd (none_some read)

-- a part with the mark behind it
repeated_sound : (depth : ℕ) (kinds mid rest : List Kind) (inner tree : PathTree) → IsBase depth kinds mid inner
    → ◌≡◌ {A = Outcome PathTree} (repeated inner mid) (Some (tree, rest)) → IsPart depth kinds rest tree
unfolding repeated
repeated_sound depth kinds mid rest inner tree is read =
    elim (cases_Bool (sees s.Question mid)) [
      | inl question ↦
          let parts = some_parts (rw question at read) in
          record {
            by = g.question is.by;
            deep = is.deep;
            spelled = is.spelled ∙ ap (spell_base is.by) (sees_sign s.Question mid question ∙ ap (λ (left : List Kind). k.Symbol s.Question ∷ left) parts.1);
            stands = ap opt is.stands ∙ parts.0;
          }
      | inr no_question ↦
          let second = rw no_question at read in
          elim (cases_Bool (sees s.Star mid)) [
            | inl starred ↦
                let parts = some_parts (rw starred at second) in
                record {
                  by = g.star is.by;
                  deep = is.deep;
                  spelled = is.spelled ∙ ap (spell_base is.by) (sees_sign s.Star mid starred ∙ ap (λ (left : List Kind). k.Symbol s.Star ∷ left) parts.1);
                  stands = ap star is.stands ∙ parts.0;
                }
            | inr no_star ↦
                let third = rw no_star at second in
                elim (cases_Bool (sees s.Plus mid)) [
                  | inl plussed ↦
                      let parts = some_parts (rw plussed at third) in
                      record {
                        by = g.plus is.by;
                        deep = is.deep;
                        spelled = is.spelled ∙ ap (spell_base is.by) (sees_sign s.Plus mid plussed ∙ ap (λ (left : List Kind). k.Symbol s.Plus ∷ left) parts.1);
                        stands = ap plus is.stands ∙ parts.0;
                      }
                  | inr no_plus ↦
                      let parts = some_parts (rw no_plus at third) in
                      record {
                        by = g.once is.by;
                        deep = is.deep;
                        spelled = is.spelled ∙ ap (spell_base is.by) parts.1;
                        stands = is.stands ∙ parts.0;
                      }
                ]
          ]
    ]

-- the parsers over any parser of groups that reads what the grammar derives
module _ (depth : ℕ) (group : Parse (List PathTree))
    (sound : (kinds rest : List Kind) (trees : List PathTree) → ◌≡◌ {A = Outcome (List PathTree)} (group kinds) (Some (trees, rest)) → IsInside depth kinds rest trees) where
  base_sound : (kinds rest : List Kind) (tree : PathTree) → ◌≡◌ {A = Outcome PathTree} (base group kinds) (Some (tree, rest)) → IsBase depth kinds rest tree
  unfolding base
  base_sound kinds rest tree read =
      elim (cases_Bool (sees s.Dot kinds)) [
        | inl dot ↦
            let is = one_step_sound depth (next kinds) rest tree (rw dot at read) in
            record { by = is.by; deep = is.deep; spelled = sees_sign s.Dot kinds dot ∙ is.spelled; stands = is.stands }
        | inr other ↦
            let wrap : List PathTree → Parse PathTree = λ trees end. Some (alt (trees_of trees), end) in
            let held : Unit {0} → Parse PathTree = λ _ left. and_then (group left) wrap in
            let (one, opened, open_is, grouped) = bind_some (expect s.LeftParen kinds) held tree rest (rw other at read) in
            let (trees, end, read_is, wrapped) = bind_some (group opened) wrap tree rest grouped in
            let parts = some_parts wrapped in
            let is = sound opened end trees read_is in
            record {
              by = is.by;
              deep = is.deep;
              spelled = expect_some s.LeftParen kinds opened one open_is ∙ is.spelled ∙ ap (spell_base is.by) parts.1;
              stands = is.stands ∙ parts.0;
            }
      ]

  part_sound : (kinds rest : List Kind) (tree : PathTree) → ◌≡◌ {A = Outcome PathTree} (part group kinds) (Some (tree, rest)) → IsPart depth kinds rest tree
  unfolding part
  part_sound kinds rest tree read =
      let (inner, mid, base_is, marked) = bind_some (base group kinds) repeated tree rest read in
      repeated_sound depth kinds mid rest inner tree (base_sound kinds mid inner base_is) marked

  parts_from_sound : (turns : ℕ) (before : List PathTree) (kinds rest : List Kind) (trees : List PathTree)
      → ◌≡◌ {A = Outcome (List PathTree)} (parts_from group turns before kinds) (Some (trees, rest)) → AreParts depth kinds rest before trees
  unfolding parts_from
  parts_from_sound zero before kinds rest trees read =
      let parts = some_parts read in
      record { by = g.no_parts; deep = omega arith; spelled = parts.1; stands = append-nil before ∙ parts.0 }
  parts_from_sound (suc turns) before kinds rest trees read =
      elim (cases_Bool (begins_part kinds)) [
        | inl begins ↦
            let others : PathTree → Parse (List PathTree) = λ one left. parts_from group turns (before ++ one ∷ []) left in
            let (one, mid, part_is, left_is) = bind_some (part group kinds) others trees rest (rw begins at read) in
            let first = part_sound kinds mid one part_is in
            let all = parts_from_sound turns (before ++ one ∷ []) mid rest trees left_is in
            record {
              by = g.part first.by all.by;
              deep = let a = first.deep in let b = all.deep in omega arith;
              spelled = first.spelled ∙ ap (spell_part first.by) all.spelled;
              stands = ap (λ (t : PathTree). before ++ t ∷ trees_parts all.by) first.stands ∙ sym (simp append_assoc) ∙ all.stands;
            }
        | inr ended ↦
            let parts = some_parts (rw ended at read) in
            record { by = g.no_parts; deep = omega arith; spelled = parts.1; stands = append-nil before ∙ parts.0 }
      ]

  sequence_sound : (kinds rest : List Kind) (tree : PathTree) → ◌≡◌ {A = Outcome PathTree} (sequence group kinds) (Some (tree, rest)) → IsSeq depth kinds rest tree
  unfolding sequence parts
  sequence_sound kinds rest tree read =
      let wrap : List PathTree → Parse PathTree = λ trees end. Some (seq (trees_of trees), end) in
      let others : PathTree → Parse PathTree = λ one left. and_then (parts_from group (length left) (one ∷ []) left) wrap in
      let (one, mid, part_is, left_is) = bind_some (part group kinds) others tree rest read in
      let (trees, end, parts_are, wrapped) = bind_some (parts_from group (length mid) (one ∷ []) mid) wrap tree rest left_is in
      let parts = some_parts wrapped in
      let first = part_sound kinds mid one part_is in
      let all = parts_from_sound (length mid) (one ∷ []) mid end trees parts_are in
      record {
        by = g.sequence first.by all.by;
        deep = let a = first.deep in let b = all.deep in omega arith;
        spelled = first.spelled ∙ ap (spell_part first.by) (all.spelled ∙ ap (spell_parts all.by) parts.1);
        stands = ap (λ (t : PathTree). seq (more t (trees_of (trees_parts all.by)))) first.stands ∙ ap (λ (l : List PathTree). seq (trees_of l)) all.stands ∙ parts.0;
      }

  choices_from_sound : (turns : ℕ) (before : List PathTree) (kinds rest : List Kind) (trees : List PathTree)
      → ◌≡◌ {A = Outcome (List PathTree)} (choices_from group turns before kinds) (Some (trees, rest)) → AreChoices depth kinds rest before trees
  unfolding choices_from
  choices_from_sound zero before kinds rest trees read =
      let parts = some_parts read in
      record { by = g.no_choices; deep = omega arith; spelled = parts.1; stands = followed-none before ∙ ap trees_of parts.0 }
  choices_from_sound (suc turns) before kinds rest trees read =
      elim (cases_Bool (sees s.Bar kinds)) [
        | inl bar ↦
            let others : PathTree → Parse (List PathTree) = λ one left. choices_from group turns (before ++ one ∷ []) left in
            let (one, mid, seq_is, left_is) = bind_some (sequence group (next kinds)) others trees rest (rw bar at read) in
            let first = sequence_sound (next kinds) mid one seq_is in
            let all = choices_from_sound turns (before ++ one ∷ []) mid rest trees left_is in
            record {
              by = g.bar first.by all.by;
              deep = let a = first.deep in let b = all.deep in omega arith;
              spelled = sees_sign s.Bar kinds bar ∙ ap (λ (left : List Kind). k.Symbol s.Bar ∷ left) (first.spelled ∙ ap (spell_seq first.by) all.spelled);
              stands = ap (λ (t : PathTree). followed before (more t (trees_choices all.by))) first.stands ∙ sym (followed-push before one (trees_choices all.by)) ∙ all.stands;
            }
        | inr ended ↦
            let parts = some_parts (rw ended at read) in
            record { by = g.no_choices; deep = omega arith; spelled = parts.1; stands = followed-none before ∙ ap trees_of parts.0 }
      ]

  choices_sound : (kinds rest : List Kind) (trees : List PathTree) → ◌≡◌ {A = Outcome (List PathTree)} (choices group kinds) (Some (trees, rest)) → IsAlt depth kinds rest trees
  unfolding choices more_choices
  choices_sound kinds rest trees read =
      let finish : List PathTree → Unit {0} → Parse (List PathTree) = λ all _ end. Some (all, end) in
      let close : List PathTree → Parse (List PathTree) = λ all left. and_then (expect s.RightParen left) (finish all) in
      let others : PathTree → Parse (List PathTree) = λ one left. and_then (choices_from group (length left) (one ∷ []) left) close in
      let (one, mid, seq_is, left_is) = bind_some (sequence group kinds) others trees rest read in
      let (found, closing, choices_are, closed) = bind_some (choices_from group (length mid) (one ∷ []) mid) close trees rest left_is in
      let (unit, end, paren_is, finished) = bind_some (expect s.RightParen closing) (finish found) trees rest closed in
      let parts = some_parts finished in
      let first = sequence_sound kinds mid one seq_is in
      let all = choices_from_sound (length mid) (one ∷ []) mid closing found choices_are in
      record {
        by = g.choice first.by all.by;
        deep = let a = first.deep in let b = all.deep in omega arith;
        spelled = first.spelled ∙ ap (spell_seq first.by) (all.spelled ∙ ap (spell_choices all.by) (expect_some s.RightParen closing end unit paren_is
            ∙ ap (λ (left : List Kind). k.Symbol s.RightParen ∷ left) parts.1));
        stands = ap (λ (t : PathTree). more t (trees_choices all.by)) first.stands ∙ all.stands ∙ ap trees_of parts.0;
      }

inside_sound : (depth : ℕ) (kinds rest : List Kind) (trees : List PathTree) → ◌≡◌ {A = Outcome (List PathTree)} (inside depth kinds) (Some (trees, rest)) → IsInside depth kinds rest trees
unfolding inside
inside_sound zero kinds rest trees read = absurd (none_some read)
inside_sound (suc depth) kinds rest trees read =
    let is = choices_sound depth (inside depth) (inside_sound depth) kinds rest trees read in
    record {
      by = g.group is.by;
      deep = let a = is.deep in omega arith;
      spelled = ap (λ (left : List Kind). k.Symbol s.LeftParen ∷ left) is.spelled;
      stands = ap alt is.stands;
    }

pub sound_path : (depth : ℕ) (kinds rest : List Kind) (tree : RootedTree) → ◌≡◌ {A = Outcome RootedTree} (rooted depth kinds) (Some (tree, rest)) → IsPath depth kinds rest tree
unfolding rooted parts
sound_path depth kinds rest tree read =
    let wrap : List ℕ → List PathTree → Parse RootedTree = λ start trees end. Some (record { start = start; parts = trees }, end) in
    let others : List ℕ → Parse RootedTree = λ start left. and_then (parts_from (inside depth) (length left) [] left) (wrap start) in
    let (start, mid, named, left_is) = bind_some (name kinds) others tree rest read in
    let (trees, end, parts_are, wrapped) = bind_some (parts_from (inside depth) (length mid) [] mid) (wrap start) tree rest left_is in
    let parts = some_parts wrapped in
    let first = sound_name kinds mid start named in
    let all = parts_from_sound depth (inside depth) (inside_sound depth) (length mid) [] mid end trees parts_are in
    let view : List ℕ → List PathTree → RootedTree = λ text l. record { start = text; parts = l } in
    record {
      by = g.rooted first.by all.by;
      deep = all.deep;
      spelled = first.spelled ∙ ap (spell_name first.by) (all.spelled ∙ ap (spell_parts all.by) parts.1);
      stands = ap (λ (text : List ℕ). view text (trees_parts all.by)) first.stands ∙ ap (view start) all.stands ∙ parts.0;
    }
