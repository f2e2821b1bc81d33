-- The parser of statements is sound and complete, so a list of tokens has one statement at most.
use Rattle.std.proofs.Common.{◌≡◌, ℕ, ℤ, ◌<◌, ◌≤◌, max, true, false, List, [], ◌∷◌, length, codes, Option, Some, None, Err, refl, ap, ◌∙◌, sym, subst, arith, inl, inr, cond}
use Rattle.std.specs.Str.{bytes_eq}
use Rattle.std.proofs.lemmas.Bool.{cases_Bool}
use Rattle.std.proofs.lemmas.Slice.Eq.{bytes_eq-Decides}
use Rattle.lore_base.specs.declared.limits.TheConstants.{NESTING}
use Rattle.lore_base.specs.declared.values.Value.{Value}
use Rattle.lorel_tokens.specs.declared.token_types.Kind.{Kind}
use Rattle.lorel_tokens.specs.declared.token_types.Kind.TheVariants as k
use Rattle.lorel_tokens.specs.declared.token_types.Sign.{Sign}
use Rattle.lorel_tokens.specs.declared.token_types.Sign.TheVariants as s
use Rattle.lorel_trees.specs.Trees as t
use Rattle.lorel_trees.specs.Trees.{RootedTree, StatementTree, statement_tree}
use Rattle.lorel_trees.specs.Grammar as g
use Rattle.lorel_trees.specs.Paths.{spell_name, text_of_name, spell_label, text_of_label, spell_labels, texts_of_labels, spell_parts, spell_path, tree_path, nest_path}
use Rattle.lorel_trees.specs.Literals.{spell_value, spell_atom, spell_members, spell_literal, tree_literal, nest_literal}
use Rattle.lorel_trees.specs.Selects.{spell_tail, tree_tail, nest_tail, tree_select, nest_select, spell_paths}
use Rattle.lorel_trees.specs.Statements.{spell_mode, spell_dump_text, tree_dump_text, switch_text, spell_statement, tree_statement, nest_statement}
use Rattle.lorel_trees.specs.Tokens.{HasTokens}
use Rattle.lorel_terms.specs.declared.faults.ParseFault.{ParseFault}
use Rattle.lorel_terms.specs.declared.faults.ParseFault.TheVariants.{Syntax}
use Rattle.lorel_terms.specs.Outcomes as outcomes
use Rattle.lorel_terms.specs.Outcomes.{Outcome, Parse, and_then, next, sees, sees_word, expect, expect_word, found}
use Rattle.lorel_terms.specs.Repetitions.{mapped, both, behind_word}
use Rattle.lorel_terms.specs.Names.{sees_name, sees_atom}
use Rattle.lorel_terms.specs.Literals.{sees_value, literal, inside}
use Rattle.lorel_terms.specs.Paths.{rooted}
use Rattle.lorel_parse.specs.inside.Targets.{aimed}
use Rattle.lorel_terms.specs.Selects.{tail}
use Rattle.lorel_parse.specs.inside.Statements as spec
use Rattle.lorel_terms.proofs.OutcomeLaws.{some_parts, none_some, bind_some, sees_sign, sees_this_word, expect_some}
use Rattle.lorel_terms.proofs.EndLaws.{is_mark, is_begin, EndsPath}
use Rattle.lorel_terms.proofs.PathSoundLaws.{IsPath, sound_path}
use Rattle.lorel_parse.proofs.TargetLaws.{complete_aimed, sound_aimed}
use Rattle.lorel_terms.proofs.RepetitionLaws.{IsRead, IsParserOf, Anything, Nothing, flat, mapped_parser, behind_parser, behind_word_parser, both_parser, weaker}
use Rattle.lorel_terms.proofs.NameLaws.{atom_no_name}
use Rattle.lorel_terms.proofs.LiteralLaws.{EndsLiteral, literal_parser}
use Rattle.lorel_terms.proofs.SelectLaws.{name_parser, path_parser, tail_parser, ends_at_tail, name_seen, spell_query, spelled_select, select_parser}
use Rattle.lorel_parse.proofs.DumpLaws.{number_parser, new_value_parser, mode_parser, EndsLabels, label_path_parser, dump_parser}
use Rattle.lorel_parse.proofs.HistoryLaws.{IsStatement, found_some, history_form, history_sound, select_at_form, select_at_sound, changes_form, changes_sound, blocks_form, blocks_sound, blocks-alone, blocks-of, watch_complete, watch_sound, unwatch_form, unwatch_sound, show_form, show_sound}

-- what ends a literal or path at the end of a statement

no_value_at_end : EndsLiteral []
unfolding sees_value sees sees_atom
no_value_at_end = refl

pub ends_literal : (rest : List Kind) → Nothing rest → EndsLiteral rest
ends_literal rest end = subst EndsLiteral (sym end) no_value_at_end

path_at_end : EndsPath []
path_at_end = record { mark = refl; more = refl }

pub ends_path : (rest : List Kind) → Nothing rest → EndsPath rest
ends_path rest end = subst EndsPath (sym end) path_at_end

ends_literal_at_tail : (one : g.Tail) → EndsLiteral (spell_tail one [])
unfolding sees_value sees sees_atom
ends_literal_at_tail (g.tail [] None) = refl
ends_literal_at_tail (g.tail [] (Some one)) = refl
ends_literal_at_tail (g.tail (first ∷ others) one) = refl

pub ends_literal_tail : (one : g.Tail) (rest : List Kind) → Nothing rest → EndsLiteral (spell_tail one rest)
ends_literal_tail one rest end = subst (λ (left : List Kind). EndsLiteral (spell_tail one left)) (sym end) (ends_literal_at_tail one)

pub ends_path_tail : (one : g.Tail) (rest : List Kind) → Nothing rest → EndsPath (spell_tail one rest)
ends_path_tail one rest end = (ends_at_tail one rest end).path

no_dot_at_end : EndsLabels []
unfolding sees
no_dot_at_end = record { other = refl; ends = tt }

no_dot_at_number : (value : ℤ) (rest : List Kind) → EndsLabels (k.Number value ∷ rest)
unfolding sees
no_dot_at_number value rest = record { other = refl; ends = tt }

-- what stands behind the first word of a form

literal_64 : IsParserOf (literal (inside NESTING)) spell_literal tree_literal nest_literal NESTING Nothing
literal_64 = weaker ends_literal (literal_parser NESTING)

path_64 : IsParserOf (rooted NESTING) spell_path tree_path nest_path NESTING Nothing
path_64 = weaker ends_path path_parser

load_parser : IsParserOf spec.load (λ (d : g.Name × g.Literal) rest. spell_name d.0 (k.Symbol s.Assign ∷ spell_literal d.1 rest))
    (λ d. t.load (text_of_name d.0) (tree_literal d.1)) (λ d. max 0 (nest_literal d.1)) NESTING Nothing
unfolding spec.load
load_parser = mapped_parser (λ (parts : List ℕ × t.LiteralTree). t.load parts.0 parts.1) (both_parser (λ one rest end. tt) name_parser (behind_parser s.Assign literal_64))

bind_parser : IsParserOf spec.bind (λ (d : g.Name × g.Path) rest. spell_name d.0 (k.Symbol s.Assign ∷ spell_path d.1 rest))
    (λ d. t.bind (text_of_name d.0) (tree_path d.1)) (λ d. max 0 (nest_path d.1)) NESTING Nothing
unfolding spec.bind
bind_parser = mapped_parser (λ (parts : List ℕ × RootedTree). t.bind parts.0 parts.1) (both_parser (λ one rest end. tt) name_parser (behind_parser s.Assign path_64))

unname_parser : IsParserOf spec.unname spell_name (λ d. t.unname (text_of_name d)) flat NESTING Anything
unfolding spec.unname
unname_parser = mapped_parser t.unname name_parser

assigned_parser : (target : RootedTree) → IsParserOf (spec.assigned target) (λ (d : Value × g.Tail) rest. spell_value d.0 (spell_tail d.1 rest))
    (λ d. t.assign target d.0 (tree_tail d.1)) (λ d. max 0 (nest_tail d.1)) NESTING Nothing
unfolding spec.assigned
assigned_parser target = mapped_parser (λ (parts : Value × t.TailTree). t.assign target parts.0 parts.1) (both_parser (λ one rest end. tt) new_value_parser tail_parser)

link_parser : (target : RootedTree) (text : List ℕ) → IsParserOf (mapped (λ (parts : RootedTree × t.TailTree). t.add_link target text parts.0 parts.1) (both (rooted NESTING) tail))
    (λ (d : g.Path × g.Tail) rest. spell_path d.0 (spell_tail d.1 rest)) (λ d. t.add_link target text (tree_path d.0) (tree_tail d.1)) (λ d. max (nest_path d.0) (nest_tail d.1)) NESTING Nothing
link_parser target text = mapped_parser (λ (parts : RootedTree × t.TailTree). t.add_link target text parts.0 parts.1) (both_parser ends_path_tail path_parser tail_parser)

fresh_parser : (target : RootedTree) (text : List ℕ)
    → IsParserOf (mapped (λ (parts : t.LiteralTree × t.TailTree). t.add_new target text parts.0 parts.1) (both (literal (inside NESTING)) tail))
    (λ (d : g.Literal × g.Tail) rest. spell_literal d.0 (spell_tail d.1 rest)) (λ d. t.add_new target text (tree_literal d.0) (tree_tail d.1))
    (λ d. max (nest_literal d.0) (nest_tail d.1)) NESTING Nothing
fresh_parser target text = mapped_parser (λ (parts : t.LiteralTree × t.TailTree). t.add_new target text parts.0 parts.1) (both_parser ends_literal_tail (literal_parser NESTING) tail_parser)

removed_parser : (target : RootedTree) (text : List ℕ) → IsParserOf (spec.removed target text) (λ (d : g.Path × g.Tail) rest. spell_path d.0 (spell_tail d.1 rest))
    (λ d. t.remove target text (tree_path d.0) (tree_tail d.1)) (λ d. max (nest_path d.0) (nest_tail d.1)) NESTING Nothing
unfolding spec.removed
removed_parser target text = mapped_parser (λ (parts : RootedTree × t.TailTree). t.remove target text parts.0 parts.1) (both_parser ends_path_tail path_parser tail_parser)

select_form : IsParserOf spec.select spell_query (λ d. t.select (tree_select d)) nest_select NESTING Nothing
unfolding spec.select
select_form = mapped_parser t.select select_parser

explain_form : IsParserOf spec.explain (λ d rest. k.Word (codes "select") ∷ spell_query d rest) (λ d. t.explain (tree_select d)) nest_select NESTING Nothing
unfolding spec.explain
explain_form = mapped_parser t.explain (behind_word_parser (codes "select") select_parser)

browse_form : IsParserOf spec.browse (λ (d : g.Name × List g.Label) rest. spell_name d.0 (spell_labels d.1 rest))
    (λ d. t.browse (text_of_name d.0) (texts_of_labels d.1)) flat NESTING EndsLabels
unfolding spec.browse
browse_form = mapped_parser (λ (path : List ℕ × List (List ℕ)). t.browse path.0 path.1) label_path_parser

sample_form : IsParserOf spec.sample (λ (d : (g.Name × List g.Label) × ℤ) rest. spell_name d.0.0 (spell_labels d.0.1 (k.Number d.1 ∷ rest)))
    (λ d. t.sample (text_of_name d.0.0) (texts_of_labels d.0.1) d.1) (λ d. max 0 0) NESTING Anything
unfolding spec.sample
sample_form = mapped_parser (λ (parts : (List ℕ × List (List ℕ)) × ℤ). t.sample parts.0.0 parts.0.1 parts.1)
    (both_parser (λ value rest end. no_dot_at_number value rest) label_path_parser number_parser)

nodes_form : IsParserOf (mapped t.set_nodes spec.number) (λ value rest. k.Number value ∷ rest) (λ value. t.set_nodes value) flat NESTING Anything
nodes_form = mapped_parser t.set_nodes number_parser

plan_form : IsParserOf (mapped t.set_plan (behind_word (codes "plan") spec.mode)) (λ mode rest. k.Word (codes "plan") ∷ spell_mode mode rest) (λ mode. t.set_plan mode) flat NESTING Anything
plan_form = mapped_parser t.set_plan (behind_word_parser (codes "plan") mode_parser)

restore_form : IsParserOf spec.restore spell_dump_text (λ d. t.restore (tree_dump_text d)) flat NESTING Anything
unfolding spec.restore
restore_form = mapped_parser t.restore dump_parser

generate_form : IsParserOf spec.generate (λ (d : ℤ × ℤ) rest. k.Number d.0 ∷ k.Number d.1 ∷ rest) (λ d. t.generate d.0 d.1) (λ d. max 0 0) NESTING Anything
unfolding spec.generate
generate_form = mapped_parser (λ (parts : ℤ × ℤ). t.generate parts.0 parts.1) (both_parser (λ one rest end. tt) number_parser number_parser)

-- soundness of statements

abbrev Update : List Kind → List Kind
Update kinds = k.Word (codes "update") ∷ kinds

assigned_sound : (kinds mid rest : List Kind) (path : RootedTree) (tree : StatementTree) → IsRead spell_path tree_path nest_path NESTING kinds (k.Symbol s.Assign ∷ mid) path
    → ◌≡◌ {A = Outcome StatementTree} (spec.assigned path mid) (Some (tree, rest)) → IsStatement (Update kinds) rest tree
assigned_sound kinds mid rest path tree x read =
    let y = (assigned_parser path).sound mid rest tree read in
    record {
      by = g.assign x.by y.by.0 y.by.1;
      deep = let u = x.deep in let v = y.deep in omega arith;
      spelled = ap Update (x.spelled ∙ ap (λ (left : List Kind). spell_path x.by (k.Symbol s.Assign ∷ left)) y.spelled);
      stands = ap (λ (p : RootedTree). t.assign p y.by.0 (tree_tail y.by.1)) x.stands ∙ y.stands;
    }

added_sound : (kinds mid rest : List Kind) (target : g.Path) (last : g.Label) (left : RootedTree) (text : List ℕ) (tree : StatementTree)
    → nest_path target ≤ NESTING → kinds ≡ spell_path target (k.Symbol s.Dot ∷ spell_label last (k.Symbol s.PlusAssign ∷ mid)) → tree_path target ≡ left → text_of_label last ≡ text
    → ◌≡◌ {A = Outcome StatementTree} (spec.added left text mid) (Some (tree, rest)) → IsStatement (Update kinds) rest tree
unfolding spec.added
added_sound kinds mid rest target last left text tree deep spelled stands labelled read =
    let front : List Kind → List Kind = λ behind. Update (spell_path target (k.Symbol s.Dot ∷ spell_label last (k.Symbol s.PlusAssign ∷ behind))) in
    elim (cases_Bool (sees_name mid)) [
      | inl seen ↦
          let y = (link_parser left text).sound mid rest tree (rw seen at read) in
          record {
            by = g.add target last (g.link y.by.0) y.by.1;
            deep = let v = y.deep in omega arith;
            spelled = ap Update spelled ∙ ap front y.spelled;
            stands = ap (λ (p : RootedTree). t.add_link p (text_of_label last) (tree_path y.by.0) (tree_tail y.by.1)) stands
                ∙ ap (λ (l : List ℕ). t.add_link left l (tree_path y.by.0) (tree_tail y.by.1)) labelled ∙ y.stands;
          }
      | inr other ↦
          let y = (fresh_parser left text).sound mid rest tree (rw other at read) in
          record {
            by = g.add target last (g.fresh y.by.0) y.by.1;
            deep = let v = y.deep in omega arith;
            spelled = ap Update spelled ∙ ap front y.spelled;
            stands = ap (λ (p : RootedTree). t.add_new p (text_of_label last) (tree_literal y.by.0) (tree_tail y.by.1)) stands
                ∙ ap (λ (l : List ℕ). t.add_new left l (tree_literal y.by.0) (tree_tail y.by.1)) labelled ∙ y.stands;
          }
    ]

removed_sound : (kinds mid rest : List Kind) (target : g.Path) (last : g.Label) (left : RootedTree) (text : List ℕ) (tree : StatementTree)
    → nest_path target ≤ NESTING → kinds ≡ spell_path target (k.Symbol s.Dot ∷ spell_label last (k.Symbol s.MinusAssign ∷ mid)) → tree_path target ≡ left → text_of_label last ≡ text
    → ◌≡◌ {A = Outcome StatementTree} (spec.removed left text mid) (Some (tree, rest)) → IsStatement (Update kinds) rest tree
removed_sound kinds mid rest target last left text tree deep spelled stands labelled read =
    let front : List Kind → List Kind = λ behind. Update (spell_path target (k.Symbol s.Dot ∷ spell_label last (k.Symbol s.MinusAssign ∷ behind))) in
    let y = (removed_parser left text).sound mid rest tree read in
    record {
      by = g.remove target last y.by.0 y.by.1;
      deep = let v = y.deep in omega arith;
      spelled = ap Update spelled ∙ ap front y.spelled;
      stands = ap (λ (p : RootedTree). t.remove p (text_of_label last) (tree_path y.by.0) (tree_tail y.by.1)) stands
          ∙ ap (λ (l : List ℕ). t.remove left l (tree_path y.by.0) (tree_tail y.by.1)) labelled ∙ y.stands;
    }

changed_sound : (kinds mid rest : List Kind) (path : RootedTree) (tree : StatementTree) → IsPath NESTING kinds mid path
    → ◌≡◌ {A = Outcome StatementTree} (spec.changed path mid) (Some (tree, rest)) → IsStatement (Update kinds) rest tree
unfolding spec.changed
changed_sound kinds mid rest path tree x read =
    elim (cases_Bool (sees s.Assign mid)) [
      | inl seen ↦
          let behind = sees_sign s.Assign mid seen in
          assigned_sound kinds (next mid) rest path tree record { by = x.by; deep = x.deep; spelled = x.spelled ∙ ap (spell_path x.by) behind; stands = x.stands } (rw seen at read)
      | inr not_assign ↦
          let read2 = rw not_assign at read in
          elim (cases_Bool (sees s.PlusAssign mid)) [
            | inl seen ↦
                let more : RootedTree × List ℕ → Parse StatementTree = λ aim. spec.added aim.0 aim.1 in
                let (aim, end, aims, others) = bind_some (found (aimed path) (next mid)) more tree rest (rw seen at read2) in
                let (is, same) = found_some (aimed path) (next mid) end aim aims in
                let y = sound_aimed NESTING kinds mid path aim.0 aim.1 x is in
                let behind = sees_sign s.PlusAssign mid seen ∙ ap (λ (left : List Kind). k.Symbol s.PlusAssign ∷ left) same in
                added_sound kinds end rest y.target y.last aim.0 aim.1 tree y.deep
                (y.spelled ∙ ap (λ (left : List Kind). spell_path y.target (k.Symbol s.Dot ∷ spell_label y.last left)) behind) y.stands y.label others
            | inr not_plus ↦
                let read3 = rw not_plus at read2 in
                let go_on : RootedTree × List ℕ → Parse StatementTree = λ aim. spec.removed aim.0 aim.1 in
                let more : Unit {0} → Parse StatementTree = λ _ left. and_then (found (aimed path) left) go_on in
                let (u, left, taken, aiming) = bind_some (expect s.MinusAssign mid) more tree rest read3 in
                let (aim, end, aims, others) = bind_some (found (aimed path) left) go_on tree rest aiming in
                let (is, same) = found_some (aimed path) left end aim aims in
                let y = sound_aimed NESTING kinds mid path aim.0 aim.1 x is in
                let behind = expect_some s.MinusAssign mid left u taken ∙ ap (λ (rest : List Kind). k.Symbol s.MinusAssign ∷ rest) same in
                removed_sound kinds end rest y.target y.last aim.0 aim.1 tree y.deep
                (y.spelled ∙ ap (λ (left : List Kind). spell_path y.target (k.Symbol s.Dot ∷ spell_label y.last left)) behind) y.stands y.label others
          ]
    ]

update_sound : (kinds rest : List Kind) (tree : StatementTree) → ◌≡◌ {A = Outcome StatementTree} (spec.update kinds) (Some (tree, rest)) → IsStatement (Update kinds) rest tree
unfolding spec.update
update_sound kinds rest tree read =
    let (path, mid, first, others) = bind_some (rooted NESTING kinds) spec.changed tree rest read in
    changed_sound kinds mid rest path tree (sound_path NESTING kinds mid path first) others

set_sound : (kinds rest : List Kind) (tree : StatementTree) → ◌≡◌ {A = Outcome StatementTree} (spec.set kinds) (Some (tree, rest)) → IsStatement (k.Word (codes "set") ∷ kinds) rest tree
unfolding spec.set
set_sound kinds rest tree read =
    elim (cases_Bool (sees_word (codes "nodes") kinds)) [
      | inl seen ↦
          let x = nodes_form.sound (next kinds) rest tree (rw seen at read) in
          record {
            by = g.set_nodes x.by;
            deep = omega arith;
            spelled = ap (λ (left : List Kind). k.Word (codes "set") ∷ left) (sees_this_word (codes "nodes") kinds seen ∙ ap (λ (left : List Kind). k.Word (codes "nodes") ∷ left) x.spelled);
            stands = x.stands;
          }
      | inr other ↦
          let x = plan_form.sound kinds rest tree (rw other at read) in
          record { by = g.set_plan x.by; deep = omega arith; spelled = ap (λ (left : List Kind). k.Word (codes "set") ∷ left) x.spelled; stands = x.stands }
    ]

-- a form that its first word begins: it, or another one
form : {P : Type 0} (first word : List ℕ) (one other : Outcome StatementTree) (tree : StatementTree) (rest : List Kind)
    → ◌≡◌ {A = Outcome StatementTree} (cond (bytes_eq first word) one other) (Some (tree, rest))
    → (first ≡ word → ◌≡◌ {A = Outcome StatementTree} one (Some (tree, rest)) → P) → (◌≡◌ {A = Outcome StatementTree} other (Some (tree, rest)) → P) → P
form first word one other tree rest read this that =
    elim (cases_Bool (bytes_eq first word)) [
      | inl same ↦ this ((bytes_eq-Decides first word).0 same) (rw same at read)
      | inr differs ↦ that (rw differs at read)
    ]

begins : (first word : List ℕ) (kinds rest : List Kind) (tree : StatementTree) → first ≡ word → IsStatement (k.Word word ∷ kinds) rest tree → IsStatement (k.Word first ∷ kinds) rest tree
begins first word kinds rest tree same x = subst (λ (text : List ℕ). IsStatement (k.Word text ∷ kinds) rest tree) (sym same) x

load_sound : (kinds rest : List Kind) (tree : StatementTree) → ◌≡◌ {A = Outcome StatementTree} (spec.load kinds) (Some (tree, rest)) → IsStatement (k.Word (codes "load") ∷ kinds) rest tree
load_sound kinds rest tree read =
    let x = load_parser.sound kinds rest tree read in
    record { by = g.load x.by.0 x.by.1; deep = let u = x.deep in omega arith; spelled = ap (λ (left : List Kind). k.Word (codes "load") ∷ left) x.spelled; stands = x.stands }

bind_sound : (kinds rest : List Kind) (tree : StatementTree) → ◌≡◌ {A = Outcome StatementTree} (spec.bind kinds) (Some (tree, rest)) → IsStatement (k.Word (codes "name") ∷ kinds) rest tree
bind_sound kinds rest tree read =
    let x = bind_parser.sound kinds rest tree read in
    record { by = g.bind x.by.0 x.by.1; deep = let u = x.deep in omega arith; spelled = ap (λ (left : List Kind). k.Word (codes "name") ∷ left) x.spelled; stands = x.stands }

unname_sound : (kinds rest : List Kind) (tree : StatementTree) → ◌≡◌ {A = Outcome StatementTree} (spec.unname kinds) (Some (tree, rest)) → IsStatement (k.Word (codes "unname") ∷ kinds) rest tree
unname_sound kinds rest tree read =
    let x = unname_parser.sound kinds rest tree read in
    record { by = g.unname x.by; deep = omega arith; spelled = ap (λ (left : List Kind). k.Word (codes "unname") ∷ left) x.spelled; stands = x.stands }

select_sound : (kinds rest : List Kind) (tree : StatementTree) → ◌≡◌ {A = Outcome StatementTree} (spec.select kinds) (Some (tree, rest)) → IsStatement (k.Word (codes "select") ∷ kinds) rest tree
select_sound kinds rest tree read =
    let x = select_form.sound kinds rest tree read in
    record {
      by = g.select x.by;
      deep = x.deep;
      spelled = ap (λ (left : List Kind). k.Word (codes "select") ∷ left) x.spelled ∙ sym (spelled_select x.by rest);
      stands = x.stands;
    }

explain_sound : (kinds rest : List Kind) (tree : StatementTree) → ◌≡◌ {A = Outcome StatementTree} (spec.explain kinds) (Some (tree, rest)) → IsStatement (k.Word (codes "explain") ∷ kinds) rest tree
explain_sound kinds rest tree read =
    let x = explain_form.sound kinds rest tree read in
    record {
      by = g.explain x.by;
      deep = x.deep;
      spelled = ap (λ (left : List Kind). k.Word (codes "explain") ∷ left) (x.spelled ∙ sym (spelled_select x.by rest));
      stands = x.stands;
    }

browse_sound : (kinds rest : List Kind) (tree : StatementTree) → ◌≡◌ {A = Outcome StatementTree} (spec.browse kinds) (Some (tree, rest)) → IsStatement (k.Word (codes "browse") ∷ kinds) rest tree
browse_sound kinds rest tree read =
    let x = browse_form.sound kinds rest tree read in
    record { by = g.browse (g.walked x.by.0 x.by.1); deep = omega arith; spelled = ap (λ (left : List Kind). k.Word (codes "browse") ∷ left) x.spelled; stands = x.stands }

sample_sound : (kinds rest : List Kind) (tree : StatementTree) → ◌≡◌ {A = Outcome StatementTree} (spec.sample kinds) (Some (tree, rest)) → IsStatement (k.Word (codes "sample") ∷ kinds) rest tree
sample_sound kinds rest tree read =
    let x = sample_form.sound kinds rest tree read in
    record {
      by = g.sample (g.walked x.by.0.0 x.by.0.1) x.by.1;
      deep = omega arith;
      spelled = ap (λ (left : List Kind). k.Word (codes "sample") ∷ left) x.spelled;
      stands = x.stands;
    }

restore_sound : (kinds rest : List Kind) (tree : StatementTree) → ◌≡◌ {A = Outcome StatementTree} (spec.restore kinds) (Some (tree, rest)) → IsStatement (k.Word (codes "restore") ∷ kinds) rest tree
restore_sound kinds rest tree read =
    let x = restore_form.sound kinds rest tree read in
    record { by = g.restore x.by; deep = omega arith; spelled = ap (λ (left : List Kind). k.Word (codes "restore") ∷ left) x.spelled; stands = x.stands }

generate_sound : (kinds rest : List Kind) (tree : StatementTree) → ◌≡◌ {A = Outcome StatementTree} (spec.generate kinds) (Some (tree, rest)) → IsStatement (k.Word (codes "generate") ∷ kinds) rest tree
generate_sound kinds rest tree read =
    let x = generate_form.sound kinds rest tree read in
    record { by = g.generate x.by.0 x.by.1; deep = omega arith; spelled = ap (λ (left : List Kind). k.Word (codes "generate") ∷ left) x.spelled; stands = x.stands }

guide_sound : (kinds rest : List Kind) (tree : StatementTree) → ◌≡◌ {A = Outcome StatementTree} (Some (t.guide, kinds)) (Some (tree, rest)) → IsStatement (k.Word (codes "guide") ∷ kinds) rest tree
guide_sound kinds rest tree read =
    let parts = some_parts read in
    record { by = g.guide; deep = omega arith; spelled = ap (λ (left : List Kind). k.Word (codes "guide") ∷ left) parts.1; stands = parts.0 }

dump_sound : (kinds rest : List Kind) (tree : StatementTree) → ◌≡◌ {A = Outcome StatementTree} (Some (t.dump, kinds)) (Some (tree, rest)) → IsStatement (k.Word (codes "dump") ∷ kinds) rest tree
dump_sound kinds rest tree read =
    let parts = some_parts read in
    record { by = g.dump; deep = omega arith; spelled = ap (λ (left : List Kind). k.Word (codes "dump") ∷ left) parts.1; stands = parts.0 }

-- by the first word

keeping_sound : (first : List ℕ) (kinds rest : List Kind) (tree : StatementTree) → ◌≡◌ {A = Outcome StatementTree} (spec.keeping first kinds) (Some (tree, rest))
    → IsStatement (k.Word first ∷ kinds) rest tree
unfolding spec.keeping
keeping_sound first kinds rest tree read0 =
    form first (codes "history") (spec.history kinds) _ tree rest read0 (λ same here. begins first (codes "history") kinds rest tree same (history_sound kinds rest tree here)) (λ read1.
    form first (codes "at") (spec.select_at kinds) _ tree rest read1 (λ same here. begins first (codes "at") kinds rest tree same (select_at_sound kinds rest tree here)) (λ read2.
    form first (codes "changes") (spec.changes kinds) _ tree rest read2 (λ same here. begins first (codes "changes") kinds rest tree same (changes_sound kinds rest tree here)) (λ read3.
    form first (codes "blocks") (spec.blocks kinds) _ tree rest read3 (λ same here. begins first (codes "blocks") kinds rest tree same (blocks_sound kinds rest tree here)) (λ read4.
    form first (codes "watch") (spec.watch kinds) _ tree rest read4 (λ same here. begins first (codes "watch") kinds rest tree same (watch_sound kinds rest tree here)) (λ read5.
    form first (codes "unwatch") (spec.unwatch kinds) _ tree rest read5 (λ same here. begins first (codes "unwatch") kinds rest tree same (unwatch_sound kinds rest tree here)) (λ read6.
    form first (codes "show") (spec.show kinds) _ tree rest read6 (λ same here. begins first (codes "show") kinds rest tree same (show_sound kinds rest tree here)) (λ read7.
    absurd (none_some read7))))))))

administering_sound : (first : List ℕ) (kinds rest : List Kind) (tree : StatementTree) → ◌≡◌ {A = Outcome StatementTree} (spec.administering first kinds) (Some (tree, rest))
    → IsStatement (k.Word first ∷ kinds) rest tree
unfolding spec.administering
administering_sound first kinds rest tree read0 =
    form first (codes "set") (spec.set kinds) _ tree rest read0 (λ same here. begins first (codes "set") kinds rest tree same (set_sound kinds rest tree here)) (λ read1.
    form first (codes "dump") (Some (t.dump, kinds)) _ tree rest read1 (λ same here. begins first (codes "dump") kinds rest tree same (dump_sound kinds rest tree here)) (λ read2.
    form first (codes "restore") (spec.restore kinds) _ tree rest read2 (λ same here. begins first (codes "restore") kinds rest tree same (restore_sound kinds rest tree here)) (λ read3.
    form first (codes "generate") (spec.generate kinds) _ tree rest read3 (λ same here. begins first (codes "generate") kinds rest tree same (generate_sound kinds rest tree here)) (λ read4.
    keeping_sound first kinds rest tree read4))))

asking_sound : (first : List ℕ) (kinds rest : List Kind) (tree : StatementTree) → ◌≡◌ {A = Outcome StatementTree} (spec.asking first kinds) (Some (tree, rest))
    → IsStatement (k.Word first ∷ kinds) rest tree
unfolding spec.asking
asking_sound first kinds rest tree read0 =
    form first (codes "select") (spec.select kinds) _ tree rest read0 (λ same here. begins first (codes "select") kinds rest tree same (select_sound kinds rest tree here)) (λ read1.
    form first (codes "explain") (spec.explain kinds) _ tree rest read1 (λ same here. begins first (codes "explain") kinds rest tree same (explain_sound kinds rest tree here)) (λ read2.
    form first (codes "guide") (Some (t.guide, kinds)) _ tree rest read2 (λ same here. begins first (codes "guide") kinds rest tree same (guide_sound kinds rest tree here)) (λ read3.
    form first (codes "browse") (spec.browse kinds) _ tree rest read3 (λ same here. begins first (codes "browse") kinds rest tree same (browse_sound kinds rest tree here)) (λ read4.
    form first (codes "sample") (spec.sample kinds) _ tree rest read4 (λ same here. begins first (codes "sample") kinds rest tree same (sample_sound kinds rest tree here)) (λ read5.
    administering_sound first kinds rest tree read5)))))

changing_sound : (first : List ℕ) (kinds rest : List Kind) (tree : StatementTree) → ◌≡◌ {A = Outcome StatementTree} (spec.changing first kinds) (Some (tree, rest))
    → IsStatement (k.Word first ∷ kinds) rest tree
unfolding spec.changing
changing_sound first kinds rest tree read0 =
    form first (codes "load") (spec.load kinds) _ tree rest read0 (λ same here. begins first (codes "load") kinds rest tree same (load_sound kinds rest tree here)) (λ read1.
    form first (codes "name") (spec.bind kinds) _ tree rest read1 (λ same here. begins first (codes "name") kinds rest tree same (bind_sound kinds rest tree here)) (λ read2.
    form first (codes "unname") (spec.unname kinds) _ tree rest read2 (λ same here. begins first (codes "unname") kinds rest tree same (unname_sound kinds rest tree here)) (λ read3.
    form first (codes "update") (spec.update kinds) _ tree rest read3 (λ same here. begins first (codes "update") kinds rest tree same (update_sound kinds rest tree here)) (λ read4.
    asking_sound first kinds rest tree read4))))

word_some : (kinds rest : List Kind) (text : List ℕ) → ◌≡◌ {A = Outcome (List ℕ)} (spec.word kinds) (Some (text, rest)) → kinds ≡ k.Word text ∷ rest
unfolding spec.word
word_some [] rest text read = absurd (none_some read)
word_some (k.Word other ∷ kinds) rest text read = let parts = some_parts read in cc (parts.0, parts.1)
word_some (_ ∷ kinds) rest text read = absurd (none_some read)

pub statement_sound : (kinds rest : List Kind) (tree : StatementTree) → ◌≡◌ {A = Outcome StatementTree} (spec.statement kinds) (Some (tree, rest)) → IsStatement kinds rest tree
unfolding spec.statement
statement_sound kinds rest tree read =
    let (first, mid, taken, others) = bind_some (spec.word kinds) spec.changing tree rest read in
    subst (λ (left : List Kind). IsStatement left rest tree) (sym (word_some kinds mid first taken)) (changing_sound first mid rest tree others)

-- completeness of statements

pub word-load : (kinds : List Kind) → spec.statement (k.Word (codes "load") ∷ kinds) ≡ spec.load kinds
unfolding spec.statement spec.word spec.changing spec.asking spec.administering
word-load kinds = refl

pub word-name : (kinds : List Kind) → spec.statement (k.Word (codes "name") ∷ kinds) ≡ spec.bind kinds
unfolding spec.statement spec.word spec.changing spec.asking spec.administering
word-name kinds = refl

word-unname : (kinds : List Kind) → spec.statement (k.Word (codes "unname") ∷ kinds) ≡ spec.unname kinds
unfolding spec.statement spec.word spec.changing spec.asking spec.administering
word-unname kinds = refl

pub word-update : (kinds : List Kind) → spec.statement (k.Word (codes "update") ∷ kinds) ≡ spec.update kinds
unfolding spec.statement spec.word spec.changing spec.asking spec.administering
word-update kinds = refl

pub word-select : (kinds : List Kind) → spec.statement (k.Word (codes "select") ∷ kinds) ≡ spec.select kinds
unfolding spec.statement spec.word spec.changing spec.asking spec.administering
word-select kinds = refl

pub word-explain : (kinds : List Kind) → spec.statement (k.Word (codes "explain") ∷ kinds) ≡ spec.explain kinds
unfolding spec.statement spec.word spec.changing spec.asking spec.administering
word-explain kinds = refl

word-browse : (kinds : List Kind) → spec.statement (k.Word (codes "browse") ∷ kinds) ≡ spec.browse kinds
unfolding spec.statement spec.word spec.changing spec.asking spec.administering
word-browse kinds = refl

word-sample : (kinds : List Kind) → spec.statement (k.Word (codes "sample") ∷ kinds) ≡ spec.sample kinds
unfolding spec.statement spec.word spec.changing spec.asking spec.administering
word-sample kinds = refl

word-set : (kinds : List Kind) → spec.statement (k.Word (codes "set") ∷ kinds) ≡ spec.set kinds
unfolding spec.statement spec.word spec.changing spec.asking spec.administering
word-set kinds = refl

word-restore : (kinds : List Kind) → spec.statement (k.Word (codes "restore") ∷ kinds) ≡ spec.restore kinds
unfolding spec.statement spec.word spec.changing spec.asking spec.administering
word-restore kinds = refl

word-generate : (kinds : List Kind) → spec.statement (k.Word (codes "generate") ∷ kinds) ≡ spec.generate kinds
unfolding spec.statement spec.word spec.changing spec.asking spec.administering
word-generate kinds = refl

word-history : (kinds : List Kind) → spec.statement (k.Word (codes "history") ∷ kinds) ≡ spec.history kinds
unfolding spec.statement spec.word spec.changing spec.asking spec.administering spec.keeping
word-history kinds = refl

word-at : (kinds : List Kind) → spec.statement (k.Word (codes "at") ∷ kinds) ≡ spec.select_at kinds
unfolding spec.statement spec.word spec.changing spec.asking spec.administering spec.keeping
word-at kinds = refl

word-changes : (kinds : List Kind) → spec.statement (k.Word (codes "changes") ∷ kinds) ≡ spec.changes kinds
unfolding spec.statement spec.word spec.changing spec.asking spec.administering spec.keeping
word-changes kinds = refl

word-blocks : (kinds : List Kind) → spec.statement (k.Word (codes "blocks") ∷ kinds) ≡ spec.blocks kinds
unfolding spec.statement spec.word spec.changing spec.asking spec.administering spec.keeping
word-blocks kinds = refl

word-watch : (kinds : List Kind) → spec.statement (k.Word (codes "watch") ∷ kinds) ≡ spec.watch kinds
unfolding spec.statement spec.word spec.changing spec.asking spec.administering spec.keeping
word-watch kinds = refl

word-unwatch : (kinds : List Kind) → spec.statement (k.Word (codes "unwatch") ∷ kinds) ≡ spec.unwatch kinds
unfolding spec.statement spec.word spec.changing spec.asking spec.administering spec.keeping
word-unwatch kinds = refl

word-show : (kinds : List Kind) → spec.statement (k.Word (codes "show") ∷ kinds) ≡ spec.show kinds
unfolding spec.statement spec.word spec.changing spec.asking spec.administering spec.keeping
word-show kinds = refl

word-guide : ◌≡◌ {A = Outcome StatementTree} (spec.statement (k.Word (codes "guide") ∷ [])) (Some (t.guide, []))
unfolding spec.statement spec.word spec.changing spec.asking
word-guide = refl

word-dump : ◌≡◌ {A = Outcome StatementTree} (spec.statement (k.Word (codes "dump") ∷ [])) (Some (t.dump, []))
unfolding spec.statement spec.word spec.changing spec.asking spec.administering
word-dump = refl

pub update-path : (kinds mid : List Kind) (path : RootedTree) → ◌≡◌ {A = Outcome RootedTree} (rooted NESTING kinds) (Some (path, mid)) → spec.update kinds ≡ spec.changed path mid
unfolding spec.update
update-path kinds mid path read = rw read

pub changed-assign : (path : RootedTree) (kinds : List Kind) → spec.changed path (k.Symbol s.Assign ∷ kinds) ≡ spec.assigned path kinds
unfolding spec.changed sees
changed-assign path kinds = refl

pub changed-plus : (path left : RootedTree) (text : List ℕ) (kinds : List Kind) → ◌≡◌ {A = Option (RootedTree × List ℕ)} (aimed path) (Some (left, text))
    → spec.changed path (k.Symbol s.PlusAssign ∷ kinds) ≡ spec.added left text kinds
unfolding spec.changed sees
changed-plus path left text kinds aims = rw aims

pub changed-minus : (path left : RootedTree) (text : List ℕ) (kinds : List Kind) → ◌≡◌ {A = Option (RootedTree × List ℕ)} (aimed path) (Some (left, text))
    → spec.changed path (k.Symbol s.MinusAssign ∷ kinds) ≡ spec.removed left text kinds
unfolding spec.changed sees expect
changed-minus path left text kinds aims = rw aims

pub path_seen : (path : g.Path) (rest : List Kind) → sees_name (spell_path path rest) ≡ true
path_seen (g.rooted one parts) rest = name_seen one (spell_parts parts rest)

local_unseen : (id : ℕ) (rest : List Kind) → sees_name (k.Local id ∷ rest) ≡ false
unfolding sees_name
local_unseen id rest = refl

brace_unseen : (rest : List Kind) → sees_name (k.Symbol s.LeftBrace ∷ rest) ≡ false
unfolding sees_name
brace_unseen rest = refl

pub literal_unseen : (value : g.Literal) (rest : List Kind) → sees_name (spell_literal value rest) ≡ false
literal_unseen (g.local id) rest = local_unseen id rest
literal_unseen (g.atom None value) rest = atom_no_name value rest
literal_unseen (g.atom (Some id) value) rest = local_unseen id (spell_atom value rest)
literal_unseen (g.braces None inner) rest = brace_unseen (spell_members inner (k.Symbol s.RightBrace ∷ rest))
literal_unseen (g.braces (Some id) inner) rest = local_unseen id (k.Symbol s.LeftBrace ∷ spell_members inner (k.Symbol s.RightBrace ∷ rest))

pub added-link : (left : RootedTree) (text : List ℕ) (kinds : List Kind) → sees_name kinds ≡ true
    → spec.added left text kinds ≡ mapped (λ (parts : RootedTree × t.TailTree). t.add_link left text parts.0 parts.1) (both (rooted NESTING) tail) kinds
unfolding spec.added
added-link left text kinds seen = rw seen

pub added-fresh : (left : RootedTree) (text : List ℕ) (kinds : List Kind) → sees_name kinds ≡ false
    → spec.added left text kinds ≡ mapped (λ (parts : t.LiteralTree × t.TailTree). t.add_new left text parts.0 parts.1) (both (literal (inside NESTING)) tail) kinds
unfolding spec.added
added-fresh left text kinds unseen = rw unseen

set-nodes : (kinds : List Kind) → spec.set (k.Word (codes "nodes") ∷ kinds) ≡ mapped t.set_nodes spec.number kinds
unfolding spec.set sees_word
set-nodes kinds = refl

set-plan : (kinds : List Kind) → spec.set (k.Word (codes "plan") ∷ kinds) ≡ mapped t.set_plan (behind_word (codes "plan") spec.mode) (k.Word (codes "plan") ∷ kinds)
unfolding spec.set sees_word
set-plan kinds = refl

pub ends_path_at : (sign : Sign) → (is_mark sign ≡ false) → (is_begin sign ≡ false) → (rest : List Kind) → EndsPath (k.Symbol sign ∷ rest)
ends_path_at sign mark more rest = record { mark = mark; more = more }

abbrev Reads : g.Statement → Type 0
Reads by = ◌≡◌ {A = Outcome StatementTree} (spec.statement (spell_statement by [])) (Some (tree_statement by, []))

add_complete : (target : g.Path) (last : g.Label) (addition : g.Addition) (end : g.Tail) → nest_statement (g.add target last addition end) ≤ NESTING → Reads (g.add target last addition end)
add_complete target last (g.fresh value) end deep =
    let behind = spell_literal value (spell_tail end []) in
    let mid = k.Symbol s.PlusAssign ∷ behind in
    let kinds = spell_path target (k.Symbol s.Dot ∷ spell_label last mid) in
    let (path, read, aims) = complete_aimed NESTING target last mid (omega arith) (ends_path_at s.PlusAssign refl refl behind) in
    word-update kinds ∙ update-path kinds mid path read ∙ changed-plus path (tree_path target) (text_of_label last) behind aims
    ∙ added-fresh (tree_path target) (text_of_label last) behind (literal_unseen value (spell_tail end []))
    ∙ (fresh_parser (tree_path target) (text_of_label last)).complete (value, end) [] (omega arith) refl
add_complete target last (g.link right) end deep =
    let behind = spell_path right (spell_tail end []) in
    let mid = k.Symbol s.PlusAssign ∷ behind in
    let kinds = spell_path target (k.Symbol s.Dot ∷ spell_label last mid) in
    let (path, read, aims) = complete_aimed NESTING target last mid (omega arith) (ends_path_at s.PlusAssign refl refl behind) in
    word-update kinds ∙ update-path kinds mid path read ∙ changed-plus path (tree_path target) (text_of_label last) behind aims
    ∙ added-link (tree_path target) (text_of_label last) behind (path_seen right (spell_tail end []))
    ∙ (link_parser (tree_path target) (text_of_label last)).complete (right, end) [] (omega arith) refl

remove_complete : (target : g.Path) (last : g.Label) (right : g.Path) (end : g.Tail) → nest_statement (g.remove target last right end) ≤ NESTING → Reads (g.remove target last right end)
remove_complete target last right end deep =
    let behind = spell_path right (spell_tail end []) in
    let mid = k.Symbol s.MinusAssign ∷ behind in
    let kinds = spell_path target (k.Symbol s.Dot ∷ spell_label last mid) in
    let (path, read, aims) = complete_aimed NESTING target last mid (omega arith) (ends_path_at s.MinusAssign refl refl behind) in
    word-update kinds ∙ update-path kinds mid path read ∙ changed-minus path (tree_path target) (text_of_label last) behind aims
    ∙ (removed_parser (tree_path target) (text_of_label last)).complete (right, end) [] (omega arith) refl

statement_complete : (by : g.Statement) → nest_statement by ≤ NESTING → Reads by
statement_complete (g.load one value) deep =
    word-load (spell_name one (k.Symbol s.Assign ∷ spell_literal value [])) ∙ load_parser.complete (one, value) [] (omega arith) refl
statement_complete (g.bind one path) deep = word-name (spell_name one (k.Symbol s.Assign ∷ spell_path path [])) ∙ bind_parser.complete (one, path) [] (omega arith) refl
statement_complete (g.unname one) deep = word-unname (spell_name one []) ∙ unname_parser.complete one [] (omega arith) tt
statement_complete (g.assign target value end) deep =
    let behind = spell_value value (spell_tail end []) in
    let mid = k.Symbol s.Assign ∷ behind in
    let read = path_parser.complete target mid (omega arith) (ends_path_at s.Assign refl refl behind) in
    word-update (spell_path target mid) ∙ update-path (spell_path target mid) mid (tree_path target) read ∙ changed-assign (tree_path target) behind
    ∙ (assigned_parser (tree_path target)).complete (value, end) [] (omega arith) refl
statement_complete (g.add target last addition end) deep = add_complete target last addition end deep
statement_complete (g.remove target last right end) deep = remove_complete target last right end deep
statement_complete (g.select inner) deep = ap spec.statement (spelled_select inner []) ∙ word-select (spell_query inner []) ∙ select_form.complete inner [] deep refl
statement_complete (g.explain inner) deep =
    ap (λ (left : List Kind). spec.statement (k.Word (codes "explain") ∷ left)) (spelled_select inner [])
    ∙ word-explain (k.Word (codes "select") ∷ spell_query inner []) ∙ explain_form.complete inner [] deep refl
statement_complete g.guide deep = word-guide
statement_complete (g.browse (g.walked one labels)) deep = word-browse (spell_name one (spell_labels labels [])) ∙ browse_form.complete (one, labels) [] (omega arith) no_dot_at_end
statement_complete (g.sample (g.walked one labels) count) deep =
    word-sample (spell_name one (spell_labels labels (k.Number count ∷ []))) ∙ sample_form.complete ((one, labels), count) [] (omega arith) tt
statement_complete (g.set_nodes nodes) deep = word-set (k.Word (codes "nodes") ∷ k.Number nodes ∷ []) ∙ set-nodes (k.Number nodes ∷ []) ∙ nodes_form.complete nodes [] (omega arith) tt
statement_complete (g.set_plan mode) deep =
    word-set (k.Word (codes "plan") ∷ spell_mode mode []) ∙ set-plan (spell_mode mode []) ∙ plan_form.complete mode [] (omega arith) tt
statement_complete g.dump deep = word-dump
statement_complete (g.restore text) deep = word-restore (spell_dump_text text []) ∙ restore_form.complete text [] (omega arith) tt
statement_complete (g.generate seed count) deep = word-generate (k.Number seed ∷ k.Number count ∷ []) ∙ generate_form.complete (seed, count) [] (omega arith) tt
statement_complete (g.history on) deep = word-history (k.Word (switch_text on) ∷ []) ∙ history_form.complete on [] (omega arith) tt
statement_complete (g.select_at moment inner) deep =
    ap (λ (left : List Kind). spec.statement (k.Word (codes "at") ∷ k.Number moment ∷ left)) (spelled_select inner [])
    ∙ word-at (k.Number moment ∷ k.Word (codes "select") ∷ spell_query inner []) ∙ select_at_form.complete (moment, inner) [] (omega arith) refl
statement_complete (g.changes from to) deep = word-changes (k.Number from ∷ k.Number to ∷ []) ∙ changes_form.complete (from, to) [] (omega arith) tt
statement_complete g.blocks deep = word-blocks [] ∙ blocks-alone
statement_complete (g.blocks_of inner) deep =
    ap (λ (left : List Kind). spec.statement (k.Word (codes "blocks") ∷ left)) (spelled_select inner [])
    ∙ word-blocks (k.Word (codes "select") ∷ spell_query inner []) ∙ blocks-of (spell_query inner []) ∙ blocks_form.complete inner [] deep refl
statement_complete (g.watch one inner) deep = word-watch (spell_name one (k.Symbol s.Assign ∷ spell_paths inner [])) ∙ watch_complete one inner deep
statement_complete (g.unwatch one) deep = word-unwatch (spell_name one []) ∙ unwatch_form.complete one [] (omega arith) tt
statement_complete (g.show one) deep = word-show (spell_name one []) ∙ show_form.complete one [] (omega arith) tt

-- the tokens of a statement

pub reads_statement : (tree : StatementTree) (kinds : List Kind) → HasTokens tree kinds → ◌≡◌ {A = Outcome StatementTree} (spec.statement kinds) (Some (tree, []))
reads_statement tree kinds has =
    let view : StatementTree → Outcome StatementTree = λ one. Some (one, []) in
    ap spec.statement has.spelled ∙ statement_complete has.by has.deep ∙ ap view has.tree

empty_of : (kinds : List Kind) → length kinds ≡ 0 → kinds ≡ []
empty_of [] none = refl
empty_of (kind ∷ kinds) none = absurd (omega arith)

-- what was read where no token is left
pub read_has : (kinds left : List Kind) (tree : StatementTree) → ◌≡◌ {A = Outcome StatementTree} (spec.statement kinds) (Some (tree, left)) → length left ≡ 0 → HasTokens tree kinds
read_has kinds left tree read none =
    let view : List Kind → Outcome StatementTree = λ behind. Some (tree, behind) in
    let x = statement_sound kinds [] tree (read ∙ ap view (empty_of left none)) in
    record { by = x.by; deep = x.deep; spelled = x.spelled; tree = x.stands }

-- tokens that don't read are those of no statement
pub none_has : (kinds : List Kind) → ◌≡◌ {A = Outcome StatementTree} (spec.statement kinds) None → (tree : StatementTree) → HasTokens tree kinds → ⊥
none_has kinds refused tree has = none_some (sym refused ∙ reads_statement tree kinds has)

-- nor are those that go on behind what was read
pub left_has : (kinds left : List Kind) (read : StatementTree) → ◌≡◌ {A = Outcome StatementTree} (spec.statement kinds) (Some (read, left)) → 0 < length left
    → (tree : StatementTree) → HasTokens tree kinds → ⊥
left_has kinds left read found some tree has = let none = ap length (some_parts (sym found ∙ reads_statement tree kinds has)).1 in omega arith

pub refused_at : (outcome : Outcome StatementTree) (fault : ParseFault) (left : List Kind) → outcomes.Reads statement_tree outcome (Err fault) left → fault ≡ Syntax → outcome ≡ None
refused_at outcome fault left reads is = let P : ParseFault → Type 0 = λ f. outcomes.Reads statement_tree outcome (Err f) left in subst P is reads
