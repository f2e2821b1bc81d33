-- The parsers of the forms of history, moments and kept selects are sound and complete.
use Rattle.std.proofs.Common.{◌≡◌, ℕ, ℤ, ◌≤◌, max, Bool, true, false, List, [], ◌∷◌, map, codes, Option, Some, None, All, refl, ap, ◌∙◌, sym, arith, inl, inr}
use Rattle.std.specs.List.{list_all}
use Rattle.std.proofs.lemmas.Bool.{cases_Bool}
use Rattle.std.proofs.lemmas.List.Elements.{All-nil, All-cons}
use Rattle.lore_base.specs.declared.limits.TheConstants.{NESTING}
use Rattle.lorel_tokens.specs.declared.token_types.Kind.{Kind}
use Rattle.lorel_tokens.specs.declared.token_types.Kind.TheVariants as k
use Rattle.lorel_tokens.specs.declared.token_types.Sign.TheVariants as s
use Rattle.lorel_trees.specs.Trees as t
use Rattle.lorel_trees.specs.Trees.{StatementTree}
use Rattle.lorel_trees.specs.Grammar as g
use Rattle.lorel_trees.specs.Paths.{spell_name, text_of_name}
use Rattle.lorel_trees.specs.Selects.{tree_item, spell_select, tree_select, nest_select, select_of_paths, spell_paths, tree_paths, nest_paths}
use Rattle.lorel_trees.specs.Statements.{switch_text, spell_statement, tree_statement, nest_statement}
use Rattle.lorel_trees.specs.Formed.{IsObjectItem}
use Rattle.lorel_trees.proofs.PathItemLaws.{paths_of}
use Rattle.lorel_terms.specs.Outcomes.{Outcome, Parse, next, sees_word, found}
use Rattle.lorel_terms.specs.Repetitions.{mapped, both, behind_sign, behind_word}
use Rattle.lorel_terms.specs.Names.{name}
use Rattle.lorel_terms.specs.Selects as q
use Rattle.lorel_parse.specs.inside.Statements as spec
use Rattle.lorel_terms.proofs.OutcomeLaws.{some_parts, none_some, bind_some, sees_this_word}
use Rattle.lorel_terms.proofs.RepetitionLaws.{IsRead, IsParserOf, Anything, Nothing, flat, mapped_parser, behind_parser, behind_word_parser, both_parser}
use Rattle.lorel_terms.proofs.SelectLaws.{name_parser, spell_query, spelled_select, select_parser}
use Rattle.lorel_parse.proofs.DumpLaws.{itself, number_parser}

-- a statement was read whose tokens begin with these
abbrev pub IsStatement : List Kind → List Kind → StatementTree → Type 0
IsStatement kinds rest tree = IsRead spell_statement tree_statement nest_statement NESTING kinds rest tree

-- what an option gives without a token
pub found_some : {A : Type 0} (one : Option A) (kinds rest : List Kind) (a : A) → ◌≡◌ {A = Outcome A} (found one kinds) (Some (a, rest)) → (one ≡ Some a) × (kinds ≡ rest)
found_some {A} (Some b) kinds rest a read = let parts = some_parts read in (ap (λ (x : A). Some x) parts.0, parts.1)
found_some {A} None kinds rest a read = absurd (none_some read)

-- history

switch_case : (on read : Bool) (kinds rest : List Kind) → sees_word (switch_text on) kinds ≡ true → ◌≡◌ {A = Outcome Bool} (Some (on, next kinds)) (Some (read, rest))
    → kinds ≡ k.Word (switch_text read) ∷ rest
switch_case on read kinds rest seen same =
    let parts = some_parts same in
    sees_this_word (switch_text on) kinds seen ∙ ap (λ (left : List Kind). k.Word (switch_text on) ∷ left) parts.1
    ∙ ap (λ (one : Bool). k.Word (switch_text one) ∷ rest) parts.0

switch_sound : (kinds rest : List Kind) (on : Bool) → ◌≡◌ {A = Outcome Bool} (spec.switch kinds) (Some (on, rest)) → kinds ≡ k.Word (switch_text on) ∷ rest
unfolding spec.switch
switch_sound kinds rest on read =
    elim (cases_Bool (sees_word (codes "on") kinds)) [
      | inl seen ↦ switch_case true on kinds rest seen (rw seen at read)
      | inr not_on ↦
          let more = rw not_on at read in
          elim (cases_Bool (sees_word (codes "off") kinds)) [
            | inl seen ↦ switch_case false on kinds rest seen (rw seen at more)
            | inr not_off ↦ absurd (none_some (rw not_off at more))
          ]
    ]

switch_complete : (on : Bool) (rest : List Kind) → ◌≡◌ {A = Outcome Bool} (spec.switch (k.Word (switch_text on) ∷ rest)) (Some (on, rest))
unfolding spec.switch sees_word
switch_complete true rest = refl
switch_complete false rest = refl

switch_parser : IsParserOf spec.switch (λ on rest. k.Word (switch_text on) ∷ rest) itself flat NESTING Anything
switch_parser = record {
  sound = λ kinds rest on read. record { by = on; deep = omega arith; spelled = switch_sound kinds rest on read; stands = refl };
  complete = λ on rest deep end. switch_complete on rest;
}

pub history_form : IsParserOf spec.history (λ on rest. k.Word (switch_text on) ∷ rest) (λ on. t.history on) flat NESTING Anything
unfolding spec.history
history_form = mapped_parser t.history switch_parser

pub history_sound : (kinds rest : List Kind) (tree : StatementTree) → ◌≡◌ {A = Outcome StatementTree} (spec.history kinds) (Some (tree, rest)) → IsStatement (k.Word (codes "history") ∷ kinds) rest tree
history_sound kinds rest tree read =
    let x = history_form.sound kinds rest tree read in
    record { by = g.history x.by; deep = omega arith; spelled = ap (λ (left : List Kind). k.Word (codes "history") ∷ left) x.spelled; stands = x.stands }

-- moments

pub select_at_form : IsParserOf spec.select_at (λ (d : ℤ × g.Select) rest. k.Number d.0 ∷ k.Word (codes "select") ∷ spell_query d.1 rest)
    (λ d. t.select_at d.0 (tree_select d.1)) (λ d. max 0 (nest_select d.1)) NESTING Nothing
unfolding spec.select_at
select_at_form = mapped_parser (λ (parts : ℤ × t.SelectTree). t.select_at parts.0 parts.1)
    (both_parser (λ one rest end. tt) number_parser (behind_word_parser (codes "select") select_parser))

pub select_at_sound : (kinds rest : List Kind) (tree : StatementTree) → ◌≡◌ {A = Outcome StatementTree} (spec.select_at kinds) (Some (tree, rest)) → IsStatement (k.Word (codes "at") ∷ kinds) rest tree
select_at_sound kinds rest tree read =
    let x = select_at_form.sound kinds rest tree read in
    record {
      by = g.select_at x.by.0 x.by.1;
      deep = let u = x.deep in omega arith;
      spelled = ap (λ (left : List Kind). k.Word (codes "at") ∷ left)
          (x.spelled ∙ ap (λ (left : List Kind). k.Number x.by.0 ∷ left) (sym (spelled_select x.by.1 rest)));
      stands = x.stands;
    }

pub changes_form : IsParserOf spec.changes (λ (d : ℤ × ℤ) rest. k.Number d.0 ∷ k.Number d.1 ∷ rest) (λ d. t.changes d.0 d.1) (λ d. max 0 0) NESTING Anything
unfolding spec.changes
changes_form = mapped_parser (λ (parts : ℤ × ℤ). t.changes parts.0 parts.1) (both_parser (λ one rest end. tt) number_parser number_parser)

pub changes_sound : (kinds rest : List Kind) (tree : StatementTree) → ◌≡◌ {A = Outcome StatementTree} (spec.changes kinds) (Some (tree, rest)) → IsStatement (k.Word (codes "changes") ∷ kinds) rest tree
changes_sound kinds rest tree read =
    let x = changes_form.sound kinds rest tree read in
    record { by = g.changes x.by.0 x.by.1; deep = omega arith; spelled = ap (λ (left : List Kind). k.Word (codes "changes") ∷ left) x.spelled; stands = x.stands }

-- blocks

pub blocks_form : IsParserOf (mapped t.blocks_of q.select) spell_query (λ d. t.blocks_of (tree_select d)) nest_select NESTING Nothing
blocks_form = mapped_parser t.blocks_of select_parser

pub blocks_sound : (kinds rest : List Kind) (tree : StatementTree) → ◌≡◌ {A = Outcome StatementTree} (spec.blocks kinds) (Some (tree, rest)) → IsStatement (k.Word (codes "blocks") ∷ kinds) rest tree
unfolding spec.blocks
blocks_sound kinds rest tree read =
    elim (cases_Bool (sees_word (codes "select") kinds)) [
      | inl seen ↦
          let x = blocks_form.sound (next kinds) rest tree (rw seen at read) in
          record {
            by = g.blocks_of x.by;
            deep = x.deep;
            spelled = ap (λ (left : List Kind). k.Word (codes "blocks") ∷ left)
                (sees_this_word (codes "select") kinds seen ∙ ap (λ (left : List Kind). k.Word (codes "select") ∷ left) x.spelled ∙ sym (spelled_select x.by rest));
            stands = x.stands;
          }
      | inr other ↦
          let parts = some_parts (rw other at read) in
          record { by = g.blocks; deep = omega arith; spelled = ap (λ (left : List Kind). k.Word (codes "blocks") ∷ left) parts.1; stands = parts.0 }
    ]

pub blocks-alone : ◌≡◌ {A = Outcome StatementTree} (spec.blocks []) (Some (t.blocks, []))
unfolding spec.blocks sees_word
blocks-alone = refl

pub blocks-of : (kinds : List Kind) → spec.blocks (k.Word (codes "select") ∷ kinds) ≡ mapped t.blocks_of q.select kinds
unfolding spec.blocks sees_word
blocks-of kinds = refl

-- kept selects: their items are paths alone

objects_are : (items : List t.ItemTree) → list_all spec.is_object items ≡ true → All IsObjectItem items
objects_are [] all = All-nil IsObjectItem
objects_are (t.object path ∷ others) all = All-cons IsObjectItem (t.object path) others tt (objects_are others all)
objects_are (t.path_of variable ∷ others) all = absurd (let none : false ≡ true = all in cc)

paths_are : (paths : List g.Path) → list_all spec.is_object (map tree_item (map g.object paths)) ≡ true
paths_are [] = refl
paths_are (first ∷ others) = paths_are others

shown_are : (inner : g.Paths) → list_all spec.is_object (tree_paths inner).items ≡ true
shown_are (g.paths first others end) = paths_are (first ∷ others)

-- a name and a select behind `:=`
abbrev named : Parse (List ℕ × t.SelectTree)
named = both name (behind_sign s.Assign (behind_word (codes "select") q.select))

named_parser : IsParserOf named (λ (d : g.Name × g.Select) rest. spell_name d.0 (k.Symbol s.Assign ∷ k.Word (codes "select") ∷ spell_query d.1 rest))
    (λ d. (text_of_name d.0, tree_select d.1)) (λ d. max 0 (nest_select d.1)) NESTING Nothing
named_parser = both_parser (λ one rest end. tt) name_parser (behind_parser s.Assign (behind_word_parser (codes "select") select_parser))

watching_some : (parts : List ℕ × t.SelectTree) (tree : StatementTree) → spec.watching parts ≡ Some tree → (list_all spec.is_object parts.1.items ≡ true) × (t.watch parts.0 parts.1 ≡ tree)
watching_some parts tree is =
    elim (cases_Bool (list_all spec.is_object parts.1.items)) [
      | inl all ↦ (all, let same = rw all at is in cc)
      | inr some ↦ absurd (let none = rw some at is in cc)
    ]

-- what was read, with a derivation of its select by paths alone
watched : (kinds rest : List Kind) (name : g.Name) (held : g.Select) (inner : g.Paths) (tree : StatementTree) → select_of_paths inner ≡ held → nest_select held ≤ NESTING
    → kinds ≡ spell_name name (k.Symbol s.Assign ∷ spell_select held rest) → t.watch (text_of_name name) (tree_select held) ≡ tree
    → IsStatement (k.Word (codes "watch") ∷ kinds) rest tree
watched kinds rest name held inner tree is deep spelled stands =
    let front : g.Select → List Kind = λ one. spell_name name (k.Symbol s.Assign ∷ spell_select one rest) in
    record {
      by = g.watch name inner;
      deep = let same = ap nest_select is in omega arith;
      spelled = ap (λ (left : List Kind). k.Word (codes "watch") ∷ left) (spelled ∙ ap front (sym is));
      stands = ap (λ (one : g.Select). t.watch (text_of_name name) (tree_select one)) is ∙ stands;
    }

pub watch_sound : (kinds rest : List Kind) (tree : StatementTree) → ◌≡◌ {A = Outcome StatementTree} (spec.watch kinds) (Some (tree, rest)) → IsStatement (k.Word (codes "watch") ∷ kinds) rest tree
unfolding spec.watch
watch_sound kinds rest tree read =
    let more : List ℕ × t.SelectTree → Parse StatementTree = λ parts. found (spec.watching parts) in
    let (parts, mid, first, others) = bind_some (named kinds) more tree rest read in
    let (is, same) = found_some (spec.watching parts) mid rest tree others in
    let (all, stands) = watching_some parts tree is in
    let x = named_parser.sound kinds mid parts first in
    let items : (tree_select x.by.1).items ≡ parts.1.items = ap (λ (p : List ℕ × t.SelectTree). p.1.items) x.stands in
    let objects = objects_are (tree_select x.by.1).items (ap (list_all spec.is_object) items ∙ all) in
    let (inner, paths) = paths_of x.by.1 objects in
    let front : List Kind → List Kind = λ left. spell_name x.by.0 (k.Symbol s.Assign ∷ left) in
    watched kinds rest x.by.0 x.by.1 inner tree paths (let u = x.deep in omega arith)
    (x.spelled ∙ ap (λ (left : List Kind). spell_name x.by.0 (k.Symbol s.Assign ∷ k.Word (codes "select") ∷ spell_query x.by.1 left)) same
    ∙ ap front (sym (spelled_select x.by.1 rest)))
    (ap (λ (p : List ℕ × t.SelectTree). t.watch p.0 p.1) x.stands ∙ stands)

watch-named : (kinds rest : List Kind) (parts : List ℕ × t.SelectTree) → ◌≡◌ {A = Outcome (List ℕ × t.SelectTree)} (named kinds) (Some (parts, rest))
    → list_all spec.is_object parts.1.items ≡ true → ◌≡◌ {A = Outcome StatementTree} (spec.watch kinds) (Some (t.watch parts.0 parts.1, rest))
unfolding spec.watch
watch-named kinds rest parts read all = rw (read, all)

pub watch_complete : (one : g.Name) (inner : g.Paths) → nest_paths inner ≤ NESTING
    → ◌≡◌ {A = Outcome StatementTree} (spec.watch (spell_name one (k.Symbol s.Assign ∷ spell_paths inner []))) (Some (t.watch (text_of_name one) (tree_paths inner), []))
watch_complete one inner deep =
    let query = select_of_paths inner in
    let behind = k.Word (codes "select") ∷ spell_query query [] in
    ap (λ (left : List Kind). spec.watch (spell_name one (k.Symbol s.Assign ∷ left))) (spelled_select query [])
    ∙ watch-named (spell_name one (k.Symbol s.Assign ∷ behind)) [] (text_of_name one, tree_paths inner) (named_parser.complete (one, query) [] (omega arith) refl) (shown_are inner)

pub unwatch_form : IsParserOf spec.unwatch spell_name (λ d. t.unwatch (text_of_name d)) flat NESTING Anything
unfolding spec.unwatch
unwatch_form = mapped_parser t.unwatch name_parser

pub unwatch_sound : (kinds rest : List Kind) (tree : StatementTree) → ◌≡◌ {A = Outcome StatementTree} (spec.unwatch kinds) (Some (tree, rest)) → IsStatement (k.Word (codes "unwatch") ∷ kinds) rest tree
unwatch_sound kinds rest tree read =
    let x = unwatch_form.sound kinds rest tree read in
    record { by = g.unwatch x.by; deep = omega arith; spelled = ap (λ (left : List Kind). k.Word (codes "unwatch") ∷ left) x.spelled; stands = x.stands }

pub show_form : IsParserOf spec.show spell_name (λ d. t.show (text_of_name d)) flat NESTING Anything
unfolding spec.show
show_form = mapped_parser t.show name_parser

pub show_sound : (kinds rest : List Kind) (tree : StatementTree) → ◌≡◌ {A = Outcome StatementTree} (spec.show kinds) (Some (tree, rest)) → IsStatement (k.Word (codes "show") ∷ kinds) rest tree
show_sound kinds rest tree read =
    let x = show_form.sound kinds rest tree read in
    record { by = g.show x.by; deep = omega arith; spelled = ap (λ (left : List Kind). k.Word (codes "show") ∷ left) x.spelled; stands = x.stands }
