-- The parsers of from items, tails, items and selects are sound and complete.
use Rattle.std.proofs.Common.{◌≡◌, ◌≤◌, max, true, false, List, [], ◌∷◌, length, map, codes, Option, Some, None, refl, ap, ◌∙◌, sym, subst, arith, inl, inr}
use Rattle.std.specs.Prelude.{option_map}
use Rattle.std.proofs.lemmas.Bool.{cases_Bool}
use Rattle.lore_base.specs.declared.limits.TheConstants.{NESTING}
use Rattle.lorel_tokens.specs.declared.token_types.Kind.{Kind}
use Rattle.lorel_tokens.specs.declared.token_types.Kind.TheVariants as k
use Rattle.lorel_tokens.specs.declared.token_types.Sign.TheVariants as s
use Rattle.lorel_trees.specs.Trees.{RootedTree, CondTree, ItemTree, FromTree, TailTree, SelectTree}
use Rattle.lorel_trees.specs.Trees as t
use Rattle.lorel_trees.specs.Grammar as g
use Rattle.lorel_trees.specs.Repetitions.{spell_each, nest_each}
use Rattle.lorel_trees.specs.Paths.{spell_name, text_of_name, spell_label, text_of_label, spell_path, tree_path, nest_path}
use Rattle.lorel_trees.specs.Conditions.{spell_cond, tree_cond, nest_cond}
use Rattle.lorel_trees.specs.Selects.{spell_range, tree_range, nest_range, spell_from, spell_where, nest_where, spell_tail, tree_tail, nest_tail, spell_item, tree_item, nest_item, spell_select, tree_select, nest_select}
use Rattle.lorel_terms.specs.Outcomes.{Outcome, next, sees, sees_word}
use Rattle.lorel_terms.specs.Repetitions.{mapped, both, behind_sign, closed_sign, some_of}
use Rattle.lorel_terms.specs.Names.{name, label, sees_name}
use Rattle.lorel_terms.specs.Paths.{rooted}
use Rattle.lorel_terms.specs.Conditions.{condition}
use Rattle.lorel_terms.specs.Selects.{sees_path_of, bare, named, worded, ranged, range, ranges, such_that, tail_of, tail, item, items, select_of, select}
use Rattle.lorel_terms.proofs.OutcomeLaws.{some_parts, bind_some, sees_sign, sees_this_word}
use Rattle.lorel_terms.proofs.NameLaws.{complete_name, complete_label, sound_name, sound_label, longer_name}
use Rattle.lorel_terms.proofs.EndLaws.{EndsPath, EndsCond, ends_cond_at_end}
use Rattle.lorel_terms.proofs.PathCompleteLaws.{complete_path, longer_path}
use Rattle.lorel_terms.proofs.PathSoundLaws.{sound_path}
use Rattle.lorel_terms.proofs.ConditionCompleteLaws.{complete_cond}
use Rattle.lorel_terms.proofs.ConditionSoundLaws.{sound_cond}
use Rattle.lorel_terms.proofs.RepetitionLaws.{sees-sign, sees-word, IsRead, IsParserOf, Anything, Nothing, flat, mapped_parser, behind_parser, closed_parser, both_parser, sign_test, EndsEach, some_of_parser}

-- names, labels, paths and conditions

pub name_parser : IsParserOf name spell_name text_of_name flat NESTING Anything
name_parser = record {
  sound = λ kinds rest text read. let x = sound_name kinds rest text read in record { by = x.by; deep = omega arith; spelled = x.spelled; stands = x.stands };
  complete = λ one rest deep end. complete_name one rest;
}

pub label_parser : IsParserOf label spell_label text_of_label flat NESTING Anything
label_parser = record {
  sound = λ kinds rest text read. let x = sound_label kinds rest text read in record { by = x.by; deep = omega arith; spelled = x.spelled; stands = x.stands };
  complete = λ one rest deep end. complete_label one rest;
}

pub path_parser : IsParserOf (rooted NESTING) spell_path tree_path nest_path NESTING EndsPath
path_parser = record {
  sound = λ kinds rest tree read. let x = sound_path NESTING kinds rest tree read in record { by = x.by; deep = x.deep; spelled = x.spelled; stands = x.stands };
  complete = λ path rest deep end. complete_path NESTING path rest deep end;
}

pub cond_parser : IsParserOf (condition NESTING) spell_cond tree_cond nest_cond NESTING EndsCond
cond_parser = record {
  sound = λ kinds rest tree read. let x = sound_cond NESTING kinds rest tree read in record { by = x.by; deep = x.deep; spelled = x.spelled; stands = x.stands };
  complete = λ one rest deep end. complete_cond NESTING one rest deep end;
}

pub name_seen : (one : g.Name) (rest : List Kind) → sees_name (spell_name one rest) ≡ true
unfolding sees_name
name_seen (g.free text free) rest = rw free

name_no_at : (one : g.Name) (rest : List Kind) → sees s.At (spell_name one rest) ≡ false
unfolding sees
name_no_at (g.free text free) rest = refl

pub ends_path_at_name : (one : g.Name) (rest : List Kind) → EndsPath (spell_name one rest)
ends_path_at_name (g.free text free) rest = record { mark = refl; more = refl }

pub ends_path_at_at : (rest : List Kind) → EndsPath (k.Symbol s.At ∷ rest)
ends_path_at_at rest = record { mark = refl; more = refl }

pub ends_path_at_comma : (rest : List Kind) → EndsPath (k.Symbol s.Comma ∷ rest)
ends_path_at_comma rest = record { mark = refl; more = refl }

-- from items

pub record EndsRange (rest : List Kind) : Type 0 where
  pub path : EndsPath rest
  pub word : sees s.At rest ≡ false
  pub variable : sees_name rest ≡ false

pub ends_range_at_comma : (rest : List Kind) → EndsRange (k.Symbol s.Comma ∷ rest)
unfolding sees sees_name
ends_range_at_comma rest = record { path = record { mark = refl; more = refl }; word = refl; variable = refl }

names_parser : (path : RootedTree) → IsParserOf (mapped (worded path) (both name name)) (λ (d : g.Name × g.Name) rest. spell_name d.0 (spell_name d.1 rest))
    (λ d. worded path (text_of_name d.0, text_of_name d.1)) (λ d. max 0 0) NESTING Anything
names_parser path = mapped_parser (worded path) (both_parser (λ one rest end. tt) name_parser name_parser)

ranged_sound : (kinds mid rest : List Kind) (path : RootedTree) (tree : FromTree) → IsRead spell_path tree_path nest_path NESTING kinds mid path
    → ◌≡◌ {A = Outcome FromTree} (ranged path mid) (Some (tree, rest)) → IsRead spell_range tree_range nest_range NESTING kinds rest tree
unfolding ranged
ranged_sound kinds mid rest path tree x read =
    elim (cases_Bool (sees s.At mid)) [
      | inl seen ↦
          let y = (names_parser path).sound (next mid) rest tree (rw seen at read) in
          record {
            by = g.word_variable x.by y.by.0 y.by.1;
            deep = x.deep;
            spelled = x.spelled ∙ ap (spell_path x.by) (sees_sign s.At mid seen ∙ ap (λ (left : List Kind). k.Symbol s.At ∷ left) y.spelled);
            stands = ap (λ (p : RootedTree). worded p (text_of_name y.by.0, text_of_name y.by.1)) x.stands ∙ y.stands;
          }
      | inr other ↦
          let left = rw other at read in
          elim (cases_Bool (sees_name mid)) [
            | inl seen ↦
                let y = (mapped_parser (named path) name_parser).sound mid rest tree (rw seen at left) in
                record {
                  by = g.variable x.by y.by;
                  deep = x.deep;
                  spelled = x.spelled ∙ ap (spell_path x.by) y.spelled;
                  stands = ap (λ (p : RootedTree). named p (text_of_name y.by)) x.stands ∙ y.stands;
                }
            | inr neither ↦
                let parts = some_parts (rw neither at left) in
                record {
                  by = g.bare x.by;
                  deep = x.deep;
                  spelled = x.spelled ∙ ap (spell_path x.by) parts.1;
                  stands = ap bare x.stands ∙ parts.0;
                }
          ]
    ]

range_sound : (kinds rest : List Kind) (tree : FromTree) → ◌≡◌ {A = Outcome FromTree} (range kinds) (Some (tree, rest)) → IsRead spell_range tree_range nest_range NESTING kinds rest tree
unfolding range
range_sound kinds rest tree read =
    let (path, mid, first, others) = bind_some (rooted NESTING kinds) ranged tree rest read in
    ranged_sound kinds mid rest path tree (path_parser.sound kinds mid path first) others

range-path : (kinds mid : List Kind) (path : RootedTree) → ◌≡◌ {A = Outcome RootedTree} (rooted NESTING kinds) (Some (path, mid)) → range kinds ≡ ranged path mid
unfolding range
range-path kinds mid path read = rw read

ranged-bare : (path : RootedTree) (rest : List Kind) → EndsRange rest → ◌≡◌ {A = Outcome FromTree} (ranged path rest) (Some (bare path, rest))
unfolding ranged
ranged-bare path rest end = rw (end.word, end.variable)

ranged-named : (path : RootedTree) (one : g.Name) (rest : List Kind) → ◌≡◌ {A = Outcome FromTree} (ranged path (spell_name one rest)) (Some (named path (text_of_name one), rest))
unfolding ranged
ranged-named path one rest = rw (name_no_at one rest, name_seen one rest, complete_name one rest)

ranged-worded : (path : RootedTree) (bound one : g.Name) (rest : List Kind)
    → ◌≡◌ {A = Outcome FromTree} (ranged path (k.Symbol s.At ∷ spell_name bound (spell_name one rest))) (Some (worded path (text_of_name bound, text_of_name one), rest))
unfolding ranged
ranged-worded path bound one rest = rw (sees-sign s.At (spell_name bound (spell_name one rest)), complete_name bound (spell_name one rest), complete_name one rest)

range_complete : (one : g.Range) (rest : List Kind) → nest_range one ≤ NESTING → EndsRange rest → ◌≡◌ {A = Outcome FromTree} (range (spell_range one rest)) (Some (tree_range one, rest))
range_complete (g.bare path) rest deep end = range-path (spell_path path rest) rest (tree_path path) (complete_path NESTING path rest deep end.path) ∙ ranged-bare (tree_path path) rest end
range_complete (g.variable path one) rest deep end =
    let mid = spell_name one rest in
    range-path (spell_path path mid) mid (tree_path path) (complete_path NESTING path mid deep (ends_path_at_name one rest)) ∙ ranged-named (tree_path path) one rest
range_complete (g.word_variable path bound one) rest deep end =
    let left = spell_name bound (spell_name one rest) in
    let mid = k.Symbol s.At ∷ left in
    range-path (spell_path path mid) mid (tree_path path) (complete_path NESTING path mid deep (ends_path_at_at left)) ∙ ranged-worded (tree_path path) bound one rest

pub range_parser : IsParserOf range spell_range tree_range nest_range NESTING EndsRange
range_parser = record {
  sound = λ kinds rest tree read. range_sound kinds rest tree read;
  complete = λ one rest deep end. range_complete one rest deep end;
}

pub range_longer : (one : g.Range) (rest : List Kind) → length rest ≤ length (spell_range one rest)
range_longer (g.bare path) rest = omega (arith, longer_path path rest)
range_longer (g.variable path one) rest = omega (arith, longer_path path (spell_name one rest), longer_name one rest)
range_longer (g.word_variable path bound one) rest =
    omega (arith, longer_path path (k.Symbol s.At ∷ spell_name bound (spell_name one rest)), longer_name bound (spell_name one rest), longer_name one rest)

some_ranges_parser : IsParserOf (some_of (sees s.Comma) range) (λ (d : g.Range × List g.Range) rest. spell_range d.0 (spell_each (k.Symbol s.Comma) spell_range d.1 rest))
    (λ d. tree_range d.0 ∷ map tree_range d.1) (λ d. max (nest_range d.0) (nest_each nest_range d.1)) NESTING (EndsEach (sees s.Comma) EndsRange)
some_ranges_parser = some_of_parser (sign_test s.Comma) range_longer ends_range_at_comma range_parser

-- no token that goes on with from items
pub record EndsRanges (rest : List Kind) : Type 0 where
  pub ranges : EndsEach (sees s.Comma) EndsRange rest
  pub none : sees_word (codes "from") rest ≡ false

ranges_sound : (kinds rest : List Kind) (found : List FromTree) → ◌≡◌ {A = Outcome (List FromTree)} (ranges kinds) (Some (found, rest))
    → IsRead spell_from (map tree_range) (nest_each nest_range) NESTING kinds rest found
unfolding ranges
ranges_sound kinds rest found read =
    elim (cases_Bool (sees_word (codes "from") kinds)) [
      | inl seen ↦
          let x = some_ranges_parser.sound (next kinds) rest found (rw seen at read) in
          record {
            by = x.by.0 ∷ x.by.1;
            deep = x.deep;
            spelled = sees_this_word (codes "from") kinds seen ∙ ap (λ (left : List Kind). k.Word (codes "from") ∷ left) x.spelled;
            stands = x.stands;
          }
      | inr none ↦
          let parts = some_parts (rw none at read) in
          record { by = []; deep = omega arith; spelled = parts.1; stands = parts.0 }
    ]

pub ranges-some : (kinds : List Kind) → ranges (k.Word (codes "from") ∷ kinds) ≡ some_of (sees s.Comma) range kinds
unfolding ranges
ranges-some kinds = rw (sees-word (codes "from") kinds)

ranges_complete : (all : List g.Range) (rest : List Kind) → nest_each nest_range all ≤ NESTING → EndsRanges rest
    → ◌≡◌ {A = Outcome (List FromTree)} (ranges (spell_from all rest)) (Some (map tree_range all, rest))
unfolding ranges
ranges_complete [] rest deep end = rw end.none
ranges_complete (first ∷ others) rest deep end =
    let left = spell_range first (spell_each (k.Symbol s.Comma) spell_range others rest) in
    ranges-some left ∙ some_ranges_parser.complete (first, others) rest deep end.ranges

pub ranges_parser : IsParserOf ranges spell_from (map tree_range) (nest_each nest_range) NESTING EndsRanges
ranges_parser = record {
  sound = λ kinds rest found read. ranges_sound kinds rest found read;
  complete = λ all rest deep end. ranges_complete all rest deep end;
}

-- conditions

such_that_sound : (kinds rest : List Kind) (found : Option CondTree) → ◌≡◌ {A = Outcome (Option CondTree)} (such_that kinds) (Some (found, rest))
    → IsRead spell_where (option_map tree_cond) nest_where NESTING kinds rest found
unfolding such_that
such_that_sound kinds rest found read =
    elim (cases_Bool (sees_word (codes "where") kinds)) [
      | inl seen ↦
          let x = (mapped_parser {B = Option CondTree} (λ tree. Some tree) cond_parser).sound (next kinds) rest found (rw seen at read) in
          record {
            by = Some x.by;
            deep = x.deep;
            spelled = sees_this_word (codes "where") kinds seen ∙ ap (λ (left : List Kind). k.Word (codes "where") ∷ left) x.spelled;
            stands = x.stands;
          }
      | inr none ↦
          let parts = some_parts (rw none at read) in
          record { by = None; deep = omega arith; spelled = parts.1; stands = parts.0 }
    ]

such_that_complete : (one : Option g.Cond) → nest_where one ≤ NESTING → ◌≡◌ {A = Outcome (Option CondTree)} (such_that (spell_where one [])) (Some (option_map tree_cond one, []))
unfolding such_that sees_word
such_that_complete None deep = refl
such_that_complete (Some one) deep = rw (complete_cond NESTING one [] deep ends_cond_at_end)

such_that_parser : IsParserOf such_that spell_where (option_map tree_cond) nest_where NESTING Nothing
such_that_parser = record {
  sound = λ kinds rest found read. such_that_sound kinds rest found read;
  complete = λ one rest deep end.
      subst (λ (left : List Kind). ◌≡◌ {A = Outcome (Option CondTree)} (such_that (spell_where one left)) (Some (option_map tree_cond one, left))) (sym end) (such_that_complete one deep);
}

-- tails

ends_ranges_at_where : (one : Option g.Cond) → EndsRanges (spell_where one [])
unfolding sees sees_name sees_word
ends_ranges_at_where None =
    record { ranges = record { other = refl; ends = record { path = record { mark = refl; more = refl }; word = refl; variable = refl } }; none = refl }
ends_ranges_at_where (Some one) =
    record { ranges = record { other = refl; ends = record { path = record { mark = refl; more = refl }; word = refl; variable = refl } }; none = refl }

pub ends_ranges : (one : Option g.Cond) (rest : List Kind) → Nothing rest → EndsRanges (spell_where one rest)
ends_ranges one rest end = subst (λ (left : List Kind). EndsRanges (spell_where one left)) (sym end) (ends_ranges_at_where one)

tail_parts : IsParserOf (mapped tail_of (both ranges such_that)) (λ (d : List g.Range × Option g.Cond) rest. spell_from d.0 (spell_where d.1 rest))
    (λ d. tail_of (map tree_range d.0, option_map tree_cond d.1)) (λ d. max (nest_each nest_range d.0) (nest_where d.1)) NESTING Nothing
tail_parts = mapped_parser tail_of (both_parser ends_ranges ranges_parser such_that_parser)

tail_complete : (one : g.Tail) (rest : List Kind) → nest_tail one ≤ NESTING → Nothing rest → ◌≡◌ {A = Outcome TailTree} (tail (spell_tail one rest)) (Some (tree_tail one, rest))
unfolding tail
tail_complete (g.tail all one) rest deep end = tail_parts.complete (all, one) rest deep end

tail_sound : (kinds rest : List Kind) (tree : TailTree) → ◌≡◌ {A = Outcome TailTree} (tail kinds) (Some (tree, rest)) → IsRead spell_tail tree_tail nest_tail NESTING kinds rest tree
unfolding tail
tail_sound kinds rest tree read =
    let x = tail_parts.sound kinds rest tree read in
    record { by = g.tail x.by.0 x.by.1; deep = x.deep; spelled = x.spelled; stands = x.stands }

pub tail_parser : IsParserOf tail spell_tail tree_tail nest_tail NESTING Nothing
tail_parser = record {
  sound = λ kinds rest tree read. tail_sound kinds rest tree read;
  complete = λ one rest deep end. tail_complete one rest deep end;
}

-- what ends before a tail
pub record EndsAtTail (rest : List Kind) : Type 0 where
  pub path : EndsPath rest
  pub other : sees s.Comma rest ≡ false

ends_before_tail : (one : g.Tail) → EndsAtTail (spell_tail one [])
unfolding sees
ends_before_tail (g.tail [] None) = record { path = record { mark = refl; more = refl }; other = refl }
ends_before_tail (g.tail [] (Some one)) = record { path = record { mark = refl; more = refl }; other = refl }
ends_before_tail (g.tail (first ∷ others) one) = record { path = record { mark = refl; more = refl }; other = refl }

pub ends_at_tail : (one : g.Tail) (rest : List Kind) → Nothing rest → EndsAtTail (spell_tail one rest)
ends_at_tail one rest end = subst (λ (left : List Kind). EndsAtTail (spell_tail one left)) (sym end) (ends_before_tail one)

-- items

item_path_of : (rest : List Kind) → sees_path_of (k.PathOf ∷ rest) ≡ true
unfolding sees_path_of
item_path_of rest = refl

pub item_path : (path : g.Path) (rest : List Kind) → sees_path_of (spell_path path rest) ≡ false
unfolding sees_path_of
item_path (g.rooted (g.free text free) parts) rest = refl

path_of_some : (kinds : List Kind) → sees_path_of kinds ≡ true → kinds ≡ k.PathOf ∷ next kinds
unfolding sees_path_of
path_of_some [] seen = absurd (cc)
path_of_some (k.PathOf ∷ kinds) seen = refl
path_of_some (_ ∷ kinds) seen = absurd (cc)

path_of_parser : IsParserOf (mapped t.path_of (behind_sign s.LeftParen (closed_sign s.RightParen name))) (λ d rest. k.Symbol s.LeftParen ∷ spell_name d (k.Symbol s.RightParen ∷ rest))
    (λ d. t.path_of (text_of_name d)) flat NESTING Anything
path_of_parser = mapped_parser t.path_of (behind_parser s.LeftParen (closed_parser s.RightParen (λ rest. tt) name_parser))

item_sound : (kinds rest : List Kind) (tree : ItemTree) → ◌≡◌ {A = Outcome ItemTree} (item kinds) (Some (tree, rest)) → IsRead spell_item tree_item nest_item NESTING kinds rest tree
unfolding item
item_sound kinds rest tree read =
    elim (cases_Bool (sees_path_of kinds)) [
      | inl seen ↦
          let x = path_of_parser.sound (next kinds) rest tree (rw seen at read) in
          record {
            by = g.path_of x.by;
            deep = omega arith;
            spelled = path_of_some kinds seen ∙ ap (λ (left : List Kind). k.PathOf ∷ left) x.spelled;
            stands = x.stands;
          }
      | inr other ↦
          let x = (mapped_parser t.object path_parser).sound kinds rest tree (rw other at read) in
          record { by = g.object x.by; deep = x.deep; spelled = x.spelled; stands = x.stands }
    ]

item-path_of : (kinds : List Kind) → item (k.PathOf ∷ kinds) ≡ mapped t.path_of (behind_sign s.LeftParen (closed_sign s.RightParen name)) kinds
unfolding item
item-path_of kinds = rw (item_path_of kinds)

item-object : (kinds rest : List Kind) (tree : RootedTree) → sees_path_of kinds ≡ false → ◌≡◌ {A = Outcome RootedTree} (rooted NESTING kinds) (Some (tree, rest))
    → ◌≡◌ {A = Outcome ItemTree} (item kinds) (Some (t.object tree, rest))
unfolding item
item-object kinds rest tree other read = rw (other, read)

item_complete : (one : g.Item) (rest : List Kind) → nest_item one ≤ NESTING → EndsPath rest → ◌≡◌ {A = Outcome ItemTree} (item (spell_item one rest)) (Some (tree_item one, rest))
item_complete (g.object path) rest deep end = item-object (spell_path path rest) rest (tree_path path) (item_path path rest) (complete_path NESTING path rest deep end)
item_complete (g.path_of one) rest deep end =
    item-path_of (k.Symbol s.LeftParen ∷ spell_name one (k.Symbol s.RightParen ∷ rest)) ∙ path_of_parser.complete one rest deep tt

pub item_parser : IsParserOf item spell_item tree_item nest_item NESTING EndsPath
item_parser = record {
  sound = λ kinds rest tree read. item_sound kinds rest tree read;
  complete = λ one rest deep end. item_complete one rest deep end;
}

pub item_longer : (one : g.Item) (rest : List Kind) → length rest ≤ length (spell_item one rest)
item_longer (g.object path) rest = omega (arith, longer_path path rest)
item_longer (g.path_of one) rest = omega (arith, longer_name one (k.Symbol s.RightParen ∷ rest))

pub items_parser : IsParserOf (some_of (sees s.Comma) item) (λ (d : g.Item × List g.Item) rest. spell_item d.0 (spell_each (k.Symbol s.Comma) spell_item d.1 rest))
    (λ d. tree_item d.0 ∷ map tree_item d.1) (λ d. max (nest_item d.0) (nest_each nest_item d.1)) NESTING (EndsEach (sees s.Comma) EndsPath)
items_parser = some_of_parser (sign_test s.Comma) item_longer ends_path_at_comma item_parser

-- selects

-- the tokens behind `select`
abbrev pub spell_query : g.Select → List Kind → List Kind
spell_query (g.query first others end) rest = spell_item first (spell_each (k.Symbol s.Comma) spell_item others (spell_tail end rest))

pub spelled_select : (one : g.Select) (rest : List Kind) → spell_select one rest ≡ k.Word (codes "select") ∷ spell_query one rest
spelled_select (g.query first others end) rest = refl

pub ends_items : (one : g.Tail) (rest : List Kind) → Nothing rest → EndsEach (sees s.Comma) EndsPath (spell_tail one rest)
ends_items one rest end = let ended = ends_at_tail one rest end in record { other = ended.other; ends = ended.path }

select_parts : IsParserOf (mapped select_of (both (some_of (sees s.Comma) item) tail))
    (λ (d : (g.Item × List g.Item) × g.Tail) rest. spell_item d.0.0 (spell_each (k.Symbol s.Comma) spell_item d.0.1 (spell_tail d.1 rest)))
    (λ d. select_of (tree_item d.0.0 ∷ map tree_item d.0.1, tree_tail d.1)) (λ d. max (max (nest_item d.0.0) (nest_each nest_item d.0.1)) (nest_tail d.1)) NESTING Nothing
select_parts = mapped_parser select_of (both_parser ends_items items_parser tail_parser)

select_complete : (one : g.Select) (rest : List Kind) → nest_select one ≤ NESTING → Nothing rest → ◌≡◌ {A = Outcome SelectTree} (select (spell_query one rest)) (Some (tree_select one, rest))
unfolding select items
select_complete (g.query first others end) rest deep ends = select_parts.complete ((first, others), end) rest deep ends

select_sound : (kinds rest : List Kind) (tree : SelectTree) → ◌≡◌ {A = Outcome SelectTree} (select kinds) (Some (tree, rest)) → IsRead spell_query tree_select nest_select NESTING kinds rest tree
unfolding select items
select_sound kinds rest tree read =
    let x = select_parts.sound kinds rest tree read in
    record { by = g.query x.by.0.0 x.by.0.1 x.by.1; deep = x.deep; spelled = x.spelled; stands = x.stands }

pub select_parser : IsParserOf select spell_query tree_select nest_select NESTING Nothing
select_parser = record {
  sound = λ kinds rest tree read. select_sound kinds rest tree read;
  complete = λ one rest deep end. select_complete one rest deep end;
}
