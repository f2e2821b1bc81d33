-- No two derivations of statements spell the same tokens and differ in their tree or in how deep they nest.
use Rattle.std.proofs.Common.{◌≡◌, ℕ, eqb, ℤ, Bool, true, false, if◌then◌else◌, List, [], ◌∷◌, map, codes, Option, Some, None, option_map, refl, ap, sym, ◌∙◌, arith}
use Rattle.std.specs.Str.{bytes_eq}
use Rattle.std.proofs.lemmas.Bool.{eqb-false}
use Rattle.lore_base.specs.Names.{is_reserved}
use Rattle.lore_base.specs.Walks.{oid_of}
use Rattle.lore_base.specs.Comparisons.{flag_text}
use Rattle.lorel_trees.proofs.CopyLaws.{copied_same}
use Rattle.lorel_trees.specs.Types.{Kind, Oid, Value, Whole, Chars, Flag, Complex, Mode, Auto, Top, Bottom, Guided}
use Rattle.lorel_tokens.specs.declared.token_types.Kind.TheVariants as k
use Rattle.lorel_tokens.specs.declared.token_types.Sign.TheVariants as s
use Rattle.lorel_trees.specs.Trees as t
use Rattle.lorel_trees.specs.Grammar as g
use Rattle.lorel_trees.specs.Repetitions.{spell_each, nest_each}
use Rattle.lorel_trees.specs.Paths.{spell_label, text_of_label, spell_path}
use Rattle.lorel_trees.specs.Literals.{spell_value, spell_literal}
use Rattle.lorel_trees.specs.Conditions.{tree_cond}
use Rattle.lorel_trees.specs.Selects.{spell_range, tree_range, nest_range, spell_from, spell_where, nest_where, spell_tail, tree_tail, nest_tail, spell_item, tree_item, nest_item, spell_select, tree_select, nest_select, select_of_paths}
use Rattle.lorel_trees.specs.Statements.{spell_mode, spell_oid, spell_dump_name, entry_of_name, spell_dump_object, spell_dump_edge, entry_of_edge, spell_dump_labels, spell_dump_names, spell_dump_objects, spell_dump_edges, spell_dump_text, tree_dump_text, switch_text, spell_statement, tree_statement, nest_statement}
use Rattle.grammar_laws.specs.Laws.{AreDetermined, RefusesDeeper}
use Rattle.lorel_trees.proofs.TargetLaws.{longer_path, is_joined}
use Rattle.lorel_trees.proofs.AtomLaws.{atom_determined}
use Rattle.grammar_laws.proofs.UniquePathLaws.{Alike, first, goes_on, told_apart, name_unique, label_unique, each_end, each_unique, path_unique, target_unique, atom_no_path, value_form, literal_unique}
use Rattle.grammar_laws.proofs.UniqueCondLaws.{behind_first, is_word, EndsCond, cond_unique}

abbrev is_comma : Kind → Bool
is_comma (k.Symbol s.Comma) = true
is_comma _ = false

abbrev is_dot : Kind → Bool
is_dot (k.Symbol s.Dot) = true
is_dot _ = false

abbrev is_at : Kind → Bool
is_at (k.Symbol s.At) = true
is_at _ = false

-- a word that may be a variable
abbrev is_free : Kind → Bool
is_free (k.Word text) = if is_reserved text then false else true
is_free _ = false

free_is : (text : List ℕ) → is_reserved text ≡ false → is_free (k.Word text) ≡ true
free_is text unreserved = rw (unreserved)

-- ranges
record EndsRange (rest : List Kind) : Type 0 where
  pub path : first goes_on rest ≡ false
  pub word : first is_free rest ≡ false
  pub bound : first is_at rest ≡ false

range_unique : (one other : g.Range) (rest behind : List Kind) → EndsRange rest → EndsRange behind → spell_range one rest ≡ spell_range other behind
    → Alike tree_range nest_range one other rest behind
range_unique (g.bare path) (g.bare more) rest behind end stop same =
    let found = path_unique path more rest behind end.path stop.path same in
    record { trees = cc (found.trees); nests = found.nests; rests = found.rests }
range_unique (g.variable path (g.free text unreserved)) (g.variable more (g.free other free)) rest behind end stop same =
    let found = path_unique path more (k.Word text ∷ rest) (k.Word other ∷ behind) refl refl same in
    let tails = found.rests in
    record { trees = cc (found.trees); nests = found.nests; rests = cc }
range_unique (g.word_variable path (g.free word kept) (g.free text unreserved)) (g.word_variable more (g.free bound held) (g.free other free)) rest behind end stop same =
    let found = path_unique path more (k.Symbol s.At ∷ k.Word word ∷ k.Word text ∷ rest) (k.Symbol s.At ∷ k.Word bound ∷ k.Word other ∷ behind) refl refl same in
    let tails = found.rests in
    record { trees = cc (found.trees); nests = found.nests; rests = cc }
range_unique (g.bare path) (g.variable more (g.free other free)) rest behind end stop same =
    absurd (told_apart is_free _ _ (path_unique path more rest (k.Word other ∷ behind) end.path refl same).rests end.word (free_is other free))
range_unique (g.variable path (g.free text unreserved)) (g.bare more) rest behind end stop same =
    absurd (told_apart is_free _ _ (sym (path_unique path more (k.Word text ∷ rest) behind refl stop.path same).rests) stop.word (free_is text unreserved))
range_unique (g.bare path) (g.word_variable more (g.free bound held) (g.free other free)) rest behind end stop same =
    absurd (told_apart is_at _ _ (path_unique path more rest (k.Symbol s.At ∷ k.Word bound ∷ k.Word other ∷ behind) end.path refl same).rests end.bound refl)
range_unique (g.word_variable path (g.free word kept) (g.free text unreserved)) (g.bare more) rest behind end stop same =
    absurd (told_apart is_at _ _ (sym (path_unique path more (k.Symbol s.At ∷ k.Word word ∷ k.Word text ∷ rest) behind refl stop.path same).rests) stop.bound refl)
range_unique (g.variable path (g.free text unreserved)) (g.word_variable more (g.free bound held) (g.free other free)) rest behind end stop same =
    absurd (let tails = (path_unique path more (k.Word text ∷ rest) (k.Symbol s.At ∷ k.Word bound ∷ k.Word other ∷ behind) refl refl same).rests in cc)
range_unique (g.word_variable path (g.free word kept) (g.free text unreserved)) (g.variable more (g.free other free)) rest behind end stop same =
    absurd (let tails = (path_unique path more (k.Symbol s.At ∷ k.Word word ∷ k.Word text ∷ rest) (k.Word other ∷ behind) refl refl same).rests in cc)

-- tails, which end a statement
record EndsFrom (rest : List Kind) : Type 0 where
  pub range : EndsRange rest
  pub comma : first is_comma rest ≡ false
  pub word : first (is_word (codes "from")) rest ≡ false

where_ends : (cond : Option g.Cond) → EndsFrom (spell_where cond [])
where_ends None = record { range = record { path = refl; word = refl; bound = refl }; comma = refl; word = refl }
where_ends (Some cond) = record { range = record { path = refl; word = refl; bound = refl }; comma = refl; word = refl }

comma_range : (kinds : List Kind) → EndsRange (k.Symbol s.Comma ∷ kinds)
comma_range kinds = record { path = refl; word = refl; bound = refl }

from_unique : (ranges more : List g.Range) (rest behind : List Kind) → EndsFrom rest → EndsFrom behind → spell_from ranges rest ≡ spell_from more behind
    → Alike (map tree_range) (nest_each nest_range) ranges more rest behind
from_unique [] [] rest behind end stop same = record { trees = refl; nests = refl; rests = same }
from_unique [] (other ∷ more) rest behind end stop same = absurd (told_apart (is_word (codes "from")) _ _ same end.word refl)
from_unique (one ∷ others) [] rest behind end stop same = absurd (told_apart (is_word (codes "from")) _ _ (sym same) stop.word refl)
from_unique (one ∷ others) (other ∷ more) rest behind end stop same =
    let head = range_unique one other _ _ (each_end (k.Symbol s.Comma) spell_range EndsRange comma_range others rest end.range)
    (each_end (k.Symbol s.Comma) spell_range EndsRange comma_range more behind stop.range) (ap behind_first same) in
    let tail = each_unique (k.Symbol s.Comma) is_comma spell_range tree_range nest_range EndsRange refl comma_range range_unique others more rest behind
    end.range stop.range end.comma stop.comma head.rests in
    record { trees = cc (head.trees, tail.trees); nests = cc (head.nests, tail.nests); rests = tail.rests }

at_end : EndsCond []
at_end = record { path = refl; conj = refl; disj = refl }

where_unique : (cond other : Option g.Cond) → spell_where cond [] ≡ spell_where other [] → (option_map tree_cond cond ≡ option_map tree_cond other) × (nest_where cond ≡ nest_where other)
where_unique None None same = (refl, refl)
where_unique None (Some other) same = absurd (cc)
where_unique (Some cond) None same = absurd (cc)
where_unique (Some cond) (Some other) same =
    let found = cond_unique cond other [] [] at_end at_end (ap behind_first same) in
    (ap (λ tree. Some tree) found.trees, found.nests)

-- two derivations of what ends a statement have one tree and nest alike
abbrev Ends : {D T : Type 0} → (D → T) → (D → ℕ) → D → D → Type 0
Ends tree nest one other = (tree one ≡ tree other) × (nest one ≡ nest other)

tail_unique : (one other : g.Tail) → spell_tail one [] ≡ spell_tail other [] → Ends tree_tail nest_tail one other
tail_unique (g.tail ranges cond) (g.tail more other) same =
    let head = from_unique ranges more _ _ (where_ends cond) (where_ends other) same in
    let last = where_unique cond other head.rests in
    (cc (head.trees, last.0), cc (head.nests, last.1))

tail_path : (end : g.Tail) → first goes_on (spell_tail end []) ≡ false
tail_path (g.tail [] None) = refl
tail_path (g.tail [] (Some cond)) = refl
tail_path (g.tail (one ∷ others) cond) = refl

tail_comma : (end : g.Tail) → first is_comma (spell_tail end []) ≡ false
tail_comma (g.tail [] None) = refl
tail_comma (g.tail [] (Some cond)) = refl
tail_comma (g.tail (one ∷ others) cond) = refl

tail_value : (end : g.Tail) → value_form (spell_tail end []) ≡ 0
tail_value (g.tail [] None) = refl
tail_value (g.tail [] (Some cond)) = refl
tail_value (g.tail (one ∷ others) cond) = refl

-- selects
abbrev EndsItem : List Kind → Type 0
EndsItem rest = first goes_on rest ≡ false

item_unique : (one other : g.Item) (rest behind : List Kind) → EndsItem rest → EndsItem behind → spell_item one rest ≡ spell_item other behind
    → Alike tree_item nest_item one other rest behind
item_unique (g.object path) (g.object other) rest behind end stop same =
    let found = path_unique path other rest behind end stop same in
    record { trees = ap t.object found.trees; nests = found.nests; rests = found.rests }
item_unique (g.path_of (g.free text unreserved)) (g.path_of (g.free other free)) rest behind end stop same = record { trees = cc; nests = refl; rests = cc }
item_unique (g.object (g.rooted (g.free text unreserved) parts)) (g.path_of name) rest behind end stop same = absurd (cc)
item_unique (g.path_of name) (g.object (g.rooted (g.free text unreserved) parts)) rest behind end stop same = absurd (cc)

select_unique : (one other : g.Select) → spell_select one [] ≡ spell_select other [] → Ends tree_select nest_select one other
select_unique (g.query one others end) (g.query other more stop) same =
    let head = item_unique one other _ _ (each_end (k.Symbol s.Comma) spell_item EndsItem (λ kinds. refl) others (spell_tail end []) (tail_path end))
    (each_end (k.Symbol s.Comma) spell_item EndsItem (λ kinds. refl) more (spell_tail stop []) (tail_path stop)) (ap behind_first same) in
    let items = each_unique (k.Symbol s.Comma) is_comma spell_item tree_item nest_item EndsItem refl (λ kinds. refl) item_unique others more _ _
    (tail_path end) (tail_path stop) (tail_comma end) (tail_comma stop) head.rests in
    let last = tail_unique end stop items.rests in
    (cc (head.trees, items.trees, last.0), cc (head.nests, items.nests, last.1))

-- dump texts
abbrev mode_word : List ℕ → Mode
mode_word text =
    if bytes_eq text (codes "auto") then Auto
    else (if bytes_eq text (codes "top") then Top
    else (if bytes_eq text (codes "bottom") then Bottom
    else Guided))

abbrev mode_of : List Kind → Mode
mode_of (k.Word text ∷ kinds) = mode_word text
mode_of _ = Auto

mode_read : (mode : Mode) (rest : List Kind) → mode_of (spell_mode mode rest) ≡ mode
mode_read Auto rest = refl
mode_read Top rest = refl
mode_read Bottom rest = refl
mode_read Guided rest = refl

mode_behind : (mode : Mode) (rest : List Kind) → behind_first (spell_mode mode rest) ≡ rest
mode_behind Auto rest = refl
mode_behind Top rest = refl
mode_behind Bottom rest = refl
mode_behind Guided rest = refl

mode_unique : (mode other : Mode) (rest behind : List Kind) → spell_mode mode rest ≡ spell_mode other behind → (mode ≡ other) × (rest ≡ behind)
mode_unique mode other rest behind same =
    (sym (mode_read mode rest) ∙ ap mode_of same ∙ mode_read other behind, sym (mode_behind mode rest) ∙ ap behind_first same ∙ mode_behind other behind)

value_unique : (value other : Value) (rest behind : List Kind) → spell_value value rest ≡ spell_value other behind → (value ≡ other) × (rest ≡ behind)
value_unique (Whole number) (Whole other) rest behind same = (cc, cc)
value_unique (Chars text) (Chars other) rest behind same = (cc, cc)
value_unique (Flag holds) (Flag other) rest behind same =
    let head : k.Word (flag_text holds) ≡ k.Word (flag_text other) = cc in
    let atoms = atom_determined (g.flag holds) (g.flag other) head in
    (cc, cc)
value_unique Complex Complex rest behind same = (refl, cc)
value_unique _ _ rest behind same = absurd (cc)

oid_unique : (oid other : Oid) (rest behind : List Kind) → spell_oid oid rest ≡ spell_oid other behind → (oid ≡ other) × (rest ≡ behind)
oid_unique oid other rest behind same = let numbers : oid.0 ≡ other.0 = cc in (ap oid_of numbers, ap behind_first same)

-- nothing nests in a dump text
abbrev flat : {D : Type 0} → D → ℕ
flat one = 0

abbrev Anything : List Kind → Type 0
Anything rest = Unit {0}

dump_label_unique : (one other : g.Label) (rest behind : List Kind) → Anything rest → Anything behind → spell_label one rest ≡ spell_label other behind
    → Alike text_of_label flat one other rest behind
dump_label_unique one other rest behind end stop same = let found = label_unique one other rest behind same in record { trees = found.0; nests = refl; rests = found.1 }

dump_name_unique : (one other : g.Name × Oid) (rest behind : List Kind) → Anything rest → Anything behind → spell_dump_name one rest ≡ spell_dump_name other behind
    → Alike entry_of_name flat one other rest behind
dump_name_unique (name, oid) (other, more) rest behind end stop same =
    let named = name_unique name other _ _ same in
    let bound = oid_unique oid more rest behind named.1 in
    record { trees = cc (named.0, bound.0); nests = refl; rests = bound.1 }

dump_object_unique : (one other : Oid × Value) (rest behind : List Kind) → Anything rest → Anything behind → spell_dump_object one rest ≡ spell_dump_object other behind
    → Alike (λ entry. entry) flat one other rest behind
dump_object_unique (oid, value) (more, other) rest behind end stop same =
    let numbered = oid_unique oid more _ _ same in
    let valued = value_unique value other rest behind numbered.1 in
    record { trees = cc (numbered.0, valued.0); nests = refl; rests = valued.1 }

dump_edge_unique : (one other : Oid × g.Label × Oid) (rest behind : List Kind) → Anything rest → Anything behind → spell_dump_edge one rest ≡ spell_dump_edge other behind
    → Alike entry_of_edge flat one other rest behind
dump_edge_unique (parent, label, child) (from, name, to) rest behind end stop same =
    let parents = oid_unique parent from _ _ same in
    let named = label_unique label name _ _ parents.1 in
    let children = oid_unique child to rest behind named.1 in
    record { trees = cc (parents.0, named.0, children.0); nests = refl; rests = children.1 }

edges_end : (word : List ℕ) → bytes_eq (codes "edge") word ≡ false → bytes_eq (codes "end") word ≡ false → (edges : List (Oid × g.Label × Oid))
    → first (is_word word) (spell_dump_edges edges (k.Word (codes "end") ∷ [])) ≡ false
edges_end word other last [] = last
edges_end word other last (one ∷ others) = other

objects_end : (word : List ℕ) → bytes_eq (codes "object") word ≡ false → bytes_eq (codes "edge") word ≡ false → bytes_eq (codes "end") word ≡ false
    → (objects : List (Oid × Value)) (edges : List (Oid × g.Label × Oid)) → first (is_word word) (spell_dump_objects objects (spell_dump_edges edges (k.Word (codes "end") ∷ []))) ≡ false
objects_end word near other last [] edges = edges_end word other last edges
objects_end word near other last (one ∷ others) edges = near

names_end : (names : List (g.Name × Oid)) (objects : List (Oid × Value)) (edges : List (Oid × g.Label × Oid))
    → first (is_word (codes "label")) (spell_dump_names names (spell_dump_objects objects (spell_dump_edges edges (k.Word (codes "end") ∷ [])))) ≡ false
names_end [] objects edges = objects_end (codes "label") refl refl refl objects edges
names_end (one ∷ others) objects edges = refl

dump_unique : (one other : g.DumpText) → spell_dump_text one [] ≡ spell_dump_text other [] → tree_dump_text one ≡ tree_dump_text other
dump_unique (g.dump_text version next nodes mode labels names objects edges) (g.dump_text version' next' nodes' mode' labels' names' objects' edges') same =
    let behind = spell_dump_labels labels (spell_dump_names names (spell_dump_objects objects (spell_dump_edges edges (k.Word (codes "end") ∷ [])))) in
    let behind' = spell_dump_labels labels' (spell_dump_names names' (spell_dump_objects objects' (spell_dump_edges edges' (k.Word (codes "end") ∷ [])))) in
    let one : version ≡ version' = cc in
    let two : next ≡ next' = cc in
    let three : nodes ≡ nodes' = cc in
    let tails : spell_mode mode behind ≡ spell_mode mode' behind' = cc in
    let modes = mode_unique mode mode' behind behind' tails in
    let labelled = each_unique (k.Word (codes "label")) (is_word (codes "label")) spell_label text_of_label flat Anything refl (λ kinds. tt) dump_label_unique
    labels labels' _ _ tt tt (names_end names objects edges) (names_end names' objects' edges') modes.1 in
    let named = each_unique (k.Word (codes "name")) (is_word (codes "name")) spell_dump_name entry_of_name flat Anything refl (λ kinds. tt) dump_name_unique
    names names' _ _ tt tt (objects_end (codes "name") refl refl refl objects edges) (objects_end (codes "name") refl refl refl objects' edges') labelled.rests in
    let valued = each_unique (k.Word (codes "object")) (is_word (codes "object")) spell_dump_object (λ entry. entry) flat Anything refl (λ kinds. tt) dump_object_unique
    objects objects' _ _ tt tt (edges_end (codes "object") refl refl edges) (edges_end (codes "object") refl refl edges') named.rests in
    let linked = each_unique (k.Word (codes "edge")) (is_word (codes "edge")) spell_dump_edge entry_of_edge flat Anything refl (λ kinds. tt) dump_edge_unique
    edges edges' _ _ tt tt refl refl valued.rests in
    let four : objects ≡ objects' = copied_same valued.trees in
    cc (one, two, three, modes.0, labelled.trees, named.trees, four, linked.trees)

-- label paths
labels_unique : (labels more : List g.Label) (rest behind : List Kind) → first is_dot rest ≡ false → first is_dot behind ≡ false
    → spell_each (k.Symbol s.Dot) spell_label labels rest ≡ spell_each (k.Symbol s.Dot) spell_label more behind → Alike (map text_of_label) (nest_each flat) labels more rest behind
labels_unique labels more rest behind end stop same =
    each_unique (k.Symbol s.Dot) is_dot spell_label text_of_label flat Anything refl (λ kinds. tt) dump_label_unique labels more rest behind tt tt end stop same

-- statements: which form one has, by its first words
abbrev setting_form : List Kind → ℕ
setting_form (k.Word text ∷ kinds) = if bytes_eq text (codes "nodes") then 10 else 11
setting_form _ = 0

abbrev blocks_form : List Kind → ℕ
blocks_form [] = 18
blocks_form _ = 19

abbrev word_form : List ℕ → List Kind → ℕ
word_form text kinds =
    if bytes_eq text (codes "load") then 1
    else (if bytes_eq text (codes "name") then 2
    else (if bytes_eq text (codes "unname") then 3
    else (if bytes_eq text (codes "update") then 4
    else (if bytes_eq text (codes "select") then 5
    else (if bytes_eq text (codes "explain") then 6
    else (if bytes_eq text (codes "guide") then 7
    else (if bytes_eq text (codes "browse") then 8
    else (if bytes_eq text (codes "sample") then 9
    else (if bytes_eq text (codes "set") then setting_form kinds
    else (if bytes_eq text (codes "dump") then 12
    else (if bytes_eq text (codes "restore") then 13
    else (if bytes_eq text (codes "generate") then 14
    else (if bytes_eq text (codes "history") then 15
    else (if bytes_eq text (codes "at") then 16
    else (if bytes_eq text (codes "changes") then 17
    else (if bytes_eq text (codes "blocks") then blocks_form kinds
    else (if bytes_eq text (codes "watch") then 20
    else (if bytes_eq text (codes "unwatch") then 21
    else 22))))))))))))))))))

abbrev tokens_form : List Kind → ℕ
tokens_form (k.Word text ∷ kinds) = word_form text kinds
tokens_form _ = 0

abbrev form_of : g.Statement → ℕ
form_of (g.load name literal) = 1
form_of (g.bind name path) = 2
form_of (g.unname name) = 3
form_of (g.assign target value end) = 4
form_of (g.add target label addition end) = 4
form_of (g.remove target label right end) = 4
form_of (g.select asked) = 5
form_of (g.explain asked) = 6
form_of g.guide = 7
form_of (g.browse path) = 8
form_of (g.sample path count) = 9
form_of (g.set_nodes nodes) = 10
form_of (g.set_plan mode) = 11
form_of g.dump = 12
form_of (g.restore text) = 13
form_of (g.generate seed count) = 14
form_of (g.history on) = 15
form_of (g.select_at moment asked) = 16
form_of (g.changes first last) = 17
form_of g.blocks = 18
form_of (g.blocks_of asked) = 19
form_of (g.watch name asked) = 20
form_of (g.unwatch name) = 21
form_of (g.show name) = 22

formed : (one : g.Statement) → tokens_form (spell_statement one []) ≡ form_of one
formed (g.load name literal) = refl
formed (g.bind name path) = refl
formed (g.unname name) = refl
formed (g.assign target value end) = refl
formed (g.add target label addition end) = refl
formed (g.remove target label right end) = refl
formed (g.select (g.query first others end)) = refl
formed (g.explain asked) = refl
formed g.guide = refl
formed (g.browse path) = refl
formed (g.sample path count) = refl
formed (g.set_nodes nodes) = refl
formed (g.set_plan mode) = refl
formed g.dump = refl
formed (g.restore text) = refl
formed (g.generate seed count) = refl
formed (g.history on) = refl
formed (g.select_at moment asked) = refl
formed (g.changes first last) = refl
formed g.blocks = refl
formed (g.blocks_of (g.query first others end)) = refl
formed (g.watch name asked) = refl
formed (g.unwatch name) = refl
formed (g.show name) = refl

same_form : (one other : g.Statement) → spell_statement one [] ≡ spell_statement other [] → form_of one ≡ form_of other
same_form one other same = sym (formed one) ∙ ap tokens_form same ∙ formed other

forms_apart : (one other : g.Statement) → eqb (form_of one) (form_of other) ≡ false → spell_statement one [] ≡ spell_statement other [] → ⊥
forms_apart one other differ same = eqb-false (form_of one) (form_of other) differ (same_form one other same)

literal_no_path : (literal : g.Literal) (path : g.Path) (rest behind : List Kind) → spell_literal literal rest ≡ spell_path path behind → ⊥
literal_no_path (g.local id) (g.rooted (g.free text unreserved) parts) rest behind same = absurd (cc)
literal_no_path (g.atom None value) path rest behind same = atom_no_path value path rest behind same
literal_no_path (g.atom (Some id) value) (g.rooted (g.free text unreserved) parts) rest behind same = absurd (cc)
literal_no_path (g.braces None inner) (g.rooted (g.free text unreserved) parts) rest behind same = absurd (cc)
literal_no_path (g.braces (Some id) inner) (g.rooted (g.free text unreserved) parts) rest behind same = absurd (cc)

-- the words of a switch
switch_read : (on : Bool) → bytes_eq (switch_text on) (codes "on") ≡ on
switch_read true = refl
switch_read false = refl

switch_unique : (on other : Bool) → switch_text on ≡ switch_text other → on ≡ other
switch_unique on other same = sym (switch_read on) ∙ ap (λ (text : List ℕ). bytes_eq text (codes "on")) same ∙ switch_read other

-- a target with its label before `+=` or `-=`
abbrev Update : g.Path → g.Label → Kind → List Kind → List Kind
Update target label kind rest = spell_path target (k.Symbol s.Dot ∷ spell_label label (kind ∷ rest))

-- a target alone, before `:=`, and one with a label, before another symbol
assigned_apart : (target other : g.Path) (label : g.Label) (kind : Kind) (rest behind : List Kind) → first goes_on (kind ∷ behind) ≡ false
    → spell_path target (k.Symbol s.Assign ∷ rest) ≡ Update other label kind behind → k.Symbol s.Assign ≡ kind
assigned_apart target other label kind rest behind end same =
    let two = is_joined other label in
    let tails = (path_unique target (longer_path other label) (k.Symbol s.Assign ∷ rest) (kind ∷ behind) refl end (same ∙ sym (two.spelled (kind ∷ behind)))).rests in
    cc

-- each form against any statement

load_alike : (name : g.Name) (literal : g.Literal) (other : g.Statement) → spell_statement (g.load name literal) [] ≡ spell_statement other [] → Ends tree_statement nest_statement (g.load name literal) other
load_alike name literal (g.load other held) same =
    let named = name_unique name other _ _ (ap behind_first same) in
    let found = literal_unique literal held [] [] refl refl (ap behind_first named.1) in
    (cc (named.0, found.trees), found.nests)
load_alike name literal other same = absurd (forms_apart (g.load name literal) other refl same)

bind_alike : (name : g.Name) (path : g.Path) (other : g.Statement) → spell_statement (g.bind name path) [] ≡ spell_statement other [] → Ends tree_statement nest_statement (g.bind name path) other
bind_alike name path (g.bind other more) same =
    let named = name_unique name other _ _ (ap behind_first same) in
    let found = path_unique path more [] [] refl refl (ap behind_first named.1) in
    (cc (named.0, found.trees), found.nests)
bind_alike name path other same = absurd (forms_apart (g.bind name path) other refl same)

unname_alike : (name : g.Name) (other : g.Statement) → spell_statement (g.unname name) [] ≡ spell_statement other [] → Ends tree_statement nest_statement (g.unname name) other
unname_alike name (g.unname other) same = (ap t.unname (name_unique name other [] [] (ap behind_first same)).0, refl)
unname_alike name other same = absurd (forms_apart (g.unname name) other refl same)

assign_alike : (target : g.Path) (value : Value) (end : g.Tail) (other : g.Statement) → spell_statement (g.assign target value end) [] ≡ spell_statement other [] → Ends tree_statement nest_statement (g.assign target value end) other
assign_alike target value end (g.assign other more stop) same =
    let on = path_unique target other (k.Symbol s.Assign ∷ spell_value value (spell_tail end [])) (k.Symbol s.Assign ∷ spell_value more (spell_tail stop [])) refl refl (ap behind_first same) in
    let values = value_unique value more _ _ (ap behind_first on.rests) in
    let last = tail_unique end stop values.1 in
    (cc (on.trees, values.0, last.0), cc (on.nests, last.1))
assign_alike target value end (g.add other label addition stop) same = absurd (let kinds = assigned_apart target other label (k.Symbol s.PlusAssign) _ _ refl (ap behind_first same) in cc)
assign_alike target value end (g.remove other label right stop) same = absurd (let kinds = assigned_apart target other label (k.Symbol s.MinusAssign) _ _ refl (ap behind_first same) in cc)
assign_alike target value end other same = absurd (forms_apart (g.assign target value end) other refl same)

add_alike : (target : g.Path) (label : g.Label) (addition : g.Addition) (end : g.Tail) (other : g.Statement) → spell_statement (g.add target label addition end) [] ≡ spell_statement other [] → Ends tree_statement nest_statement (g.add target label addition end) other
add_alike target label (g.fresh literal) end (g.add other name (g.fresh held) stop) same =
    let on = target_unique target other label name (k.Symbol s.PlusAssign ∷ spell_literal literal (spell_tail end [])) (k.Symbol s.PlusAssign ∷ spell_literal held (spell_tail stop [])) refl refl (ap behind_first same) in
    let found = literal_unique literal held _ _ (tail_value end) (tail_value stop) (ap behind_first on.0.rests) in
    let last = tail_unique end stop found.rests in
    (cc (on.0.trees, on.1, found.trees, last.0), cc (on.0.nests, found.nests, last.1))
add_alike target label (g.link right) end (g.add other name (g.link more) stop) same =
    let on = target_unique target other label name (k.Symbol s.PlusAssign ∷ spell_path right (spell_tail end [])) (k.Symbol s.PlusAssign ∷ spell_path more (spell_tail stop [])) refl refl (ap behind_first same) in
    let found = path_unique right more _ _ (tail_path end) (tail_path stop) (ap behind_first on.0.rests) in
    let last = tail_unique end stop found.rests in
    (cc (on.0.trees, on.1, found.trees, last.0), cc (on.0.nests, found.nests, last.1))
add_alike target label (g.fresh literal) end (g.add other name (g.link more) stop) same =
    let on = target_unique target other label name (k.Symbol s.PlusAssign ∷ spell_literal literal (spell_tail end [])) (k.Symbol s.PlusAssign ∷ spell_path more (spell_tail stop [])) refl refl (ap behind_first same) in
    absurd (literal_no_path literal more _ _ (ap behind_first on.0.rests))
add_alike target label (g.link right) end (g.add other name (g.fresh held) stop) same =
    let on = target_unique target other label name (k.Symbol s.PlusAssign ∷ spell_path right (spell_tail end [])) (k.Symbol s.PlusAssign ∷ spell_literal held (spell_tail stop [])) refl refl (ap behind_first same) in
    absurd (literal_no_path held right _ _ (sym (ap behind_first on.0.rests)))
add_alike target label addition end (g.assign other value stop) same = absurd (let kinds = assigned_apart other target label (k.Symbol s.PlusAssign) _ _ refl (sym (ap behind_first same)) in cc)
add_alike target label addition end (g.remove other name right stop) same =
    absurd (let on = (target_unique target other label name _ _ refl refl (ap behind_first same)).0.rests in cc)
add_alike target label addition end other same = absurd (forms_apart (g.add target label addition end) other refl same)

remove_alike : (target : g.Path) (label : g.Label) (right : g.Path) (end : g.Tail) (other : g.Statement) → spell_statement (g.remove target label right end) [] ≡ spell_statement other [] → Ends tree_statement nest_statement (g.remove target label right end) other
remove_alike target label right end (g.remove other name more stop) same =
    let on = target_unique target other label name (k.Symbol s.MinusAssign ∷ spell_path right (spell_tail end [])) (k.Symbol s.MinusAssign ∷ spell_path more (spell_tail stop [])) refl refl (ap behind_first same) in
    let found = path_unique right more _ _ (tail_path end) (tail_path stop) (ap behind_first on.0.rests) in
    let last = tail_unique end stop found.rests in
    (cc (on.0.trees, on.1, found.trees, last.0), cc (on.0.nests, found.nests, last.1))
remove_alike target label right end (g.assign other value stop) same = absurd (let kinds = assigned_apart other target label (k.Symbol s.MinusAssign) _ _ refl (sym (ap behind_first same)) in cc)
remove_alike target label right end (g.add other name addition stop) same =
    absurd (let on = (target_unique target other label name _ _ refl refl (ap behind_first same)).0.rests in cc)
remove_alike target label right end other same = absurd (forms_apart (g.remove target label right end) other refl same)

select_alike : (asked : g.Select) (other : g.Statement) → spell_statement (g.select asked) [] ≡ spell_statement other [] → Ends tree_statement nest_statement (g.select asked) other
select_alike asked (g.select other) same = let found = select_unique asked other same in (ap t.select found.0, found.1)
select_alike asked other same = absurd (forms_apart (g.select asked) other refl same)

explain_alike : (asked : g.Select) (other : g.Statement) → spell_statement (g.explain asked) [] ≡ spell_statement other [] → Ends tree_statement nest_statement (g.explain asked) other
explain_alike asked (g.explain other) same = let found = select_unique asked other (ap behind_first same) in (ap t.explain found.0, found.1)
explain_alike asked other same = absurd (forms_apart (g.explain asked) other refl same)

guide_alike : (other : g.Statement) → spell_statement g.guide [] ≡ spell_statement other [] → Ends tree_statement nest_statement g.guide other
guide_alike g.guide same = (refl, refl)
guide_alike other same = absurd (forms_apart g.guide other refl same)

browse_alike : (path : g.LabelPath) (other : g.Statement) → spell_statement (g.browse path) [] ≡ spell_statement other [] → Ends tree_statement nest_statement (g.browse path) other
browse_alike (g.walked name labels) (g.browse (g.walked other more)) same =
    let named = name_unique name other _ _ (ap behind_first same) in
    let found = labels_unique labels more [] [] refl refl named.1 in
    (cc (named.0, found.trees), refl)
browse_alike path other same = absurd (forms_apart (g.browse path) other refl same)

sample_alike : (path : g.LabelPath) (count : ℤ) (other : g.Statement) → spell_statement (g.sample path count) [] ≡ spell_statement other [] → Ends tree_statement nest_statement (g.sample path count) other
sample_alike (g.walked name labels) count (g.sample (g.walked other more) number) same =
    let named = name_unique name other _ _ (ap behind_first same) in
    let found = labels_unique labels more (k.Number count ∷ []) (k.Number number ∷ []) refl refl named.1 in
    let tails = found.rests in
    let counts : count ≡ number = cc in
    (cc (named.0, found.trees, counts), refl)
sample_alike path count other same = absurd (forms_apart (g.sample path count) other refl same)

set_nodes_alike : (nodes : ℤ) (other : g.Statement) → spell_statement (g.set_nodes nodes) [] ≡ spell_statement other [] → Ends tree_statement nest_statement (g.set_nodes nodes) other
set_nodes_alike nodes (g.set_nodes other) same = (cc, refl)
set_nodes_alike nodes other same = absurd (forms_apart (g.set_nodes nodes) other refl same)

set_plan_alike : (mode : Mode) (other : g.Statement) → spell_statement (g.set_plan mode) [] ≡ spell_statement other [] → Ends tree_statement nest_statement (g.set_plan mode) other
set_plan_alike mode (g.set_plan other) same = (ap t.set_plan (mode_unique mode other [] [] (ap behind_first (ap behind_first same))).0, refl)
set_plan_alike mode other same = absurd (forms_apart (g.set_plan mode) other refl same)

dump_alike : (other : g.Statement) → spell_statement g.dump [] ≡ spell_statement other [] → Ends tree_statement nest_statement g.dump other
dump_alike g.dump same = (refl, refl)
dump_alike other same = absurd (forms_apart g.dump other refl same)

restore_alike : (text : g.DumpText) (other : g.Statement) → spell_statement (g.restore text) [] ≡ spell_statement other [] → Ends tree_statement nest_statement (g.restore text) other
restore_alike text (g.restore other) same = (ap t.restore (dump_unique text other (ap behind_first same)), refl)
restore_alike text other same = absurd (forms_apart (g.restore text) other refl same)

generate_alike : (seed count : ℤ) (other : g.Statement) → spell_statement (g.generate seed count) [] ≡ spell_statement other [] → Ends tree_statement nest_statement (g.generate seed count) other
generate_alike seed count (g.generate other number) same = (cc, refl)
generate_alike seed count other same = absurd (forms_apart (g.generate seed count) other refl same)

history_alike : (on : Bool) (other : g.Statement) → spell_statement (g.history on) [] ≡ spell_statement other [] → Ends tree_statement nest_statement (g.history on) other
history_alike on (g.history other) same =
    let texts : switch_text on ≡ switch_text other = cc in
    (ap t.history (switch_unique on other texts), refl)
history_alike on other same = absurd (forms_apart (g.history on) other refl same)

select_at_alike : (moment : ℤ) (asked : g.Select) (other : g.Statement) → spell_statement (g.select_at moment asked) [] ≡ spell_statement other [] → Ends tree_statement nest_statement (g.select_at moment asked) other
select_at_alike moment asked (g.select_at other more) same =
    let moments : moment ≡ other = cc in
    let found = select_unique asked more (ap behind_first (ap behind_first same)) in
    (cc (moments, found.0), found.1)
select_at_alike moment asked other same = absurd (forms_apart (g.select_at moment asked) other refl same)

changes_alike : (from to : ℤ) (other : g.Statement) → spell_statement (g.changes from to) [] ≡ spell_statement other [] → Ends tree_statement nest_statement (g.changes from to) other
changes_alike from to (g.changes other last) same = (cc, refl)
changes_alike from to other same = absurd (forms_apart (g.changes from to) other refl same)

blocks_alike : (other : g.Statement) → spell_statement g.blocks [] ≡ spell_statement other [] → Ends tree_statement nest_statement g.blocks other
blocks_alike g.blocks same = (refl, refl)
blocks_alike other same = absurd (forms_apart g.blocks other refl same)

blocks_of_alike : (asked : g.Select) (other : g.Statement) → spell_statement (g.blocks_of asked) [] ≡ spell_statement other [] → Ends tree_statement nest_statement (g.blocks_of asked) other
blocks_of_alike asked (g.blocks_of other) same = let found = select_unique asked other (ap behind_first same) in (ap t.blocks_of found.0, found.1)
blocks_of_alike asked other same = absurd (forms_apart (g.blocks_of asked) other refl same)

watch_alike : (name : g.Name) (asked : g.Paths) (other : g.Statement) → spell_statement (g.watch name asked) [] ≡ spell_statement other [] → Ends tree_statement nest_statement (g.watch name asked) other
watch_alike name asked (g.watch other more) same =
    let named = name_unique name other _ _ (ap behind_first same) in
    let found = select_unique (select_of_paths asked) (select_of_paths more) (ap behind_first named.1) in
    (cc (named.0, found.0), found.1)
watch_alike name asked other same = absurd (forms_apart (g.watch name asked) other refl same)

unwatch_alike : (name : g.Name) (other : g.Statement) → spell_statement (g.unwatch name) [] ≡ spell_statement other [] → Ends tree_statement nest_statement (g.unwatch name) other
unwatch_alike name (g.unwatch other) same = (ap t.unwatch (name_unique name other [] [] (ap behind_first same)).0, refl)
unwatch_alike name other same = absurd (forms_apart (g.unwatch name) other refl same)

show_alike : (name : g.Name) (other : g.Statement) → spell_statement (g.show name) [] ≡ spell_statement other [] → Ends tree_statement nest_statement (g.show name) other
show_alike name (g.show other) same = (ap t.show (name_unique name other [] [] (ap behind_first same)).0, refl)
show_alike name other same = absurd (forms_apart (g.show name) other refl same)

statement_unique : (one other : g.Statement) → spell_statement one [] ≡ spell_statement other [] → Ends tree_statement nest_statement one other
statement_unique (g.load name literal) other same = load_alike name literal other same
statement_unique (g.bind name path) other same = bind_alike name path other same
statement_unique (g.unname name) other same = unname_alike name other same
statement_unique (g.assign target value end) other same = assign_alike target value end other same
statement_unique (g.add target label addition end) other same = add_alike target label addition end other same
statement_unique (g.remove target label right end) other same = remove_alike target label right end other same
statement_unique (g.select asked) other same = select_alike asked other same
statement_unique (g.explain asked) other same = explain_alike asked other same
statement_unique g.guide other same = guide_alike other same
statement_unique (g.browse path) other same = browse_alike path other same
statement_unique (g.sample path count) other same = sample_alike path count other same
statement_unique (g.set_nodes nodes) other same = set_nodes_alike nodes other same
statement_unique (g.set_plan mode) other same = set_plan_alike mode other same
statement_unique g.dump other same = dump_alike other same
statement_unique (g.restore text) other same = restore_alike text other same
statement_unique (g.generate seed count) other same = generate_alike seed count other same
statement_unique (g.history on) other same = history_alike on other same
statement_unique (g.select_at moment asked) other same = select_at_alike moment asked other same
statement_unique (g.changes from to) other same = changes_alike from to other same
statement_unique g.blocks other same = blocks_alike other same
statement_unique (g.blocks_of asked) other same = blocks_of_alike asked other same
statement_unique (g.watch name asked) other same = watch_alike name asked other same
statement_unique (g.unwatch name) other same = unwatch_alike name other same
statement_unique (g.show name) other same = show_alike name other same

pub determined : AreDetermined
determined = record {
  tree = λ one other same. (statement_unique one other same).0;
  nest = λ one other same. (statement_unique one other same).1;
  statement = λ statement other kinds has also.
      sym has.tree ∙ (statement_unique has.by also.by (sym has.spelled ∙ also.spelled)).0 ∙ also.tree;
}

pub too_deep : RefusesDeeper
too_deep by deep statement has =
    let alike = (statement_unique by has.by has.spelled).1 in
    let within = has.deep in
    absurd (omega arith)
