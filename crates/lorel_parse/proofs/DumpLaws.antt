-- The parsers of new values, modes, label paths and dump texts are sound and complete.
use Rattle.std.proofs.Common.{◌≡◌, ℕ, ℤ, ◌≤◌, max, true, false, List, [], ◌∷◌, length, map, codes, Some, subst, refl, ap, ◌∙◌, sym, arith, inl, inr}
use Rattle.std.proofs.lemmas.Bool.{cases_Bool}
use Rattle.lore_base.specs.declared.limits.TheConstants.{NESTING}
use Rattle.lore_base.specs.declared.edges.Oid.{Oid}
use Rattle.lore_base.specs.declared.values.Value.{Value}
use Rattle.lore_base.specs.declared.values.Value.TheVariants.{Complex}
use Rattle.lore_base.specs.declared.modes.Mode.{Mode}
use Rattle.lore_base.specs.declared.modes.Mode.TheVariants.{Auto, Top, Bottom, Guided}
use Rattle.lorel_tokens.specs.declared.token_types.Kind.{Kind}
use Rattle.lorel_tokens.specs.declared.token_types.Kind.TheVariants as k
use Rattle.lorel_tokens.specs.declared.token_types.Sign.TheVariants as s
use Rattle.lorel_trees.specs.declared.dump_trees.DumpTree.{DumpTree}
use Rattle.lorel_trees.specs.Grammar as g
use Rattle.lorel_trees.specs.Repetitions.{spell_each, nest_each}
use Rattle.lorel_trees.specs.Paths.{spell_name, text_of_name, spell_label, text_of_label, spell_labels, texts_of_labels}
use Rattle.lorel_trees.specs.Literals.{spell_value, spell_atom, value_of_atom}
use Rattle.lorel_trees.specs.Statements.{spell_mode, spell_oid, spell_dump_name, spell_dump_object, spell_dump_edge, entry_of_name, entry_of_edge, spell_dump_labels, spell_dump_names, spell_dump_objects, spell_dump_edges, spell_dump_text, tree_dump_text}
use Rattle.lorel_terms.specs.Outcomes.{Outcome, Parse, next, sees, sees_word, expect}
use Rattle.lorel_terms.specs.Repetitions.{mapped, both, behind_word, each}
use Rattle.lorel_terms.specs.Names.{name, label}
use Rattle.lorel_terms.specs.Literals.{local, new_value}
use Rattle.lorel_parse.specs.inside.Statements.{number, mode, labels, label_path, oid_of, oid, dump_name, dump_object, edge_of, dump_edge, dump_labels, dump_names, dump_objects, dump_edges, counted, head, lists, dump_of, dump_text}
use Rattle.lorel_terms.proofs.OutcomeLaws.{some_parts, none_some, bind_some, sees_sign, sees_this_word, expect_some}
use Rattle.lorel_terms.proofs.NameLaws.{complete_atom, sound_atom, longer_name, longer_label, atom_no_sign}
use Rattle.lorel_trees.proofs.AtomLaws.{atom_spelled, told_spelled}
use Rattle.lorel_terms.proofs.RepetitionLaws.{IsRead, IsParserOf, Spell, Anything, flat, mapped_parser, behind_word_parser, closed_word_parser, weaker, both_parser, sign_test, word_test, EndsEach, each_parser}
use Rattle.lorel_terms.proofs.LiteralLaws.{local_some}
use Rattle.lorel_terms.proofs.SelectLaws.{name_parser, label_parser}

-- a list of derivations that can't nest
pub nest_flat : {D : Type 0} (ds : List D) → nest_each flat ds ≤ 0
nest_flat [] = omega arith
nest_flat (d ∷ ds) = omega (arith, nest_flat ds)

-- single tokens

number_sound : (kinds rest : List Kind) (value : ℤ) → ◌≡◌ {A = Outcome ℤ} (number kinds) (Some (value, rest)) → kinds ≡ k.Number value ∷ rest
unfolding number
number_sound [] rest value read = absurd (none_some read)
number_sound (k.Number other ∷ kinds) rest value read = let parts = some_parts read in cc (parts.0, parts.1)
number_sound (_ ∷ kinds) rest value read = absurd (none_some read)

number_complete : (value : ℤ) (rest : List Kind) → ◌≡◌ {A = Outcome ℤ} (number (k.Number value ∷ rest)) (Some (value, rest))
unfolding number
number_complete value rest = refl

abbrev pub itself : {A : Type 0} → A → A
itself a = a

pub number_parser : IsParserOf number (λ value rest. k.Number value ∷ rest) itself flat NESTING Anything
number_parser = record {
  sound = λ kinds rest value read. record { by = value; deep = omega arith; spelled = number_sound kinds rest value read; stands = refl };
  complete = λ value rest deep end. number_complete value rest;
}

local_complete : (id : ℕ) (rest : List Kind) → ◌≡◌ {A = Outcome ℕ} (local (k.Local id ∷ rest)) (Some (id, rest))
unfolding local
local_complete id rest = refl

oid_sound : (kinds rest : List Kind) (value : Oid) → ◌≡◌ {A = Outcome Oid} (oid kinds) (Some (value, rest)) → kinds ≡ spell_oid value rest
unfolding oid
oid_sound kinds rest value read =
    let finish : ℕ → Parse Oid = λ id left. Some (oid_of id, left) in
    let (id, mid, taken, last) = bind_some (local kinds) finish value rest read in
    let parts = some_parts last in
    local_some kinds mid id taken ∙ ap (λ (left : List Kind). k.Local id ∷ left) parts.1 ∙ ap (λ (o : Oid). k.Local o.0 ∷ rest) parts.0

oid_complete : (value : Oid) (rest : List Kind) → ◌≡◌ {A = Outcome Oid} (oid (spell_oid value rest)) (Some (value, rest))
unfolding oid
oid_complete value rest = rw (local_complete value.0 rest)

oid_parser : IsParserOf oid spell_oid itself flat NESTING Anything
oid_parser = record {
  sound = λ kinds rest value read. record { by = value; deep = omega arith; spelled = oid_sound kinds rest value read; stands = refl };
  complete = λ value rest deep end. oid_complete value rest;
}

-- new values

new_value_sound : (kinds rest : List Kind) (value : Value) → ◌≡◌ {A = Outcome Value} (new_value kinds) (Some (value, rest)) → kinds ≡ spell_value value rest
unfolding new_value
new_value_sound kinds rest value read =
    elim (cases_Bool (sees s.LeftBrace kinds)) [
      | inl brace ↦
          let finish : Unit {0} → Parse Value = λ _ left. Some (Complex, left) in
          let (u, mid, taken, last) = bind_some (expect s.RightBrace (next kinds)) finish value rest (rw brace at read) in
          let parts = some_parts last in
          sees_sign s.LeftBrace kinds brace ∙ ap (λ (left : List Kind). k.Symbol s.LeftBrace ∷ left) (expect_some s.RightBrace (next kinds) mid u taken
          ∙ ap (λ (left : List Kind). k.Symbol s.RightBrace ∷ left) parts.1)
          ∙ ap (λ (v : Value). spell_value v rest) parts.0
      | inr other ↦
          let x = sound_atom kinds rest value (rw other at read) in
          x.spelled ∙ atom_spelled x.by rest ∙ ap (λ (v : Value). spell_value v rest) x.stands
    ]

new-atom : (one : g.Atom) (rest : List Kind) → ◌≡◌ {A = Outcome Value} (new_value (spell_atom one rest)) (Some (value_of_atom one, rest))
unfolding new_value
new-atom one rest = rw (atom_no_sign one s.LeftBrace rest, complete_atom one rest)

new-braces : (rest : List Kind) → ◌≡◌ {A = Outcome Value} (new_value (spell_value Complex rest)) (Some (Complex, rest))
unfolding new_value sees expect
new-braces rest = refl

new_value_complete : (value : Value) (rest : List Kind) → ◌≡◌ {A = Outcome Value} (new_value (spell_value value rest)) (Some (value, rest))
new_value_complete value rest =
    let Reads : Value → Type 0 = λ read. ◌≡◌ {A = Outcome Value} (new_value (spell_value read rest)) (Some (read, rest)) in
    elim (told_spelled value) [
      | inl complex ↦ subst Reads (sym complex) (new-braces rest)
      | inr atomic ↦ subst Reads atomic.1 (ap new_value (sym (atom_spelled atomic.0 rest)) ∙ new-atom atomic.0 rest)
    ]

pub new_value_parser : IsParserOf new_value spell_value itself flat NESTING Anything
new_value_parser = record {
  sound = λ kinds rest value read. record { by = value; deep = omega arith; spelled = new_value_sound kinds rest value read; stands = refl };
  complete = λ value rest deep end. new_value_complete value rest;
}

-- modes

mode_case : (wanted : List ℕ) (one taken : Mode) (kinds rest : List Kind) → sees_word wanted kinds ≡ true → ((left : List Kind) → spell_mode one left ≡ k.Word wanted ∷ left)
    → ◌≡◌ {A = Outcome Mode} (Some (one, next kinds)) (Some (taken, rest)) → kinds ≡ spell_mode taken rest
mode_case wanted one taken kinds rest seen spelled read =
    let parts = some_parts read in
    sees_this_word wanted kinds seen ∙ sym (spelled (next kinds)) ∙ ap (spell_mode one) parts.1 ∙ ap (λ (m : Mode). spell_mode m rest) parts.0

mode_sound : (kinds rest : List Kind) (found : Mode) → ◌≡◌ {A = Outcome Mode} (mode kinds) (Some (found, rest)) → kinds ≡ spell_mode found rest
unfolding mode
mode_sound kinds rest found read =
    elim (cases_Bool (sees_word (codes "auto") kinds)) [
      | inl seen ↦ mode_case (codes "auto") Auto found kinds rest seen (λ left. refl) (rw seen at read)
      | inr not_auto ↦
          let read2 = rw not_auto at read in
          elim (cases_Bool (sees_word (codes "top") kinds)) [
            | inl seen ↦ mode_case (codes "top") Top found kinds rest seen (λ left. refl) (rw seen at read2)
            | inr not_top ↦
                let read3 = rw not_top at read2 in
                elim (cases_Bool (sees_word (codes "bottom") kinds)) [
                  | inl seen ↦ mode_case (codes "bottom") Bottom found kinds rest seen (λ left. refl) (rw seen at read3)
                  | inr not_bottom ↦
                      let read4 = rw not_bottom at read3 in
                      elim (cases_Bool (sees_word (codes "guide") kinds)) [
                        | inl seen ↦ mode_case (codes "guide") Guided found kinds rest seen (λ left. refl) (rw seen at read4)
                        | inr none ↦ absurd (none_some (rw none at read4))
                      ]
                ]
          ]
    ]

mode_complete : (one : Mode) (rest : List Kind) → ◌≡◌ {A = Outcome Mode} (mode (spell_mode one rest)) (Some (one, rest))
unfolding mode sees_word
mode_complete Auto rest = refl
mode_complete Top rest = refl
mode_complete Bottom rest = refl
mode_complete Guided rest = refl

pub mode_parser : IsParserOf mode spell_mode itself flat NESTING Anything
mode_parser = record {
  sound = λ kinds rest found read. record { by = found; deep = omega arith; spelled = mode_sound kinds rest found read; stands = refl };
  complete = λ one rest deep end. mode_complete one rest;
}

-- label paths

label_longer : (one : g.Label) (rest : List Kind) → length rest ≤ length (spell_label one rest)
label_longer one rest = omega (arith, longer_label one rest)

-- no dot follows
abbrev pub EndsLabels : List Kind → Type 0
EndsLabels rest = EndsEach (sees s.Dot) Anything rest

labels_each : IsParserOf (each (sees s.Dot) label []) (spell_each (k.Symbol s.Dot) spell_label) (λ ds. map text_of_label ds) (nest_each flat) NESTING EndsLabels
labels_each = each_parser (sign_test s.Dot) label_longer (λ rest. tt) label_parser []

label_path_parts : IsParserOf (both name (each (sees s.Dot) label [])) (λ (d : g.Name × List g.Label) rest. spell_name d.0 (spell_labels d.1 rest))
    (λ d. (text_of_name d.0, texts_of_labels d.1)) (λ d. max 0 (nest_each flat d.1)) NESTING EndsLabels
label_path_parts = both_parser (λ all rest end. tt) name_parser labels_each

label_path_sound : (kinds rest : List Kind) (found : List ℕ × List (List ℕ)) → ◌≡◌ {A = Outcome (List ℕ × List (List ℕ))} (label_path kinds) (Some (found, rest))
    → IsRead (λ (d : g.Name × List g.Label) rest. spell_name d.0 (spell_labels d.1 rest)) (λ d. (text_of_name d.0, texts_of_labels d.1)) flat NESTING kinds rest found
unfolding label_path labels
label_path_sound kinds rest found read =
    let x = label_path_parts.sound kinds rest found read in
    record { by = x.by; deep = omega arith; spelled = x.spelled; stands = x.stands }

label_path_complete : (d : g.Name × List g.Label) (rest : List Kind) → EndsLabels rest
    → ◌≡◌ {A = Outcome (List ℕ × List (List ℕ))} (label_path (spell_name d.0 (spell_labels d.1 rest))) (Some ((text_of_name d.0, texts_of_labels d.1), rest))
unfolding label_path labels
label_path_complete d rest end = label_path_parts.complete d rest (omega (arith, nest_flat d.1)) end

pub label_path_parser : IsParserOf label_path (λ (d : g.Name × List g.Label) rest. spell_name d.0 (spell_labels d.1 rest))
    (λ d. (text_of_name d.0, texts_of_labels d.1)) flat NESTING EndsLabels
label_path_parser = record {
  sound = λ kinds rest found read. label_path_sound kinds rest found read;
  complete = λ d rest deep end. label_path_complete d rest end;
}

-- the lists of a dump text

dump_name_parser : IsParserOf (both name oid) (λ (d : g.Name × Oid) rest. spell_dump_name d rest) (λ d. (text_of_name d.0, d.1)) (λ d. max 0 0) NESTING Anything
dump_name_parser = both_parser (λ one rest end. tt) name_parser oid_parser

dump_object_parser : IsParserOf (both oid new_value) (λ (d : Oid × Value) rest. spell_dump_object d rest) (λ d. (d.0, d.1)) (λ d. max 0 0) NESTING Anything
dump_object_parser = both_parser (λ one rest end. tt) oid_parser new_value_parser

dump_edge_parts : IsParserOf (mapped edge_of (both oid (both label oid))) (λ (d : Oid × (g.Label × Oid)) rest. spell_oid d.0 (spell_label d.1.0 (spell_oid d.1.1 rest)))
    (λ d. (d.0, text_of_label d.1.0, d.1.1)) (λ d. max 0 (max 0 0)) NESTING Anything
dump_edge_parts = mapped_parser edge_of (both_parser (λ one rest end. tt) oid_parser (both_parser (λ one rest end. tt) label_parser oid_parser))

-- `end` stands there
abbrev AtEnd : List Kind → Type 0
AtEnd rest = rest ≡ k.Word (codes "end") ∷ next rest

-- this word doesn't lead to more
abbrev Passes : List ℕ → List Kind → Type 0
Passes word rest = EndsEach (sees_word word) Anything rest

at_end : (word : List ℕ) (rest : List Kind) → sees_word word (k.Word (codes "end") ∷ next rest) ≡ false → AtEnd rest → Passes word rest
at_end word rest other end = record { other = ap (sees_word word) end ∙ other; ends = tt }

passes : {D : Type 0} (word lead : List ℕ) (spell : Spell D) (ds : List D) (rest : List Kind) → ((left : List Kind) → sees_word word (k.Word lead ∷ left) ≡ false)
    → Passes word rest → Passes word (spell_each (k.Word lead) spell ds rest)
passes word lead spell [] rest other end = end
passes word lead spell (d ∷ ds) rest other end = record { other = other (spell d (spell_each (k.Word lead) spell ds rest)); ends = tt }

record Others : Type 0 where
  label_name : (rest : List Kind) → sees_word (codes "label") (k.Word (codes "name") ∷ rest) ≡ false
  label_object : (rest : List Kind) → sees_word (codes "label") (k.Word (codes "object") ∷ rest) ≡ false
  label_edge : (rest : List Kind) → sees_word (codes "label") (k.Word (codes "edge") ∷ rest) ≡ false
  label_end : (rest : List Kind) → sees_word (codes "label") (k.Word (codes "end") ∷ rest) ≡ false
  name_object : (rest : List Kind) → sees_word (codes "name") (k.Word (codes "object") ∷ rest) ≡ false
  name_edge : (rest : List Kind) → sees_word (codes "name") (k.Word (codes "edge") ∷ rest) ≡ false
  name_end : (rest : List Kind) → sees_word (codes "name") (k.Word (codes "end") ∷ rest) ≡ false
  object_edge : (rest : List Kind) → sees_word (codes "object") (k.Word (codes "edge") ∷ rest) ≡ false
  object_end : (rest : List Kind) → sees_word (codes "object") (k.Word (codes "end") ∷ rest) ≡ false
  edge_end : (rest : List Kind) → sees_word (codes "edge") (k.Word (codes "end") ∷ rest) ≡ false

others : Others
unfolding sees_word
others = record {
  label_name = λ rest. refl;
  label_object = λ rest. refl;
  label_edge = λ rest. refl;
  label_end = λ rest. refl;
  name_object = λ rest. refl;
  name_edge = λ rest. refl;
  name_end = λ rest. refl;
  object_edge = λ rest. refl;
  object_end = λ rest. refl;
  edge_end = λ rest. refl;
}

dump_edge_sound : (kinds rest : List Kind) (found : Oid × List ℕ × Oid) → ◌≡◌ {A = Outcome (Oid × List ℕ × Oid)} (dump_edge kinds) (Some (found, rest))
    → IsRead spell_dump_edge entry_of_edge flat NESTING kinds rest found
unfolding dump_edge
dump_edge_sound kinds rest found read =
    let x = dump_edge_parts.sound kinds rest found read in
    record { by = (x.by.0, x.by.1.0, x.by.1.1); deep = omega arith; spelled = x.spelled; stands = x.stands }

dump_edge_complete : (d : Oid × g.Label × Oid) (rest : List Kind) → ◌≡◌ {A = Outcome (Oid × List ℕ × Oid)} (dump_edge (spell_dump_edge d rest)) (Some (entry_of_edge d, rest))
unfolding dump_edge
dump_edge_complete d rest = dump_edge_parts.complete (d.0, (d.1, d.2)) rest (omega arith) tt

dump_edge_parser : IsParserOf dump_edge spell_dump_edge entry_of_edge flat NESTING Anything
dump_edge_parser = record {
  sound = λ kinds rest found read. dump_edge_sound kinds rest found read;
  complete = λ d rest deep end. dump_edge_complete d rest;
}

name_longer : (d : g.Name × Oid) (rest : List Kind) → length rest ≤ length (spell_dump_name d rest)
name_longer d rest = omega (arith, longer_name d.0 (spell_oid d.1 rest))

value_longer : (value : Value) (rest : List Kind) → length rest ≤ length (spell_value value rest)
value_longer value rest =
    let Longer : Value → Type 0 = λ one. length rest ≤ length (spell_value one rest) in
    elim (told_spelled value) [
      | inl complex ↦ subst Longer (sym complex) (omega arith)
      | inr atomic ↦
          let same = ap length (atom_spelled atomic.0 rest) in
          subst Longer atomic.1 (omega arith)
    ]

object_longer : (d : Oid × Value) (rest : List Kind) → length rest ≤ length (spell_dump_object d rest)
object_longer d rest = omega (arith, value_longer d.1 rest)

edge_longer : (d : Oid × g.Label × Oid) (rest : List Kind) → length rest ≤ length (spell_dump_edge d rest)
edge_longer d rest = omega (arith, longer_label d.1 (spell_oid d.2 rest))

-- a list that can't nest
flatter : {D A : Type 0} {parse : Parse (List A)} {spell : Spell (List D)} {tree : List D → List A} {Ends : List Kind → Type 0}
    → IsParserOf parse spell tree (nest_each flat) NESTING Ends → IsParserOf parse spell tree flat NESTING Ends
flatter one = record {
  sound = λ kinds rest found read. let x = one.sound kinds rest found read in record { by = x.by; deep = omega arith; spelled = x.spelled; stands = x.stands };
  complete = λ ds rest deep end. one.complete ds rest (omega (arith, nest_flat ds)) end;
}

labels_parser : IsParserOf (dump_labels []) spell_dump_labels (λ ds. map text_of_label ds) flat NESTING (Passes (codes "label"))
unfolding dump_labels
labels_parser = flatter (each_parser (word_test (codes "label")) label_longer (λ rest. tt) label_parser [])

dump_name_flat : IsParserOf dump_name spell_dump_name entry_of_name flat NESTING Anything
unfolding dump_name
dump_name_flat = dump_name_parser

dump_object_flat : IsParserOf dump_object spell_dump_object itself flat NESTING Anything
unfolding dump_object
dump_object_flat = dump_object_parser

names_parser : IsParserOf (dump_names []) spell_dump_names (λ ds. map entry_of_name ds) flat NESTING (Passes (codes "name"))
unfolding dump_names
names_parser = flatter (each_parser (word_test (codes "name")) name_longer (λ rest. tt) dump_name_flat [])

map_itself : {A : Type 0} (all : List A) → map itself all ≡ all
map_itself {A} [] = refl
map_itself {A} (a ∷ all) = ap (λ (behind : List A). a ∷ behind) (map_itself all)

objects_each : IsParserOf (dump_objects []) spell_dump_objects (λ ds. map itself ds) flat NESTING (Passes (codes "object"))
unfolding dump_objects
objects_each = flatter (each_parser (word_test (codes "object")) object_longer (λ rest. tt) dump_object_flat [])

objects_parser : IsParserOf (dump_objects []) spell_dump_objects itself flat NESTING (Passes (codes "object"))
objects_parser = record {
  sound = λ kinds rest found read.
      let x = objects_each.sound kinds rest found read in
      record { by = x.by; deep = x.deep; spelled = x.spelled; stands = sym (map_itself x.by) ∙ x.stands };
  complete = λ ds rest deep end. objects_each.complete ds rest deep end ∙ ap (λ (all : List (Oid × Value)). Some (all, rest)) (map_itself ds);
}

edges_parser : IsParserOf (dump_edges []) spell_dump_edges (λ ds. map entry_of_edge ds) flat NESTING (Passes (codes "edge"))
unfolding dump_edges
edges_parser = flatter (each_parser (word_test (codes "edge")) edge_longer (λ rest. tt) dump_edge_parser [])

abbrev Ends2 : Type 0
Ends2 = List (Oid × Value) × List (Oid × g.Label × Oid)

abbrev Ends3 : Type 0
Ends3 = List (g.Name × Oid) × Ends2

abbrev spell2 : Spell Ends2
spell2 d rest = spell_dump_objects d.0 (spell_dump_edges d.1 rest)

abbrev spell3 : Spell Ends3
spell3 d rest = spell_dump_names d.0 (spell2 d.1 rest)

objects_edges : IsParserOf (both (dump_objects []) (dump_edges [])) spell2 (λ d. (d.0, map entry_of_edge d.1)) (λ d. max 0 0) NESTING AtEnd
objects_edges = both_parser (λ ds rest end. passes (codes "object") (codes "edge") spell_dump_edge ds rest others.object_edge (at_end (codes "object") rest (others.object_end (next rest)) end))
    objects_parser (weaker (λ rest end. at_end (codes "edge") rest (others.edge_end (next rest)) end) edges_parser)

names_on : IsParserOf (both (dump_names []) (both (dump_objects []) (dump_edges []))) spell3 (λ d. (map entry_of_name d.0, (d.1.0, map entry_of_edge d.1.1)))
    (λ d. max 0 (max 0 0)) NESTING AtEnd
names_on = both_parser (λ d rest end. passes (codes "name") (codes "object") spell_dump_object d.0 (spell_dump_edges d.1 rest) others.name_object
    (passes (codes "name") (codes "edge") spell_dump_edge d.1 rest others.name_edge (at_end (codes "name") rest (others.name_end (next rest)) end)))
    names_parser objects_edges

lists_parts : IsParserOf (both (dump_labels []) (both (dump_names []) (both (dump_objects []) (dump_edges [])))) (λ (d : List g.Label × Ends3) rest. spell_dump_labels d.0 (spell3 d.1 rest))
    (λ d. (map text_of_label d.0, (map entry_of_name d.1.0, (d.1.1.0, map entry_of_edge d.1.1.1)))) (λ d. max 0 (max 0 (max 0 0))) NESTING AtEnd
lists_parts = both_parser (λ d rest end. passes (codes "label") (codes "name") spell_dump_name d.0 (spell2 d.1 rest) others.label_name
    (passes (codes "label") (codes "object") spell_dump_object d.1.0 (spell_dump_edges d.1.1 rest) others.label_object
    (passes (codes "label") (codes "edge") spell_dump_edge d.1.1 rest others.label_edge (at_end (codes "label") rest (others.label_end (next rest)) end))))
    labels_parser names_on

-- the head of a dump text

counted_parser : (word : List ℕ) → IsParserOf (counted word) (λ value rest. k.Word word ∷ k.Number value ∷ rest) itself flat NESTING Anything
unfolding counted
counted_parser word = behind_word_parser word number_parser

abbrev spell_head : ℤ × (ℤ × (ℤ × Mode)) → List Kind → List Kind
spell_head d rest =
    k.Word (codes "oem") ∷ k.Number d.0 ∷ k.Word (codes "next") ∷ k.Number d.1.0 ∷ k.Word (codes "nodes") ∷ k.Number d.1.1.0 ∷ k.Word (codes "plan") ∷ spell_mode d.1.1.1 rest

head_parts : IsParserOf (both (counted (codes "oem")) (both (counted (codes "next")) (both (counted (codes "nodes")) (behind_word (codes "plan") mode)))) spell_head
    (λ d. (d.0, (d.1.0, (d.1.1.0, d.1.1.1)))) (λ d. max 0 (max 0 (max 0 0))) NESTING Anything
head_parts = both_parser (λ one rest end. tt) (counted_parser (codes "oem")) (both_parser (λ one rest end. tt) (counted_parser (codes "next"))
    (both_parser (λ one rest end. tt) (counted_parser (codes "nodes")) (behind_word_parser (codes "plan") mode_parser)))

-- dump texts

abbrev DumpParts : Type 0
DumpParts = (ℤ × (ℤ × (ℤ × Mode))) × (List g.Label × Ends3)

abbrev spell_parts : Spell DumpParts
spell_parts d rest = spell_head d.0 (spell_dump_labels d.1.0 (spell3 d.1.1 (k.Word (codes "end") ∷ rest)))

abbrev dump_made : DumpParts → g.DumpText
dump_made d = g.dump_text d.0.0 d.0.1.0 d.0.1.1.0 d.0.1.1.1 d.1.0 d.1.1.0 d.1.1.1.0 d.1.1.1.1

dump_parts : IsParserOf dump_text spell_parts (λ d. tree_dump_text (dump_made d)) (λ d. max (max 0 (max 0 (max 0 0))) (max 0 (max 0 (max 0 0)))) NESTING Anything
unfolding dump_text head lists
dump_parts = closed_word_parser (codes "end") (λ rest. refl) (mapped_parser dump_of (both_parser (λ d rest end. tt) head_parts lists_parts))

dump_complete : (one : g.DumpText) (rest : List Kind) → ◌≡◌ {A = Outcome DumpTree} (dump_text (spell_dump_text one rest)) (Some (tree_dump_text one, rest))
dump_complete (g.dump_text version next nodes mode labels names objects edges) rest =
    dump_parts.complete ((version, (next, (nodes, mode))), (labels, (names, (objects, edges)))) rest (omega arith) tt

pub dump_parser : IsParserOf dump_text spell_dump_text tree_dump_text flat NESTING Anything
dump_parser = record {
  sound = λ kinds rest found read.
      let x = dump_parts.sound kinds rest found read in
      record { by = dump_made x.by; deep = omega arith; spelled = x.spelled; stands = x.stands };
  complete = λ one rest deep end. dump_complete one rest;
}
