-- The parser of literals is sound and complete.
use Rattle.std.proofs.Common.{◌≡◌, ℕ, zero, suc, ◌+◌, ◌<◌, ◌≤◌, Bool, true, false, ◌||◌, cond, List, [], ◌∷◌, ◌++◌, length, Option, Some, None, refl, ap, ◌∙◌, sym, arith, append_assoc, inl, inr}
use Rattle.std.proofs.lemmas.List.{append-nil}
use Rattle.std.proofs.lemmas.Bool.{cases_Bool}
use Rattle.lorel_tokens.specs.declared.token_types.Kind.{Kind}
use Rattle.lorel_tokens.specs.declared.token_types.Kind.TheVariants as k
use Rattle.lorel_tokens.specs.declared.token_types.Sign.TheVariants as s
use Rattle.lore_base.specs.declared.values.Value.{Value}
use Rattle.lorel_trees.specs.Trees as t
use Rattle.lorel_trees.specs.Trees.{LiteralTree, MemberTrees, members_from}
use Rattle.lorel_trees.specs.Grammar as g
use Rattle.lorel_trees.specs.Paths.{spell_label, text_of_label}
use Rattle.lorel_trees.specs.Literals.{atom_kind, spell_atom, value_of_atom, is_atom_kind, spell_mark, spell_literal, tree_literal, nest_literal, spell_members, trees_members, nest_members, spell_more_members, trees_more_members, nest_more_members, spell_member, nest_member}
use Rattle.lorel_terms.specs.Outcomes.{Outcome, Parse, and_then, next, sees, expect}
use Rattle.lorel_terms.specs.Names.{label, sees_atom, atom}
use Rattle.lorel_terms.specs.Repetitions.{each, each_in}
use Rattle.lorel_terms.specs.Literals.{Entry, local, is_local, sees_local, sees_value, valued, literal, member, more_members, members, inside}
use Rattle.lorel_trees.proofs.AtomLaws.{atom_seen}
use Rattle.lorel_terms.proofs.OutcomeLaws.{some_parts, none_some, bind_some, sees_sign, expect_some}
use Rattle.lorel_terms.proofs.NameLaws.{complete_label, complete_atom, sound_label, sound_atom, atom_seen_here, atom_no_sign}
use Rattle.lorel_terms.proofs.RepetitionLaws.{sees-sign, expect-sign, each_in-end, each_in-more, IsRead, IsParserOf}

-- the label and literal of a member
abbrev pub entry_of : g.Member → Entry
entry_of (g.member name value) = (text_of_label name, tree_literal value)

abbrev pub entries_more : g.MoreMembers → List Entry
entries_more g.no_more = []
entries_more (g.comma first others) = entry_of first ∷ entries_more others

abbrev pub entries_members : g.Members → List Entry
entries_members g.no_members = []
entries_members (g.members first others) = entry_of first ∷ entries_more others

more_trees : (others : g.MoreMembers) → members_from (entries_more others) ≡ trees_more_members others
more_trees g.no_more = refl
more_trees (g.comma (g.member name value) others) = ap (t.more (text_of_label name) (tree_literal value)) (more_trees others)

members_trees : (all : g.Members) → members_from (entries_members all) ≡ trees_members all
members_trees g.no_members = refl
members_trees (g.members (g.member name value) others) = ap (t.more (text_of_label name) (tree_literal value)) (more_trees others)

-- what is no value goes on with no literal
abbrev pub EndsLiteral : List Kind → Type 0
EndsLiteral rest = sees_value rest ≡ false

seen_no_local : (kind : Kind) → is_atom_kind kind ≡ true → is_local kind ≡ false
seen_no_local (k.Local id) seen = absurd (cc)
seen_no_local kind seen = refl

atom_no_local : (value : g.Atom) (rest : List Kind) → sees_local (spell_atom value rest) ≡ false
unfolding sees_local
atom_no_local value rest = seen_no_local (atom_kind value) (atom_seen value)

atom_starts : (value : g.Atom) (rest : List Kind) → (sees_value (spell_atom value rest) ≡ true) × (sees_local (spell_atom value rest) ≡ false) × (sees s.LeftBrace (spell_atom value rest) ≡ false)
unfolding sees_value
atom_starts value rest =
    let no_brace = atom_no_sign value s.LeftBrace rest in
    (ap (λ (brace : Bool). brace || sees_atom (spell_atom value rest)) no_brace ∙ atom_seen_here value rest, atom_no_local value rest, no_brace)

pub brace_starts : (rest : List Kind) → (sees_value (k.Symbol s.LeftBrace ∷ rest) ≡ true) × (sees_local (k.Symbol s.LeftBrace ∷ rest) ≡ false)
unfolding sees_value sees_local sees sees_atom
brace_starts rest = (refl, refl)

no_value : (rest : List Kind) → (sees_value (k.Symbol s.Comma ∷ rest) ≡ false) × (sees_value (k.Symbol s.RightBrace ∷ rest) ≡ false)
unfolding sees_value sees sees_atom
no_value rest = (refl, refl)

closing_no_comma : (rest : List Kind) → sees s.Comma (k.Symbol s.RightBrace ∷ rest) ≡ false
unfolding sees
closing_no_comma rest = refl

pub member_no_brace : (one : g.Member) (rest : List Kind) → sees s.RightBrace (spell_member one rest) ≡ false
unfolding sees
member_no_brace (g.member (g.word text) value) rest = refl
member_no_brace (g.member (g.quoted text) value) rest = refl

-- lengths
mutual
  longer_literal : (value : g.Literal) (rest : List Kind) → length rest < length (spell_literal value rest)
  longer_literal (g.local id) rest = omega arith
  longer_literal (g.atom None value) rest = omega arith
  longer_literal (g.atom (Some id) value) rest = omega arith
  longer_literal (g.braces None inner) rest = omega (arith, longer_members inner (k.Symbol s.RightBrace ∷ rest))
  longer_literal (g.braces (Some id) inner) rest = omega (arith, longer_members inner (k.Symbol s.RightBrace ∷ rest))

  longer_members : (all : g.Members) (rest : List Kind) → length rest ≤ length (spell_members all rest)
  longer_members g.no_members rest = omega arith
  longer_members (g.members first others) rest = omega (arith, longer_member first (spell_more_members others rest), longer_more others rest)

  longer_more : (others : g.MoreMembers) (rest : List Kind) → length rest ≤ length (spell_more_members others rest)
  longer_more g.no_more rest = omega arith
  longer_more (g.comma first others) rest = omega (arith, longer_member first (spell_more_members others rest), longer_more others rest)

  pub longer_member : (one : g.Member) (rest : List Kind) → length rest < length (spell_member one rest)
  longer_member (g.member (g.word text) value) rest = omega (arith, longer_literal value rest)
  longer_member (g.member (g.quoted text) value) rest = omega (arith, longer_literal value rest)

-- each function by what it calls
module _ (inner : Parse (List Entry)) where
  literal-bare : (id : ℕ) (rest : List Kind) → sees_value rest ≡ false → ◌≡◌ {A = Outcome LiteralTree} (literal inner (k.Local id ∷ rest)) (Some (t.local id, rest))
  unfolding literal sees_local local
  literal-bare id rest ends = rw ends

  pub literal-marked : (mark : Option ℕ) (rest : List Kind) → (sees_value rest ≡ true) × (sees_local rest ≡ false) → literal inner (spell_mark mark rest) ≡ valued inner mark rest
  unfolding literal sees_local local
  literal-marked None rest starts = rw starts.1
  literal-marked (Some id) rest starts = rw starts.0

  valued-brace : (mark : Option ℕ) (kinds rest : List Kind) (all : List Entry) → ◌≡◌ {A = Outcome (List Entry)} (inner kinds) (Some (all, rest))
      → ◌≡◌ {A = Outcome LiteralTree} (valued inner mark (k.Symbol s.LeftBrace ∷ kinds)) (Some (t.node mark (members_from all), rest))
  unfolding valued
  valued-brace mark kinds rest all read = rw (sees-sign s.LeftBrace kinds, read)

  valued-atom : (mark : Option ℕ) (value : g.Atom) (rest : List Kind)
      → ◌≡◌ {A = Outcome LiteralTree} (valued inner mark (spell_atom value rest)) (Some (t.atom mark (value_of_atom value), rest))
  unfolding valued
  valued-atom mark value rest = let starts = atom_starts value rest in rw (starts.2, complete_atom value rest)

  member-labelled : (name : g.Label) (kinds rest : List Kind) (tree : LiteralTree) → ◌≡◌ {A = Outcome LiteralTree} (literal inner kinds) (Some (tree, rest))
      → ◌≡◌ {A = Outcome Entry} (member inner (spell_label name kinds)) (Some ((text_of_label name, tree), rest))
  unfolding member
  member-labelled name kinds rest tree read = rw (complete_label name kinds, read)

  members-none : (rest : List Kind) → ◌≡◌ {A = Outcome (List Entry)} (members inner (k.Symbol s.RightBrace ∷ rest)) (Some ([], rest))
  unfolding members
  members-none rest = rw (sees-sign s.RightBrace rest)

  members-some : (kinds mid rest : List Kind) (first : Entry) (all : List Entry) → sees s.RightBrace kinds ≡ false
      → ◌≡◌ {A = Outcome Entry} (member inner kinds) (Some (first, mid))
      → ◌≡◌ {A = Outcome (List Entry)} (each_in (sees s.Comma) (member inner) (length mid) (first ∷ []) mid) (Some (all, k.Symbol s.RightBrace ∷ rest))
      → ◌≡◌ {A = Outcome (List Entry)} (members inner kinds) (Some (all, rest))
  unfolding members more_members each
  members-some kinds mid rest first all unclosed one others = rw (unclosed, one, others, expect-sign s.RightBrace rest)

pub inside-deeper : (depth : ℕ) (kinds : List Kind) → inside (suc depth) kinds ≡ members (inside depth) kinds
unfolding inside
inside-deeper depth kinds = refl

pub more_ends : (others : g.MoreMembers) (rest : List Kind) → sees_value (spell_more_members others (k.Symbol s.RightBrace ∷ rest)) ≡ false
more_ends g.no_more rest = let none = no_value rest in none.1
more_ends (g.comma first others) rest = let none = no_value (spell_member first (spell_more_members others (k.Symbol s.RightBrace ∷ rest))) in none.0

mutual
  complete_literal : (depth : ℕ) (value : g.Literal) (rest : List Kind) → nest_literal value ≤ depth → sees_value rest ≡ false
      → ◌≡◌ {A = Outcome LiteralTree} (literal (inside depth) (spell_literal value rest)) (Some (tree_literal value, rest))
  complete_literal depth (g.local id) rest deep ends = literal-bare (inside depth) id rest ends
  complete_literal depth (g.atom mark value) rest deep ends =
      let starts = atom_starts value rest in
      literal-marked (inside depth) mark (spell_atom value rest) (starts.0, starts.1) ∙ valued-atom (inside depth) mark value rest
  complete_literal zero (g.braces mark inner) rest deep ends = absurd (omega arith)
  complete_literal (suc depth) (g.braces mark inner) rest deep ends =
      let tail = spell_members inner (k.Symbol s.RightBrace ∷ rest) in
      let read = inside-deeper depth tail ∙ complete_members depth inner rest (omega arith) in
      literal-marked (inside (suc depth)) mark (k.Symbol s.LeftBrace ∷ tail) (brace_starts tail)
      ∙ valued-brace (inside (suc depth)) mark tail rest (entries_members inner) read
      ∙ ap (λ (all : MemberTrees). Some (t.node mark all, rest)) (members_trees inner)

  complete_members : (depth : ℕ) (all : g.Members) (rest : List Kind) → nest_members all ≤ depth
      → ◌≡◌ {A = Outcome (List Entry)} (members (inside depth) (spell_members all (k.Symbol s.RightBrace ∷ rest))) (Some (entries_members all, rest))
  complete_members depth g.no_members rest deep = members-none (inside depth) rest
  complete_members depth (g.members first others) rest deep =
      let mid = spell_more_members others (k.Symbol s.RightBrace ∷ rest) in
      members-some (inside depth) (spell_member first mid) mid rest (entry_of first) (entry_of first ∷ entries_more others) (member_no_brace first mid)
      (complete_member depth first mid (omega arith) (more_ends others rest))
      (complete_more depth others (length mid) (entry_of first ∷ []) rest (omega arith) (omega arith))

  complete_more : (depth : ℕ) (others : g.MoreMembers) (turns : ℕ) (before : List Entry) (rest : List Kind) → nest_more_members others ≤ depth
      → length (spell_more_members others (k.Symbol s.RightBrace ∷ rest)) ≤ turns
      → ◌≡◌ {A = Outcome (List Entry)} (each_in (sees s.Comma) (member (inside depth)) turns before (spell_more_members others (k.Symbol s.RightBrace ∷ rest)))
      (Some (before ++ entries_more others, k.Symbol s.RightBrace ∷ rest))
  complete_more depth g.no_more turns before rest deep fits =
      rw append-nil (each_in-end (sees s.Comma) (member (inside depth)) turns before (k.Symbol s.RightBrace ∷ rest) (closing_no_comma rest))
  complete_more depth (g.comma first others) zero before rest deep fits = absurd (omega arith)
  complete_more depth (g.comma first others) (suc turns) before rest deep fits =
      let mid = spell_more_members others (k.Symbol s.RightBrace ∷ rest) in
      let fewer : length mid ≤ turns = omega (arith, longer_member first mid) in
      each_in-more (sees s.Comma) (member (inside depth)) turns before (k.Symbol s.Comma ∷ spell_member first mid) mid (entry_of first) (sees-sign s.Comma (spell_member first mid))
      (complete_member depth first mid (omega arith) (more_ends others rest))
      ∙ complete_more depth others turns (before ++ entry_of first ∷ []) rest (omega arith) fewer
      ∙ ap (λ (all : List Entry). Some (all, k.Symbol s.RightBrace ∷ rest)) (append_assoc before (entry_of first ∷ []) (entries_more others))

  pub complete_member : (depth : ℕ) (one : g.Member) (rest : List Kind) → nest_member one ≤ depth → sees_value rest ≡ false
      → ◌≡◌ {A = Outcome Entry} (member (inside depth) (spell_member one rest)) (Some (entry_of one, rest))
  complete_member depth (g.member name value) rest deep ends =
      member-labelled (inside depth) name (spell_literal value rest) rest (tree_literal value) (complete_literal depth value rest deep ends)

-- soundness

pub local_some : (kinds rest : List Kind) (id : ℕ) → ◌≡◌ {A = Outcome ℕ} (local kinds) (Some (id, rest)) → kinds ≡ k.Local id ∷ rest
unfolding local
local_some [] rest id read = absurd (none_some read)
local_some (k.Local other ∷ kinds) rest id read = let parts = some_parts read in cc (parts.0, parts.1)
local_some (_ ∷ kinds) rest id read = absurd (none_some read)

-- what was read inside braces
record AreMembers (depth : ℕ) (kinds rest : List Kind) (found : List Entry) : Type 0 where
  by : g.Members
  deep : nest_members by + 1 ≤ depth
  spelled : kinds ≡ spell_members by (k.Symbol s.RightBrace ∷ rest)
  stands : entries_members by ≡ found

record AreMore (depth : ℕ) (kinds rest : List Kind) (before found : List Entry) : Type 0 where
  by : g.MoreMembers
  deep : nest_more_members by ≤ depth
  spelled : kinds ≡ spell_more_members by rest
  stands : before ++ entries_more by ≡ found

-- over what is read inside braces
module _ (depth : ℕ) (inner : Parse (List Entry)) (inner_sound : (kinds rest : List Kind) (found : List Entry)
    → ◌≡◌ {A = Outcome (List Entry)} (inner kinds) (Some (found, rest)) → AreMembers depth kinds rest found) where
  valued_sound : (mark : Option ℕ) (kinds rest : List Kind) (tree : LiteralTree) → ◌≡◌ {A = Outcome LiteralTree} (valued inner mark kinds) (Some (tree, rest))
      → IsRead spell_literal tree_literal nest_literal depth (spell_mark mark kinds) rest tree
  unfolding valued
  valued_sound mark kinds rest tree read =
      elim (cases_Bool (sees s.LeftBrace kinds)) [
        | inl brace ↦
            let finish : List Entry → Parse LiteralTree = λ all left. Some (t.node mark (members_from all), left) in
            let (all, end, held, last) = bind_some (inner (next kinds)) finish tree rest (rw brace at read) in
            let parts = some_parts last in
            let x = inner_sound (next kinds) end all held in
            record {
              by = g.braces mark x.by;
              deep = x.deep;
              spelled = ap (spell_mark mark) (sees_sign s.LeftBrace kinds brace ∙ ap (λ (left : List Kind). k.Symbol s.LeftBrace ∷ left) (x.spelled
                  ∙ ap (λ (left : List Kind). spell_members x.by (k.Symbol s.RightBrace ∷ left)) parts.1));
              stands = ap (t.node mark) (sym (members_trees x.by)) ∙ ap (λ (found : List Entry). t.node mark (members_from found)) x.stands ∙ parts.0;
            }
        | inr other ↦
            let finish : Value → Parse LiteralTree = λ value left. Some (t.atom mark value, left) in
            let (value, end, held, last) = bind_some (atom kinds) finish tree rest (rw other at read) in
            let parts = some_parts last in
            let x = sound_atom kinds end value held in
            record {
              by = g.atom mark x.by;
              deep = omega arith;
              spelled = ap (spell_mark mark) (x.spelled ∙ ap (spell_atom x.by) parts.1);
              stands = ap (t.atom mark) x.stands ∙ parts.0;
            }
      ]

  literal_sound : (kinds rest : List Kind) (tree : LiteralTree) → ◌≡◌ {A = Outcome LiteralTree} (literal inner kinds) (Some (tree, rest))
      → IsRead spell_literal tree_literal nest_literal depth kinds rest tree
  unfolding literal
  literal_sound kinds rest tree read =
      elim (cases_Bool (sees_local kinds)) [
        | inl marked ↦
            let more : ℕ → Parse LiteralTree = λ id left. cond (sees_value left) (valued inner (Some id) left) (Some (t.local id, left)) in
            let (id, mid, taken, others) = bind_some (local kinds) more tree rest (rw marked at read) in
            let first = local_some kinds mid id taken in
            elim (cases_Bool (sees_value mid)) [
              | inl valued ↦
                  let x = valued_sound (Some id) mid rest tree (rw valued at others) in
                  record { by = x.by; deep = x.deep; spelled = first ∙ x.spelled; stands = x.stands }
              | inr bare ↦
                  let parts = some_parts (rw bare at others) in
                  record { by = g.local id; deep = omega arith; spelled = first ∙ ap (λ (left : List Kind). k.Local id ∷ left) parts.1; stands = parts.0 }
            ]
        | inr unmarked ↦ valued_sound None kinds rest tree (rw unmarked at read)
      ]

  member_sound : (kinds rest : List Kind) (one : Entry) → ◌≡◌ {A = Outcome Entry} (member inner kinds) (Some (one, rest))
      → IsRead spell_member entry_of nest_member depth kinds rest one
  unfolding member
  member_sound kinds rest one read =
      let more : List ℕ → Parse Entry = λ text left. and_then (literal inner left) (λ tree end. Some ((text, tree), end)) in
      let (text, mid, labelled, others) = bind_some (label kinds) more one rest read in
      let finish : LiteralTree → Parse Entry = λ tree end. Some ((text, tree), end) in
      let (tree, end, held, last) = bind_some (literal inner mid) finish one rest others in
      let parts = some_parts last in
      let x = sound_label kinds mid text labelled in
      let y = literal_sound mid end tree held in
      record {
        by = g.member x.by y.by;
        deep = y.deep;
        spelled = x.spelled ∙ ap (spell_label x.by) (y.spelled ∙ ap (spell_literal y.by) parts.1);
        stands = ap (λ (label : List ℕ). (label, tree_literal y.by)) x.stands ∙ ap (λ (value : LiteralTree). (text, value)) y.stands ∙ parts.0;
      }

  more_sound : (turns : ℕ) (before found : List Entry) (kinds rest : List Kind)
      → ◌≡◌ {A = Outcome (List Entry)} (each_in (sees s.Comma) (member inner) turns before kinds) (Some (found, rest)) → AreMore depth kinds rest before found
  unfolding each_in
  more_sound zero before found kinds rest read =
      let parts = some_parts read in
      record { by = g.no_more; deep = omega arith; spelled = parts.1; stands = append-nil before ∙ parts.0 }
  more_sound (suc turns) before found kinds rest read =
      elim (cases_Bool (sees s.Comma kinds)) [
        | inl comma ↦
            let go_on : Entry → Parse (List Entry) = λ one left. each_in (sees s.Comma) (member inner) turns (before ++ one ∷ []) left in
            let (one, mid, first, others) = bind_some (member inner (next kinds)) go_on found rest (rw comma at read) in
            let x = member_sound (next kinds) mid one first in
            let y = more_sound turns (before ++ one ∷ []) found mid rest others in
            record {
              by = g.comma x.by y.by;
              deep = let u = x.deep in let v = y.deep in omega arith;
              spelled = sees_sign s.Comma kinds comma ∙ ap (λ (left : List Kind). k.Symbol s.Comma ∷ left) (x.spelled ∙ ap (spell_member x.by) y.spelled);
              stands = ap (λ (entry : Entry). before ++ entry ∷ entries_more y.by) x.stands ∙ sym (append_assoc before (one ∷ []) (entries_more y.by)) ∙ y.stands;
            }
        | inr ended ↦
            let parts = some_parts (rw ended at read) in
            record { by = g.no_more; deep = omega arith; spelled = parts.1; stands = append-nil before ∙ parts.0 }
      ]

  members_sound : (kinds rest : List Kind) (found : List Entry) → ◌≡◌ {A = Outcome (List Entry)} (members inner kinds) (Some (found, rest))
      → AreMembers (suc depth) kinds rest found
  unfolding members more_members each
  members_sound kinds rest found read =
      elim (cases_Bool (sees s.RightBrace kinds)) [
        | inl ended ↦
            let parts = some_parts (rw ended at read) in
            record {
              by = g.no_members;
              deep = omega arith;
              spelled = sees_sign s.RightBrace kinds ended ∙ ap (λ (left : List Kind). k.Symbol s.RightBrace ∷ left) parts.1;
              stands = parts.0;
            }
        | inr some ↦
            let close : List Entry → Parse (List Entry) = λ all left. and_then (expect s.RightBrace left) (λ _ end. Some (all, end)) in
            let more : Entry → Parse (List Entry) = λ first left. and_then (each_in (sees s.Comma) (member inner) (length left) (first ∷ []) left) close in
            let (first, mid, held, others) = bind_some (member inner kinds) more found rest (rw some at read) in
            let (all, end, went_on, ended) = bind_some (each_in (sees s.Comma) (member inner) (length mid) (first ∷ []) mid) close found rest others in
            let finish : Unit {0} → Parse (List Entry) = λ _ left. Some (all, left) in
            let (u, behind, taken, last) = bind_some (expect s.RightBrace end) finish found rest ended in
            let parts = some_parts last in
            let x = member_sound kinds mid first held in
            let y = more_sound (length mid) (first ∷ []) all mid end went_on in
            record {
              by = g.members x.by y.by;
              deep = let u = x.deep in let v = y.deep in omega arith;
              spelled = x.spelled ∙ ap (spell_member x.by) (y.spelled ∙ ap (spell_more_members y.by) (expect_some s.RightBrace end behind u taken
                  ∙ ap (λ (left : List Kind). k.Symbol s.RightBrace ∷ left) parts.1));
              stands = ap (λ (entry : Entry). entry ∷ entries_more y.by) x.stands ∙ y.stands ∙ parts.0;
            }
      ]

inside_sound : (depth : ℕ) (kinds rest : List Kind) (found : List Entry) → ◌≡◌ {A = Outcome (List Entry)} (inside depth kinds) (Some (found, rest))
    → AreMembers depth kinds rest found
unfolding inside
inside_sound zero kinds rest found read = absurd (none_some read)
inside_sound (suc depth) kinds rest found read = members_sound depth (inside depth) (inside_sound depth) kinds rest found read

pub literal_parser : (depth : ℕ) → IsParserOf (literal (inside depth)) spell_literal tree_literal nest_literal depth EndsLiteral
literal_parser depth = record {
  sound = λ kinds rest tree read. literal_sound depth (inside depth) (inside_sound depth) kinds rest tree read;
  complete = λ value rest deep ends. complete_literal depth value rest deep ends;
}
