-- Literals and dump texts are sound where they are parts of a sound statement.
use Rattle.std.proofs.Common.{◌≡◌, ℕ, ◌≤◌, List, [], ◌∷◌, ◌++◌, codes, refl, ap, ◌∙◌, subst, lit≤, Option, Some, None, arith}
use Rattle.lorel_trees.specs.Types.{NESTING, Kind}
use Rattle.lorel_tokens.specs.declared.token_types.Kind.TheVariants as k
use Rattle.lorel_tokens.specs.declared.token_types.Sign.TheVariants as s
use Rattle.lorel_tokens.specs.Forms.{HasForm}
use Rattle.lorel_trees.specs.declared.dump_trees.DumpTree.{DumpTree}
use Rattle.lorel_trees.specs.Trees as t
use Rattle.lorel_trees.specs.Grammar as g
use Rattle.lorel_trees.specs.Paths.{spell_label}
use Rattle.lorel_trees.specs.Literals.{spell_atom, spell_mark, spell_literal, spell_members, spell_more_members}
use Rattle.lorel_trees.specs.Selects.{spell_tail}
use Rattle.lorel_trees.specs.Statements.{spell_dump_text, spell_statement, tree_statement, nest_statement}
use Rattle.lorel_trees.specs.Sound.{IsSound, IsSoundLiteral, IsSoundDump}
use Rattle.grammar_laws.specs.Laws.{AreSoundParts, name_a}
use Rattle.lorel_trees.proofs.FormLaws.{Formed, formed_from, formed_all, name_formed, label_formed, path_formed}

a_formed : HasForm (k.Word (codes "A"))
a_formed = ((refl, refl), lit≤ tt)

load_formed : HasForm (k.Word (codes "load"))
load_formed = ((refl, refl), lit≤ tt)

restore_formed : HasForm (k.Word (codes "restore"))
restore_formed = ((refl, refl), lit≤ tt)

literal_loads : (literal : t.LiteralTree) → IsSoundLiteral literal → IsSound (t.load (codes "A") literal)
literal_loads literal sound = record {
  kinds = spell_statement (g.load name_a sound.by) [];
  spelled = record { by = g.load name_a sound.by; deep = sound.deep; spelled = refl; tree = ap (t.load (codes "A")) sound.tree };
  formed = formed_all (spell_statement (g.load name_a sound.by) []) (load_formed, (a_formed, (tt, formed_from (spell_literal sound.by []) sound.formed)));
}

-- the tokens of a literal stand before those that follow
label_front : (one : g.Label) (front rest : List Kind) → spell_label one (front ++ rest) ≡ spell_label one front ++ rest
label_front (g.word text) front rest = refl
label_front (g.quoted text) front rest = refl

atom_front : (value : g.Atom) (front rest : List Kind) → spell_atom value (front ++ rest) ≡ spell_atom value front ++ rest
atom_front value front rest = refl

mark_front : (mark : Option ℕ) (front rest : List Kind) → spell_mark mark (front ++ rest) ≡ spell_mark mark front ++ rest
mark_front None front rest = refl
mark_front (Some id) front rest = refl

mutual
  literal_front : (literal : g.Literal) (front rest : List Kind) → spell_literal literal (front ++ rest) ≡ spell_literal literal front ++ rest
  literal_front (g.local id) front rest = refl
  literal_front (g.atom mark value) front rest = ap (spell_mark mark) (atom_front value front rest) ∙ mark_front mark (spell_atom value front) rest
  literal_front (g.braces mark inner) front rest =
      ap (λ kinds. spell_mark mark (k.Symbol s.LeftBrace ∷ kinds)) (members_front inner (k.Symbol s.RightBrace ∷ front) rest)
      ∙ mark_front mark (k.Symbol s.LeftBrace ∷ spell_members inner (k.Symbol s.RightBrace ∷ front)) rest

  members_front : (inner : g.Members) (front rest : List Kind) → spell_members inner (front ++ rest) ≡ spell_members inner front ++ rest
  members_front g.no_members front rest = refl
  members_front (g.members (g.member label literal) others) front rest =
      ap (λ kinds. spell_label label (spell_literal literal kinds)) (more_members_front others front rest)
      ∙ ap (spell_label label) (literal_front literal (spell_more_members others front) rest)
      ∙ label_front label (spell_literal literal (spell_more_members others front)) rest

  more_members_front : (others : g.MoreMembers) (front rest : List Kind) → spell_more_members others (front ++ rest) ≡ spell_more_members others front ++ rest
  more_members_front g.no_more front rest = refl
  more_members_front (g.comma (g.member label literal) others) front rest =
      ap (λ kinds. k.Symbol s.Comma ∷ spell_label label (spell_literal literal kinds)) (more_members_front others front rest)
      ∙ ap (λ kinds. k.Symbol s.Comma ∷ spell_label label kinds) (literal_front literal (spell_more_members others front) rest)
      ∙ ap (λ kinds. k.Symbol s.Comma ∷ kinds) (label_front label (spell_literal literal (spell_more_members others front)) rest)

front_formed : (front rest : List Kind) → Formed (front ++ rest) → Formed front
front_formed [] rest formed = tt
front_formed (kind ∷ front) rest (form, formed) = (form, front_formed front rest formed)

literal_alone : (literal : g.Literal) (rest : List Kind) → Formed (spell_literal literal rest) → Formed (spell_literal literal [])
literal_alone literal rest formed = front_formed (spell_literal literal []) rest (subst Formed (literal_front literal [] rest) formed)

loaded_by : (by : g.Statement) (name : List ℕ) (literal : t.LiteralTree) → nest_statement by ≤ NESTING → tree_statement by ≡ t.load name literal
    → Formed (spell_statement by []) → IsSoundLiteral literal
loaded_by (g.load start one) name literal deep tree (word, formed) = record {
  by = one;
  deep = deep;
  tree = cc;
  formed = formed_all (spell_literal one []) (name_formed start (k.Symbol s.Assign ∷ spell_literal one []) formed).1.1;
}
loaded_by (g.add target label (g.fresh one) end) name literal deep tree formed = absurd (cc)
loaded_by (g.add target label (g.link path) end) name literal deep tree formed = absurd (cc)
loaded_by (g.browse (g.walked start steps)) name literal deep tree formed = absurd (cc)
loaded_by (g.sample (g.walked start steps) count) name literal deep tree formed = absurd (cc)
loaded_by _ name literal deep tree formed = absurd (cc)

added_by : (by : g.Statement) (target : t.RootedTree) (label : List ℕ) (literal : t.LiteralTree) (tail : t.TailTree) → nest_statement by ≤ NESTING
    → tree_statement by ≡ t.add_new target label literal tail → Formed (spell_statement by []) → IsSoundLiteral literal
added_by (g.add path name (g.fresh one) end) target label literal tail deep tree (word, formed) =
    let behind = (path_formed path _ formed).1 in
    let more = (label_formed name _ behind.1).1 in
    record { by = one; deep = omega arith; tree = cc; formed = formed_all (spell_literal one []) (literal_alone one (spell_tail end []) more.1) }
added_by (g.add path name (g.link right) end) target label literal tail deep tree formed = absurd (cc)
added_by (g.browse (g.walked start steps)) target label literal tail deep tree formed = absurd (cc)
added_by (g.sample (g.walked start steps) count) target label literal tail deep tree formed = absurd (cc)
added_by _ target label literal tail deep tree formed = absurd (cc)

text_restores : (text : DumpTree) → IsSoundDump text → IsSound (t.restore text)
text_restores text sound = record {
  kinds = spell_statement (g.restore sound.by) [];
  spelled = record { by = g.restore sound.by; deep = lit≤ tt; spelled = refl; tree = ap t.restore sound.tree };
  formed = formed_all (spell_statement (g.restore sound.by) []) (restore_formed, formed_from (spell_dump_text sound.by []) sound.formed);
}

restored_by : (by : g.Statement) (text : DumpTree) → tree_statement by ≡ t.restore text → Formed (spell_statement by []) → IsSoundDump text
restored_by (g.restore one) text tree (word, formed) = record { by = one; tree = cc; formed = formed_all (spell_dump_text one []) formed }
restored_by (g.add path name (g.fresh one) end) text tree formed = absurd (cc)
restored_by (g.add path name (g.link right) end) text tree formed = absurd (cc)
restored_by (g.browse (g.walked start steps)) text tree formed = absurd (cc)
restored_by (g.sample (g.walked start steps) count) text tree formed = absurd (cc)
restored_by _ text tree formed = absurd (cc)

spelled_formed : (statement : t.StatementTree) (sound : IsSound statement) → Formed (spell_statement sound.spelled.by [])
spelled_formed statement sound = subst Formed sound.spelled.spelled (formed_from sound.kinds sound.formed)

pub sound_parts : AreSoundParts
sound_parts = record {
  literal = literal_loads;
  loaded = λ name literal sound. loaded_by sound.spelled.by name literal sound.spelled.deep sound.spelled.tree (spelled_formed (t.load name literal) sound);
  added = λ target label literal tail sound. added_by sound.spelled.by target label literal tail sound.spelled.deep sound.spelled.tree (spelled_formed (t.add_new target label literal tail) sound);
  text = text_restores;
  restored = λ text sound. restored_by sound.spelled.by text sound.spelled.tree (spelled_formed (t.restore text) sound);
}
