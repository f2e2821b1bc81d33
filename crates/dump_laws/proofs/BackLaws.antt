-- What is printed for a restorable database is read back.
use Rattle.std.proofs.Common.{◌≡◌, ℕ, true, List, [], ◌∷◌, ◌++◌, codes, All, ap, sym, subst, lit≤}
use Rattle.std.proofs.lemmas.List.Elements.{All-cons, All-tail}
use Rattle.dump_laws.specs.Types.{Kind}
use Rattle.dump_laws.specs.Types.kinds as k
use Rattle.dump_laws.specs.Laws.{AreTexts, IsReadAs, DumpsReadBack, DumpsAreSound}
use Rattle.lore_base.specs.Databases.{Database}
use Rattle.lorel_lex.specs.Gaps.{is_blank}
use Rattle.lorel_tokens.specs.Forms.{HasForm}
use Rattle.lorel_lex.specs.Writing.{IsUtf8Token, HasKinds}
use Rattle.lorel_lex.proofs.ReadBackLaws.{read_back}
use Rattle.lorel_trees.specs.Trees.{restore}
use Rattle.lorel_trees.specs.Grammar as g
use Rattle.lorel_trees.specs.Tokens.{HasTokens}
use Rattle.lorel_trees.proofs.FormLaws.{formed_all}
use Rattle.lorel_ast.specs.Printing.{print_dump, print_statement}
use Rattle.grammar_laws.proofs.PrintFormLaws.{statement_printed}
use Rattle.dump_text.specs.Dumps.{dump_tree, printed_dump}
use Rattle.lore_base.specs.Databases.{IsRestorable}
use Rattle.dump_laws.proofs.FormedLaws.{formed_dump}
use Rattle.dump_laws.proofs.DerivedLaws.{dump_derived}
use Rattle.dump_laws.proofs.LineLaws.{blank_before, token, dump_written}
use Rattle.dump_laws.proofs.TextLaws.{restore_utf8, dump_texts}

-- `restore` and the canonical tokens have their form
restore_formed : (db : Database) → IsRestorable db → All HasForm (k.Word (codes "restore") ∷ print_dump (dump_tree db) [])
restore_formed db is = formed_all (print_statement (restore (dump_tree db)) []) (statement_printed (restore (dump_tree db)) (formed_dump db is))

dump_formed : (db : Database) → IsRestorable db → All HasForm (print_dump (dump_tree db) [])
dump_formed db is = All-tail HasForm (k.Word (codes "restore")) (print_dump (dump_tree db) []) (restore_formed db is)

restored : (db : Database) → IsRestorable db → AreTexts db → (blank : ℕ) → is_blank blank ≡ true → IsReadAs (codes "restore" ++ blank ∷ printed_dump db) (restore (dump_tree db))
restored db is are blank space =
    let kinds = print_dump (dump_tree db) [] in
    let derived = dump_derived (dump_tree db) (formed_dump db is) in
    let word = k.Word (codes "restore") in
    let texts = All-cons IsUtf8Token word kinds restore_utf8 (dump_texts db is are) in
    let written = token word (blank ∷ printed_dump db) kinds space (blank_before blank kinds (printed_dump db) space (dump_written (dump_tree db))) in
    let has : HasTokens (restore (dump_tree db)) (word ∷ kinds) = record {
      by = g.restore derived.by;
      deep = lit≤ tt;
      spelled = ap (λ (l : List Kind). word ∷ l) (sym (derived.spelled []));
      tree = ap restore derived.same;
    } in
    (word ∷ kinds, read_back (word ∷ kinds) (codes "restore" ++ blank ∷ printed_dump db) (restore_formed db is) texts written, has)

pub dumps_read_back : DumpsReadBack
dumps_read_back db is are =
    let kinds = print_dump (dump_tree db) [] in
    let derived = dump_derived (dump_tree db) (formed_dump db is) in
    let same = sym (derived.spelled []) in
    record {
      by = derived.by;
      tree = derived.same;
      kinds = subst (HasKinds (printed_dump db)) same (read_back kinds (printed_dump db) (dump_formed db is) (dump_texts db is are) (dump_written (dump_tree db)));
      formed = subst (All HasForm) same (dump_formed db is);
      restored = restored db is are;
    }

pub dumps_are_sound : DumpsAreSound
dumps_are_sound db is =
    let derived = dump_derived (dump_tree db) (formed_dump db is) in
    record { by = derived.by; tree = derived.same; formed = subst (All HasForm) (sym (derived.spelled [])) (dump_formed db is) }
