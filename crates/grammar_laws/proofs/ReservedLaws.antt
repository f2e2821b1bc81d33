-- A reserved word is a label and no name.
use Rattle.std.proofs.Common.{◌≡◌, ℕ, true, false, List, [], ◌∷◌, codes, Bool, refl, ap, sym, ◌∙◌, lit≤, None}
use Rattle.std.specs.Str.{bytes_eq}
use Rattle.lore_base.specs.Names.{is_reserved}
use Rattle.lorel_trees.specs.Types.{Kind}
use Rattle.lorel_tokens.specs.declared.token_types.Kind.TheVariants as k
use Rattle.lorel_trees.specs.Grammar as g
use Rattle.lorel_trees.specs.Paths.{text_of_name}
use Rattle.lorel_trees.specs.Statements.{spell_statement}
use Rattle.lorel_trees.specs.Tokens.{HasTokens}
use Rattle.grammar_laws.specs.Laws.{labelled, KeepsReservedWords}

unreserved : (name : g.Name) → is_reserved (text_of_name name) ≡ false
unreserved (g.free text is) = is

-- `select G.WORD`
walks : List ℕ → g.Statement
walks word = g.select (g.query (g.object (g.rooted (g.free (codes "G") refl) (g.part (g.once (g.label (g.word word))) g.no_parts))) [] (g.tail [] None))

has_label : (word : List ℕ) → HasTokens (labelled word) (spell_statement (walks word) [])
unfolding walks
has_label word = record { by = walks word; deep = lit≤ tt; spelled = refl; tree = refl }

abbrev first_is : List ℕ → List Kind → Bool
first_is wanted (k.Word text ∷ kinds) = bytes_eq text wanted
first_is wanted _ = false

abbrev second_is_reserved : List Kind → Bool
second_is_reserved (kind ∷ k.Word text ∷ kinds) = is_reserved text
second_is_reserved _ = false

not_true : true ≡ false → ⊥
not_true same = absurd (cc)

bound_by : (by : g.Statement) (word : List ℕ) (rest : List Kind) → is_reserved word ≡ true → k.Word (codes "load") ∷ k.Word word ∷ rest ≡ spell_statement by [] → ⊥
bound_by (g.load (g.free text free) literal) word rest reserved same = not_true (sym reserved ∙ ap second_is_reserved same ∙ free)
bound_by (g.select (g.query first others end)) word rest reserved same = not_true (ap (first_is (codes "load")) same)
bound_by _ word rest reserved same = not_true (ap (first_is (codes "load")) same)

start_by : (by : g.Statement) (word : List ℕ) (rest : List Kind) → is_reserved word ≡ true → k.Word (codes "update") ∷ k.Word word ∷ rest ≡ spell_statement by [] → ⊥
start_by (g.assign (g.rooted (g.free text free) parts) value end) word rest reserved same = not_true (sym reserved ∙ ap second_is_reserved same ∙ free)
start_by (g.add (g.rooted (g.free text free) parts) label addition end) word rest reserved same = not_true (sym reserved ∙ ap second_is_reserved same ∙ free)
start_by (g.remove (g.rooted (g.free text free) parts) label right end) word rest reserved same = not_true (sym reserved ∙ ap second_is_reserved same ∙ free)
start_by (g.select (g.query first others end)) word rest reserved same = not_true (ap (first_is (codes "update")) same)
start_by _ word rest reserved same = not_true (ap (first_is (codes "update")) same)

pub keeps_reserved : KeepsReservedWords
unfolding walks
keeps_reserved = record {
  label = has_label;
  name = unreserved;
  bound = λ statement word rest reserved has. bound_by has.by word rest reserved has.spelled;
  start = λ statement word rest reserved has. start_by has.by word rest reserved has.spelled;
}
