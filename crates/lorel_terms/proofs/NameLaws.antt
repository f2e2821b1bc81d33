-- Names, labels and atoms: what is read is what the grammar derives.
use Rattle.std.proofs.Common.{◌≡◌, ℕ, ◌<◌, true, false, List, [], ◌∷◌, length, cond, Option, Some, None, option_map, refl, ap, sym, ◌∙◌, inl, inr, arith}
use Rattle.std.specs.Str.{bytes_eq}
use Rattle.std.proofs.lemmas.Bool.{cases_Bool}
use Rattle.std.proofs.lemmas.Slice.Eq.{bytes_eq-Decides}
use Rattle.lore_base.specs.Names.{is_reserved}
use Rattle.lorel_terms.specs.Types.{Value, Kind, Sign}
use Rattle.lorel_tokens.specs.declared.token_types.Kind.TheVariants as k
use Rattle.lorel_trees.specs.Grammar as g
use Rattle.lorel_trees.specs.Paths.{spell_name, text_of_name, spell_label, text_of_label}
use Rattle.lorel_trees.specs.Literals.{atom_kind, spell_atom, value_of_atom, atom_of, is_atom_kind}
use Rattle.lorel_trees.proofs.AtomLaws.{atom_read, atom_back, atom_seen, seen_atom, atom_reserved, name_no_atom}
use Rattle.lorel_terms.specs.Outcomes.{Outcome, found, is_symbol, is_word, sees, sees_word}
use Rattle.lorel_terms.specs.Names.{name, is_name, label, sees_name, sees_atom, atom}
use Rattle.lorel_terms.proofs.OutcomeLaws.{some_parts, none_some}

not_both : true ≡ false → ⊥
not_both same = cc

-- derivations of the tokens that a parser took
pub record IsName (kinds rest : List Kind) (text : List ℕ) : Type 0 where
  pub by : g.Name
  pub spelled : kinds ≡ spell_name by rest
  pub stands : text_of_name by ≡ text

pub record IsLabel (kinds rest : List Kind) (text : List ℕ) : Type 0 where
  pub by : g.Label
  pub spelled : kinds ≡ spell_label by rest
  pub stands : text_of_label by ≡ text

pub record IsAtom (kinds rest : List Kind) (value : Value) : Type 0 where
  pub by : g.Atom
  pub spelled : kinds ≡ spell_atom by rest
  pub stands : value_of_atom by ≡ value

pub complete_name : (one : g.Name) (rest : List Kind) → ◌≡◌ {A = Outcome (List ℕ)} (name (spell_name one rest)) (Some (text_of_name one, rest))
unfolding name
complete_name (g.free text free) rest = rw free

pub complete_label : (one : g.Label) (rest : List Kind) → ◌≡◌ {A = Outcome (List ℕ)} (label (spell_label one rest)) (Some (text_of_label one, rest))
unfolding label
complete_label (g.word text) rest = refl
complete_label (g.quoted text) rest = refl

pub complete_atom : (one : g.Atom) (rest : List Kind) → ◌≡◌ {A = Outcome Value} (atom (spell_atom one rest)) (Some (value_of_atom one, rest))
unfolding atom
complete_atom one rest = rw (atom_read one)

checked_name : (text : List ℕ) (kinds rest : List Kind) (read : List ℕ)
    → ◌≡◌ {A = Outcome (List ℕ)} (found (cond (is_reserved text) None (Some text)) kinds) (Some (read, rest)) → IsName (k.Word text ∷ kinds) rest read
checked_name text kinds rest read same =
    elim (cases_Bool (is_reserved text)) [
      | inl reserved ↦ absurd (none_some (rw reserved at same))
      | inr free ↦
          let parts = some_parts (rw free at same) in
          record { by = g.free text free; spelled = ap (λ (behind : List Kind). k.Word text ∷ behind) parts.1; stands = parts.0 }
    ]

pub sound_name : (kinds rest : List Kind) (text : List ℕ) → ◌≡◌ {A = Outcome (List ℕ)} (name kinds) (Some (text, rest)) → IsName kinds rest text
unfolding name
sound_name [] rest text read = absurd (none_some read)
sound_name (k.Word word ∷ kinds) rest text read = checked_name word kinds rest text read
sound_name (_ ∷ kinds) rest text read = absurd (none_some read)

pub sound_label : (kinds rest : List Kind) (text : List ℕ) → ◌≡◌ {A = Outcome (List ℕ)} (label kinds) (Some (text, rest)) → IsLabel kinds rest text
unfolding label
sound_label [] rest text read = absurd (none_some read)
sound_label (k.Word word ∷ kinds) rest text read =
    let parts = some_parts read in
    record { by = g.word word; spelled = ap (λ (behind : List Kind). k.Word word ∷ behind) parts.1; stands = parts.0 }
sound_label (k.Quoted word ∷ kinds) rest text read =
    let parts = some_parts read in
    record { by = g.quoted word; spelled = ap (λ (behind : List Kind). k.Quoted word ∷ behind) parts.1; stands = parts.0 }
sound_label (_ ∷ kinds) rest text read = absurd (none_some read)

found_atom : (kind : Kind) (one : Option g.Atom) (kinds rest : List Kind) (value : Value) → atom_of kind ≡ one
    → ◌≡◌ {A = Outcome Value} (found (option_map value_of_atom one) kinds) (Some (value, rest)) → IsAtom (kind ∷ kinds) rest value
found_atom kind None kinds rest value is read = absurd (none_some read)
found_atom kind (Some one) kinds rest value is read =
    let parts = some_parts read in
    record {
      by = one;
      spelled = ap (λ (first : Kind). first ∷ kinds) (atom_back kind one is) ∙ ap (λ (behind : List Kind). atom_kind one ∷ behind) parts.1;
      stands = parts.0;
    }

pub sound_atom : (kinds rest : List Kind) (value : Value) → ◌≡◌ {A = Outcome Value} (atom kinds) (Some (value, rest)) → IsAtom kinds rest value
unfolding atom
sound_atom [] rest value read = absurd (none_some read)
sound_atom (kind ∷ kinds) rest value read = found_atom kind (atom_of kind) kinds rest value refl read

-- what stands where an atom does

seen_no_sign : (kind : Kind) (sign : Sign) → is_atom_kind kind ≡ true → is_symbol sign kind ≡ false
seen_no_sign (k.Symbol other) sign seen = absurd (cc)
seen_no_sign kind sign seen = refl

seen_no_name : (kind : Kind) → is_atom_kind kind ≡ true → is_name kind ≡ false
seen_no_name (k.Word word) seen = let (one, is) = seen_atom (k.Word word) seen in rw (atom_reserved one word is)
seen_no_name kind seen = refl

seen_no_word : (kind : Kind) (wanted : List ℕ) → is_atom_kind kind ≡ true → is_atom_kind (k.Word wanted) ≡ false → is_word wanted kind ≡ false
seen_no_word (k.Word word) wanted seen other =
    elim (cases_Bool (bytes_eq word wanted)) [
      | inl same ↦
          let is : word ≡ wanted = (bytes_eq-Decides word wanted).0 same in
          absurd (not_both (sym seen ∙ ap (λ (text : List ℕ). is_atom_kind (k.Word text)) is ∙ other))
      | inr differs ↦ differs
    ]
seen_no_word kind wanted seen other = refl

pub atom_seen_here : (one : g.Atom) (rest : List Kind) → sees_atom (spell_atom one rest) ≡ true
unfolding sees_atom
atom_seen_here one rest = atom_seen one

pub atom_no_sign : (one : g.Atom) (sign : Sign) (rest : List Kind) → sees sign (spell_atom one rest) ≡ false
unfolding sees
atom_no_sign one sign rest = seen_no_sign (atom_kind one) sign (atom_seen one)

pub atom_no_name : (one : g.Atom) (rest : List Kind) → sees_name (spell_atom one rest) ≡ false
unfolding sees_name
atom_no_name one rest = seen_no_name (atom_kind one) (atom_seen one)

pub atom_no_word : (one : g.Atom) (wanted : List ℕ) (rest : List Kind) → is_atom_kind (k.Word wanted) ≡ false → sees_word wanted (spell_atom one rest) ≡ false
unfolding sees_word
atom_no_word one wanted rest other = seen_no_word (atom_kind one) wanted (atom_seen one) other

pub name_no_atom_here : (one : g.Name) (rest : List Kind) → sees_atom (spell_name one rest) ≡ false
unfolding sees_atom
name_no_atom_here (g.free text free) rest = name_no_atom text free

-- each takes a token
pub longer_name : (one : g.Name) (rest : List Kind) → length rest < length (spell_name one rest)
longer_name (g.free text free) rest = omega arith

pub longer_label : (one : g.Label) (rest : List Kind) → length rest < length (spell_label one rest)
longer_label (g.word text) rest = omega arith
longer_label (g.quoted text) rest = omega arith

pub longer_atom : (one : g.Atom) (rest : List Kind) → length rest < length (spell_atom one rest)
longer_atom one rest = omega arith
