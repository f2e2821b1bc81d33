-- The token of an atom: it tells the atom, and no path, local or brace begins with it.
use Rattle.std.proofs.Common.{◌≡◌, ◌⊎◌, inl, inr, ℕ, Bool, true, false, List, codes, Option, Some, None, option_map, refl, ap, sym, ◌∙◌}
use Rattle.std.specs.Option.{is_some}
use Rattle.std.specs.Str.{bytes_eq}
use Rattle.std.proofs.lemmas.Bool.{cases_Bool}
use Rattle.std.proofs.lemmas.Slice.Eq.{bytes_eq-Decides}
use Rattle.lore_base.specs.Names.{is_reserved}
use Rattle.lore_base.specs.Comparisons.{flag_text}
use Rattle.lorel_tokens.specs.declared.token_types.Kind.TheVariants as k
use Rattle.lorel_trees.specs.Types.{Value, Whole, Chars, Flag, Complex, Kind}
use Rattle.lorel_trees.specs.Grammar as g
use Rattle.lorel_trees.specs.Literals.{atom_kind, spell_atom, value_of_atom, flag_of, atom_of, is_atom_kind, spell_value}

-- a flag and its word

flag_read : (holds : Bool) → flag_of (flag_text holds) ≡ Some holds
flag_read true = refl
flag_read false = refl

flag_back : (word : List ℕ) (holds : Bool) → flag_of word ≡ Some holds → word ≡ flag_text holds
flag_back word holds read =
    elim (cases_Bool (bytes_eq word (codes "true"))) [
      | inl is ↦
          let same : true ≡ holds = let found = rw is at read in cc in
          (bytes_eq-Decides word (codes "true")).0 is ∙ ap flag_text same
      | inr other ↦
          let more = rw other at read in
          elim (cases_Bool (bytes_eq word (codes "false"))) [
            | inl is ↦
                let same : false ≡ holds = let found = rw is at more in cc in
                (bytes_eq-Decides word (codes "false")).0 is ∙ ap flag_text same
            | inr none ↦ absurd (let found = rw none at more in cc)
          ]
    ]

flagged : (found : Option Bool) (atom : g.Atom) → option_map g.flag found ≡ Some atom
    → (holds : Bool) × (found ≡ Some holds) × (atom ≡ g.flag holds)
flagged (Some holds) atom same = (holds, refl, cc)
flagged None atom same = absurd (cc)

-- an atom and its token

pub atom_read : (atom : g.Atom) → atom_of (atom_kind atom) ≡ Some atom
atom_read (g.number value) = refl
atom_read (g.chars text) = refl
atom_read (g.flag holds) = ap (option_map g.flag) (flag_read holds)

pub atom_back : (kind : Kind) (atom : g.Atom) → atom_of kind ≡ Some atom → kind ≡ atom_kind atom
atom_back (k.Number value) atom same = let is : g.number value ≡ atom = cc in ap atom_kind is
atom_back (k.Chars text) atom same = let is : g.chars text ≡ atom = cc in ap atom_kind is
atom_back (k.Word word) atom same =
    let (holds, found, is) = flagged (flag_of word) atom same in
    ap (λ (text : List ℕ). k.Word text) (flag_back word holds found) ∙ sym (ap atom_kind is)
atom_back _ atom same = absurd (cc)

some_is : {A : Type 0} (found : Option A) → is_some found ≡ true → (one : A) × (found ≡ Some one)
some_is (Some one) is = (one, refl)
some_is None is = absurd (cc)

-- the token tells that it is an atom, and which one
pub atom_seen : (atom : g.Atom) → is_atom_kind (atom_kind atom) ≡ true
atom_seen atom = ap is_some (atom_read atom)

pub seen_atom : (kind : Kind) → is_atom_kind kind ≡ true → (atom : g.Atom) × (kind ≡ atom_kind atom)
seen_atom kind seen = let (atom, is) = some_is (atom_of kind) seen in (atom, atom_back kind atom is)

pub atom_determined : (one other : g.Atom) → atom_kind one ≡ atom_kind other → one ≡ other
atom_determined one other same =
    let found : Some one ≡ Some other = sym (atom_read one) ∙ ap atom_of same ∙ atom_read other in
    cc

-- a word that is an atom is reserved
pub atom_reserved : (atom : g.Atom) (word : List ℕ) → k.Word word ≡ atom_kind atom → is_reserved word ≡ true
atom_reserved (g.number value) word same = absurd (cc)
atom_reserved (g.chars text) word same = absurd (cc)
atom_reserved (g.flag true) word same = let is : word ≡ codes "true" = cc in ap is_reserved is
atom_reserved (g.flag false) word same = let is : word ≡ codes "false" = cc in ap is_reserved is

-- so a name, with which a path begins, is no atom
pub name_no_atom : (word : List ℕ) → is_reserved word ≡ false → is_atom_kind (k.Word word) ≡ false
name_no_atom word free =
    elim (cases_Bool (is_atom_kind (k.Word word))) [
      | inl seen ↦
          let (atom, is) = seen_atom (k.Word word) seen in
          absurd (let reserved = atom_reserved atom word is in cc)
      | inr unseen ↦ unseen
    ]

-- a value is complex or that of an atom, and then it is spelled so
pub told_spelled : (value : Value) → (value ≡ Complex) ⊎ ((atom : g.Atom) × (value_of_atom atom ≡ value))
told_spelled (Whole number) = inr (g.number number, refl)
told_spelled (Chars text) = inr (g.chars text, refl)
told_spelled (Flag holds) = inr (g.flag holds, refl)
told_spelled Complex = inl refl

pub atom_spelled : (atom : g.Atom) (rest : List Kind) → spell_atom atom rest ≡ spell_value (value_of_atom atom) rest
atom_spelled (g.number value) rest = refl
atom_spelled (g.chars text) rest = refl
atom_spelled (g.flag holds) rest = refl
