-- Values that are equal to whole numbers, and the objects that have them.
use Rattle.std.proofs.Common.{◌≡◌, ◌≢◌, ◌<◌, ◌≤◌, ◌+◌, ◌++◌, ◌^◌, ◌-◌, ℕ, ℤ, pos, inl, inr, List, [], ◌∷◌, length, get_or, take, Option, None, Some, IfNone, IfSome, FitsSigned, w64, refl, sym, ap, ◌∙◌, subst, arith}
use Rattle.std.specs.List.{Contains}
use Rattle.std.specs.Ordering.{int_cmp}
use Rattle.std.specs.declared.cmp.Ordering.{Ordering}
use Rattle.std.specs.declared.cmp.Ordering.TheVariants.{Less, Equal, Greater}
use Rattle.std.proofs.lemmas.Cmp.{int_ranked}
use Rattle.std.proofs.lemmas.Int.{ints}
use Rattle.std.proofs.lemmas.Option.{none-some, same_Some}
use Rattle.std.proofs.lemmas.List.{take_more, take_all}
use Rattle.std.proofs.lemmas.List.Elements.{Contains-append_left, Contains-push, Contains-push_cases}
use Rattle.lore_base.specs.Comparisons.{Compares, ReadsAs}
use Rattle.lore_base.specs.declared.operators.Op.TheVariants.{Like}
use Rattle.lore_base.specs.Lists.{ExtendsBy}
use Rattle.lore_base.specs.TargetSets.{ListsInOrder}
use Rattle.lore_base.proofs.MemberLaws.{Contains-none}
use Rattle.index_traits.specs.Entries.{IsFound, entry_of}
use Rattle.value_orders.proofs.ReadingLaws.{reading_from}
use Rattle.join_tables.specs.Types.{Oid, Label, Value, Whole, Chars, Flag, Complex, Eq, Le, ValueEntry}
use Rattle.join_tables.specs.Tables.{AreValuesOf}
use Rattle.join_tables.specs.inside.Numbers.{TakesNumber, AreNumbered, HasEnds}

-- numbers that compare as equal are one number
pub same_number : (a b : ℤ) (order : Ordering) → order ≡ int_cmp a b → order ≡ Equal → a ≡ b
same_number a b Equal is equal = int_ranked a b Equal is
same_number a b Less is equal = absurd (cc)
same_number a b Greater is equal = absurd (cc)

-- an ordinary comparison is no pattern
not_like : Eq ≡ Like → ⊥
not_like same = absurd (cc)

-- a text reads as one number
one_reading : (text : List ℕ) (a b : ℤ) → ReadsAs text a → ReadsAs text b → a ≡ b
one_reading text a b first second = same_Some a b (sym (reading_from text a first) ∙ reading_from text b second)

-- the number that a value is equal to
pub whole_is : (own number : ℤ) → Compares (Whole own) Eq (Whole number) → own ≡ number
whole_is own number compares = elim compares [
  | inl ordered ↦ same_number own number ordered.0 ordered.1 ordered.2
  | inr like ↦ absurd (not_like like.0)
]

pub reads_as : (text : List ℕ) (number : ℤ) → Compares (Chars text) Eq (Whole number) → ReadsAs text number
reads_as text number compares = elim compares [
  | inl ordered ↦
      let reads = ordered.1 in
      subst (ReadsAs text) (same_number reads.0 number ordered.0 reads.2 ordered.2) reads.1
  | inr like ↦ absurd (not_like like.0)
]

pub flag_never : (own : _) (number : ℤ) → Compares (Flag own) Eq (Whole number) → ⊥
flag_never own number compares = elim compares [
  | inl ordered ↦ ordered.1
  | inr like ↦ not_like like.0
]

pub complex_never : (number : ℤ) → Compares Complex Eq (Whole number) → ⊥
complex_never number compares = elim compares [
  | inl ordered ↦ ordered.1
  | inr like ↦ not_like like.0
]

-- what was read is that number
pub text_is : (text : List ℕ) (found : Option ℤ) → IfSome found (λ number. ReadsAs text number) → IfNone found ((number : ℤ) → ReadsAs text number → ⊥)
    → (number : ℤ) → Compares (Chars text) Eq (Whole number) → found ≡ Some number
text_is text (Some own) some none number compares = ap Some (one_reading text own number some (reads_as text number compares))
text_is text None some none number compares = absurd (none number (reads_as text number compares))

-- a number of 64 bits is at most the greatest
not_above : (number most : ℤ) → FitsSigned w64 number → most ≡ pos (2 ^ 63 - 1) → int_cmp number most ≢ Greater
not_above number most fits is above =
    let higher = int_ranked number most Greater (sym above) in
    absurd (omega (arith, ints, fits, is, higher))

-- a value that is equal to one is at most the greatest too
pub at_most : (own : Value) (number most : ℤ) → FitsSigned w64 number → most ≡ pos (2 ^ 63 - 1) → Compares own Eq (Whole number) → Compares own Le (Whole most)
at_most (Whole own) number most fits is compares =
    inl (int_cmp own most, refl, subst (λ (n : ℤ). int_cmp n most ≢ Greater) (sym (whole_is own number compares)) (not_above number most fits is))
at_most (Chars text) number most fits is compares =
    inl (int_cmp number most, (number, reads_as text number compares, refl), not_above number most fits is)
at_most (Flag own) number most fits is compares = absurd (flag_never own number compares)
at_most Complex number most fits is compares = absurd (complex_never number compares)

module _ (objects : List (Oid × Value)) where
  pub numbered_none : (rows : List (ℤ × Oid)) → AreNumbered objects [] rows
  numbered_none rows oid value number at has compares = absurd (Contains-none oid at)

  pub numbered_more : (oids : List Oid) (old new : List (ℤ × Oid)) (i : ℕ) (d : Oid) → i < length oids → TakesNumber objects (get_or oids i d) old new
      → AreNumbered objects (take i oids) old → AreNumbered objects (take (i + 1) oids) new
  numbered_more oids old new i d within more so_far oid value number at has compares =
      elim (Contains-push_cases (take i oids) (get_or oids i d) oid (subst (λ (l : List Oid). Contains l oid) (take_more oids i d within) at)) [
        | inl early ↦ more.kept (number, oid) (so_far oid value number early has compares)
        | inr same ↦ subst (λ (o : Oid). Contains new (number, o)) same
            (more.taken value number (subst (λ (o : Oid). Contains objects (o, value)) (sym same) has) compares)
      ]

  pub numbered_all : (oids : List Oid) (rows : List (ℤ × Oid)) (i : ℕ) → length oids ≤ i → AreNumbered objects (take i oids) rows → AreNumbered objects oids rows
  numbered_all oids rows i past so_far = subst (λ (l : List Oid). AreNumbered objects l rows) (take_all i oids past) so_far

  -- one object more
  pub taken_number : (oid : Oid) (own : Option ℤ) (number pushed : ℤ) (old new : List (ℤ × Oid)) → own ≡ Some number → pushed ≡ number
      → ((value : Value) (n : ℤ) → Contains objects (oid, value) → Compares value Eq (Whole n) → own ≡ Some n)
      → new ≡ old ++ (pushed, oid) ∷ [] → TakesNumber objects oid old new
  taken_number oid own number pushed old new is kept only grown = record {
    kept = λ row at. subst (λ (l : List (ℤ × Oid)). Contains l row) (sym grown) (Contains-append_left old ((pushed, oid) ∷ []) row at);
    taken = λ value n has compares.
        let same : pushed ≡ n = kept ∙ same_Some number n (sym is ∙ only value n has compares) in
        subst (λ (k : ℤ). Contains new (k, oid)) same
        (subst (λ (l : List (ℤ × Oid)). Contains l (pushed, oid)) (sym grown) (Contains-push old (pushed, oid)));
  }

  pub without_number : (oid : Oid) (own : Option ℤ) (rows : List (ℤ × Oid)) → own ≡ None
      → ((value : Value) (n : ℤ) → Contains objects (oid, value) → Compares value Eq (Whole n) → own ≡ Some n) → TakesNumber objects oid rows rows
  without_number oid own rows is only = record {
    kept = λ row at. at;
    taken = λ value n has compares. absurd (none-some n (sym is ∙ only value n has compares));
  }

  -- all that the label's values are equal to, from those that are at most the greatest number
  pub ends_found : (entries : List ValueEntry) (label : Label) (most : ℤ) (before ends : List Oid) (rows : List (ℤ × Oid)) → AreValuesOf objects entries
      → most ≡ pos (2 ^ 63 - 1) → before ≡ [] → ExtendsBy (ListsInOrder (IsFound entries label Le (Whole most))) before ends → AreNumbered objects ends rows
      → HasEnds entries label rows
  ends_found entries label most before ends rows values is none extends numbered number end fits found =
      let whole : ends ≡ extends.0 = extends.1 ∙ ap (λ (l : List Oid). l ++ extends.0) none in
      let own = found.0 in
      let there : Contains extends.0 end = (extends.2.exact end).1 (own, found.1, at_most own number most fits is found.2) in
      numbered end own number (subst (λ (l : List Oid). Contains l end) (sym whole) there) (values (entry_of label own end) found.1) found.2

  -- the number of the value that an object has
  pub number_found : (oid : Oid) (own : Value) (found : Option ℤ) → ((value : Value) → Contains objects (oid, value) → Some own ≡ Some value)
      → ((number : ℤ) → Compares own Eq (Whole number) → found ≡ Some number)
      → (value : Value) (number : ℤ) → Contains objects (oid, value) → Compares value Eq (Whole number) → found ≡ Some number
  number_found oid own found only is value number has compares =
      is number (subst (λ (v : Value). Compares v Eq (Whole number)) (sym (same_Some own value (only value has))) compares)

  pub number_nowhere : (oid : Oid) (found : Option ℤ) → ((value : Value) → Contains objects (oid, value) → None ≡ Some value)
      → (value : Value) (number : ℤ) → Contains objects (oid, value) → Compares value Eq (Whole number) → found ≡ Some number
  number_nowhere oid found only value number has compares = absurd (none-some value (only value has))

  pub whole_found : (oid : Oid) (own : Value) (found : Option ℤ) → ((value : Value) → Contains objects (oid, value) → Some own ≡ Some value)
      → IfSome found (λ number. own ≡ Whole number) → IfSome found (λ number. (value : Value) → Contains objects (oid, value) → value ≡ Whole number)
  whole_found oid own (Some number) only is = λ value has. sym (same_Some own value (only value has)) ∙ is
  whole_found oid own None only is = tt
