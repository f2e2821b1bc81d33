-- Values compare as those of some kind do with what they are compared with.
use Rattle.std.proofs.Common.{◌≡◌, ◌↔◌, ◌⊎◌, inl, inr, ℤ, Bool, true, false, subst, refl, sym, ap}
use Rattle.std.specs.Prelude.{Option, Some, None, is_some}
use Rattle.std.specs.Option.{option_cmp}
use Rattle.std.specs.Ordering.{int_cmp, bool_cmp}
use Rattle.std.specs.declared.cmp.Ordering.{Ordering}
use Rattle.std.proofs.lemmas.Bool.{true≢false, and_parts}
use Rattle.lore_base.specs.Bytes.{bytes_cmp}
use Rattle.lore_base.specs.Comparisons.{CompareAs, Admits, Compares}
use Rattle.index_traits.specs.Entries.{IsProbed}
use Rattle.value_index.specs.Types.{Value, Whole, Chars, Flag, Complex, Op, Kind, Wholes, Texts, Flags, Readings, FlagReadings}
use Rattle.value_orders.specs.TextReadings.{reading, flag_reading}
use Rattle.value_orders.specs.Kinds.{is_text, is_of, is_sought, number_in, flag_in, value_cmp}
use Rattle.value_orders.proofs.KindLaws.{text_whole, text_flag, whole_flag}
use Rattle.value_orders.proofs.ReadingLaws.{reading_some, reading_from, flag_some, flag_from}

reading_text : (value : Value) → is_of Readings value ≡ true → is_text value ≡ true
reading_text value of = (and_parts (is_text value) (is_some (number_in value)) of).0

flag_reading_text : (value : Value) → is_of FlagReadings value ≡ true → is_text value ≡ true
flag_reading_text value of = (and_parts (is_text value) (is_some (flag_in value)) of).0

-- Which order compares two values.

-- the one is of the kind, the other is compared with its values, and they compare so
abbrev pub ByKind : Kind → Op → Value → Value → Type 0
ByKind kind op value own = (is_of kind own ≡ true) × ((is_sought kind value ≡ true) × Admits op (value_cmp kind own value))

-- what is left without some of the kinds
abbrev pub ByReads : Op → Value → Value → Type 0
ByReads op value own = ByKind Readings op value own ⊎ ByKind FlagReadings op value own

abbrev pub ByNoText : Op → Value → Value → Type 0
ByNoText op value own = ByKind Flags op value own ⊎ ByReads op value own

abbrev pub ByNoWhole : Op → Value → Value → Type 0
ByNoWhole op value own = ByKind Texts op value own ⊎ ByNoText op value own

abbrev pub ByKinds : Op → Value → Value → Type 0
ByKinds op value own = ByKind Wholes op value own ⊎ ByNoWhole op value own

ordered_by : (op : Op) (own value : Value) (order : Ordering) → CompareAs own value order → Admits op order → ByKinds op value own
ordered_by op (Whole a) (Whole b) order is admits = inl (refl, (refl, subst (λ (o : Ordering). Admits op o) is admits))
ordered_by op (Whole a) (Chars b) order is admits =
    let key : reading b ≡ Some is.0 = reading_from b is.0 is.1 in
    inl (refl, (ap is_some key, subst (λ (r : Option ℤ). Admits op (option_cmp int_cmp (Some a) r)) (sym key) (subst (λ (o : Ordering). Admits op o) is.2 admits)))
ordered_by op (Whole a) (Flag b) order is admits = absurd is
ordered_by op (Whole a) Complex order is admits = absurd is
ordered_by op (Chars a) (Whole b) order is admits =
    let key : reading a ≡ Some is.0 = reading_from a is.0 is.1 in
    inr (inr (inr (inl (ap is_some key, (refl, subst (λ (r : Option ℤ). Admits op (option_cmp int_cmp r (Some b))) (sym key) (subst (λ (o : Ordering). Admits op o) is.2 admits))))))
ordered_by op (Chars a) (Chars b) order is admits = inr (inl (refl, (refl, subst (λ (o : Ordering). Admits op o) is admits)))
ordered_by op (Chars a) (Flag b) order is admits =
    let key : flag_reading a ≡ Some is.0 = flag_from a is.0 is.1 in
    inr (inr (inr (inr (ap is_some key, (refl, subst (λ (r : Option Bool). Admits op (option_cmp bool_cmp r (Some b))) (sym key) (subst (λ (o : Ordering). Admits op o) is.2 admits))))))
ordered_by op (Chars a) Complex order is admits = absurd is
ordered_by op (Flag a) (Whole b) order is admits = absurd is
ordered_by op (Flag a) (Chars b) order is admits =
    let key : flag_reading b ≡ Some is.0 = flag_from b is.0 is.1 in
    inr (inr (inl (refl, (ap is_some key, subst (λ (r : Option Bool). Admits op (option_cmp bool_cmp (Some a) r)) (sym key) (subst (λ (o : Ordering). Admits op o) is.2 admits)))))
ordered_by op (Flag a) (Flag b) order is admits = inr (inr (inl (refl, (refl, subst (λ (o : Ordering). Admits op o) is admits))))
ordered_by op (Flag a) Complex order is admits = absurd is
ordered_by op Complex (Whole b) order is admits = absurd is
ordered_by op Complex (Chars b) order is admits = absurd is
ordered_by op Complex (Flag b) order is admits = absurd is
ordered_by op Complex Complex order is admits = absurd is

no : {P : Type 0} → false ≡ true → P
no h = absurd (true≢false (sym h))

by_wholes : (op : Op) (own value : Value) → ByKind Wholes op value own → Compares own op value
by_wholes op (Whole a) (Whole b) by = inl (int_cmp a b, refl, by.1.1)
by_wholes op (Whole a) (Chars b) by =
    elim (reading b) as (λ (r : Option ℤ). reading b ≡ r → is_some r ≡ true → Admits op (option_cmp int_cmp (Some a) r) → Compares (Whole a) op (Chars b)) [
      | None ↦ λ _ none _. no none
      | Some number ↦ λ is _ admits. inl (int_cmp a number, (number, reading_some b number is, refl), admits)
    ] refl by.1.0 by.1.1
by_wholes op (Whole a) (Flag b) by = no by.1.0
by_wholes op (Whole a) Complex by = no by.1.0
by_wholes op (Chars a) value by = no by.0
by_wholes op (Flag a) value by = no by.0
by_wholes op Complex value by = no by.0

by_texts : (op : Op) (own value : Value) → ByKind Texts op value own → Compares own op value
by_texts op (Chars a) (Chars b) by = inl (bytes_cmp a b, refl, by.1.1)
by_texts op (Chars a) (Whole b) by = no by.1.0
by_texts op (Chars a) (Flag b) by = no by.1.0
by_texts op (Chars a) Complex by = no by.1.0
by_texts op (Whole a) value by = no by.0
by_texts op (Flag a) value by = no by.0
by_texts op Complex value by = no by.0

by_flags : (op : Op) (own value : Value) → ByKind Flags op value own → Compares own op value
by_flags op (Flag a) (Flag b) by = inl (bool_cmp a b, refl, by.1.1)
by_flags op (Flag a) (Chars b) by =
    elim (flag_reading b) as (λ (r : Option Bool). flag_reading b ≡ r → is_some r ≡ true → Admits op (option_cmp bool_cmp (Some a) r) → Compares (Flag a) op (Chars b)) [
      | None ↦ λ _ none _. no none
      | Some flag ↦ λ is _ admits. inl (bool_cmp a flag, (flag, flag_some b flag is, refl), admits)
    ] refl by.1.0 by.1.1
by_flags op (Flag a) (Whole b) by = no by.1.0
by_flags op (Flag a) Complex by = no by.1.0
by_flags op (Whole a) value by = no by.0
by_flags op (Chars a) value by = no by.0
by_flags op Complex value by = no by.0

by_readings : (op : Op) (own value : Value) → ByKind Readings op value own → Compares own op value
by_readings op (Chars a) (Whole b) by =
    elim (reading a) as (λ (r : Option ℤ). reading a ≡ r → is_some r ≡ true → Admits op (option_cmp int_cmp r (Some b)) → Compares (Chars a) op (Whole b)) [
      | None ↦ λ _ none _. no none
      | Some number ↦ λ is _ admits. inl (int_cmp number b, (number, reading_some a number is, refl), admits)
    ] refl by.0 by.1.1
by_readings op (Chars a) (Chars b) by = no by.1.0
by_readings op (Chars a) (Flag b) by = no by.1.0
by_readings op (Chars a) Complex by = no by.1.0
by_readings op (Whole a) value by = no by.0
by_readings op (Flag a) value by = no by.0
by_readings op Complex value by = no by.0

by_flag_readings : (op : Op) (own value : Value) → ByKind FlagReadings op value own → Compares own op value
by_flag_readings op (Chars a) (Flag b) by =
    elim (flag_reading a) as (λ (r : Option Bool). flag_reading a ≡ r → is_some r ≡ true → Admits op (option_cmp bool_cmp r (Some b)) → Compares (Chars a) op (Flag b)) [
      | None ↦ λ _ none _. no none
      | Some flag ↦ λ is _ admits. inl (bool_cmp flag b, (flag, flag_some a flag is, refl), admits)
    ] refl by.0 by.1.1
by_flag_readings op (Chars a) (Chars b) by = no by.1.0
by_flag_readings op (Chars a) (Whole b) by = no by.1.0
by_flag_readings op (Chars a) Complex by = no by.1.0
by_flag_readings op (Whole a) value by = no by.0
by_flag_readings op (Flag a) value by = no by.0
by_flag_readings op Complex value by = no by.0

-- a comparison that asks for an order holds exactly where values of some kind compare so
pub compares_by : (op : Op) → IsProbed op → (own value : Value) → Compares own op value ↔ ByKinds op value own
compares_by op probed own value = (
  λ either. elim either [
    | inl h ↦ ordered_by op own value h.0 h.1 h.2
    | inr like ↦ absurd (probed.no_pattern like.0)
  ],
  λ by. elim by [
    | inl whole ↦ by_wholes op own value whole
    | inr other ↦ elim other [
      | inl text ↦ by_texts op own value text
      | inr no_text ↦ elim no_text [
        | inl flag ↦ by_flags op own value flag
        | inr read ↦ elim read [
          | inl number ↦ by_readings op own value number
          | inr flag ↦ by_flag_readings op own value flag
        ]
      ]
    ]
  ],
)

-- No two kinds compare two values.
module _ (op : Op) (value own : Value) where
  pub only_wholes : ByKind Wholes op value own → ByNoWhole op value own → ⊥
  only_wholes whole others = elim others [
    | inl text ↦ text_whole own text.0 whole.0
    | inr no_text ↦ elim no_text [
      | inl flag ↦ whole_flag own whole.0 flag.0
      | inr read ↦ elim read [
        | inl number ↦ text_whole own (reading_text own number.0) whole.0
        | inr flag ↦ text_whole own (flag_reading_text own flag.0) whole.0
      ]
    ]
  ]

  pub only_texts : ByKind Texts op value own → ByNoText op value own → ⊥
  only_texts text others = elim others [
    | inl flag ↦ text_flag own text.0 flag.0
    | inr read ↦ elim read [
      | inl number ↦ text_whole value text.1.0 number.1.0
      | inr flag ↦ text_flag value text.1.0 flag.1.0
    ]
  ]

  pub only_flags : ByKind Flags op value own → ByReads op value own → ⊥
  only_flags flag others = elim others [
    | inl number ↦ text_flag own (reading_text own number.0) flag.0
    | inr read ↦ text_flag own (flag_reading_text own read.0) flag.0
  ]

  pub only_readings : ByKind Readings op value own → ByKind FlagReadings op value own → ⊥
  only_readings number flag = whole_flag value number.1.0 flag.1.0
