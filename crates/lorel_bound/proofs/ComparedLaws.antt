-- Whether two values compare can be told.
use Rattle.std.proofs.Common.{◌≡◌, ℕ, ◌⊎◌, inl, inr, Bool, true, false, List, [], ◌∷◌, map, length, ℤ, pos, neg_ℤ, FitsSigned}
use Rattle.std.proofs.Common.{Ordering, Less, Equal, Greater, refl, sym, ap, subst}
use Rattle.std.specs.Int.{w64, int_wrap}
use Rattle.std.specs.List.{Contains}
use Rattle.std.specs.Ordering.{int_cmp, int_eq, bool_cmp}
use Rattle.std.specs.Fmt.{signed_decimal}
use Rattle.std.specs.Char.{digit_value}
use Rattle.std.specs.Str.Parse.{IsNumeral, AllDigits, digits_value}
use Rattle.std.proofs.lemmas.Bool.Decides.{Decides-int_eq}
use Rattle.std.proofs.lemmas.Int.{SFits-int_wrap, int_wrap_fits}
use Rattle.lore_base.specs.declared.values.Value.{Value}
use Rattle.lore_base.specs.declared.values.Value.TheVariants.{Whole, Chars, Flag, Complex}
use Rattle.lore_base.specs.declared.operators.Op.{Op}
use Rattle.lore_base.specs.declared.operators.Op.TheVariants.{Eq, Ne, Lt, Le, Gt, Ge, Like}
use Rattle.lore_base.specs.Bytes.{bytes_cmp}
use Rattle.lore_base.specs.Wildcards.{like_sign, characters, IsLike}
use Rattle.lore_base.specs.Comparisons.{IsNumber, ReadsAs, flag_text, ReadsAsFlag, CompareAs, Admits, IsTextOf, AreAlike, Compares}
use Rattle.lore_base.proofs.MemberLaws.{Contains-tail, Contains-head, Contains-same}
use Rattle.lore_base.proofs.ToldLaws.{IsTold, told_by, told_below, told_same, told_not, told_both, told_either, told_bytes}
use Rattle.lorel_bound.proofs.ListedLaws.{IsListed, listed_members, listed_none, listed_one, listed_same, listed_either, listed_when, listed_over, listed_where, told_some}
use Rattle.lorel_bound.proofs.MatchedLaws.{told_stand}

-- ---- the number that a text reads as
told_digits : (radix : ℕ) (digits : List ℕ) → IsTold (AllDigits radix digits)
told_digits radix [] = inl tt
told_digits radix (digit ∷ digits) = told_both (told_below (digit_value digit) radix) (told_digits radix digits)

told_numeral : (digits : List ℕ) → IsTold (IsNumeral 10 digits)
told_numeral digits = told_both (told_below 0 (length digits)) (told_digits 10 digits)

told_fits : (number : ℤ) → IsTold (FitsSigned w64 number)
told_fits number =
    told_same (λ same. subst (FitsSigned w64) same (SFits-int_wrap w64 number)) (int_wrap_fits w64 number)
    (told_by (int_eq (int_wrap w64 number) number) (Decides-int_eq (int_wrap w64 number) number))

-- a number that these digits write in this text
abbrev Writes : List ℕ → List ℕ → ℤ → Type 0
Writes text digits number =
    ((text ≡ digits) × (number ≡ pos (digits_value 10 digits)))
    ⊎ ((text ≡ 45 ∷ digits) × (number ≡ neg_ℤ (pos (digits_value 10 digits))))

listed_writes : (text digits : List ℕ) → IsListed (Writes text digits)
listed_writes text digits =
    listed_either (λ number. (text ≡ digits) × (number ≡ pos (digits_value 10 digits)))
    (λ number. (text ≡ 45 ∷ digits) × (number ≡ neg_ℤ (pos (digits_value 10 digits))))
    (this (text ≡ digits) (told_bytes text digits) (pos (digits_value 10 digits)))
    (this (text ≡ 45 ∷ digits) (told_bytes text (45 ∷ digits)) (neg_ℤ (pos (digits_value 10 digits))))
  where
    this : (P : Type 0) → IsTold P → (number : ℤ) → IsListed (λ other. P × (other ≡ number))
    this P told number =
        listed_same (λ other. P × (number ≡ other)) (λ other. P × (other ≡ number))
        (λ other. (λ h. (h.0, sym h.1), λ h. (h.0, sym h.1))) (listed_when P told number)

behind_first : List ℕ → List ℕ
behind_first [] = []
behind_first (first ∷ others) = others

-- the digits of a text are all of it, or all behind its first byte
digits_within : (text digits : List ℕ) (number : ℤ) → Writes text digits number → Contains (text ∷ behind_first text ∷ []) digits
unfolding behind_first
digits_within text digits number (inl h) = Contains-same (text ∷ behind_first text ∷ []) text digits h.0 (Contains-head text (behind_first text ∷ []))
digits_within text digits number (inr h) =
    let behind : behind_first text ≡ digits = ap behind_first h.0 in
    Contains-tail text (behind_first text ∷ []) digits
    (Contains-same (behind_first text ∷ []) (behind_first text) digits behind (Contains-head (behind_first text) []))

listed_reads : (text : List ℕ) → IsListed (ReadsAs text)
listed_reads text =
    let candidates = text ∷ behind_first text ∷ [] in
    let numbers : IsListed (IsNumber text) =
    listed_same (λ number. (digits : List ℕ) × (Contains candidates digits × IsNumeral 10 digits) × Writes text digits number) (IsNumber text)
    (λ number. (λ h. (h.0, h.1.1, h.2), λ h. (h.0, (digits_within text h.0 number h.2, h.1), h.2)))
    (listed_over (λ digits. Contains candidates digits × IsNumeral 10 digits) (Writes text)
    (listed_where (Contains candidates) (IsNumeral 10) (listed_members candidates) told_numeral) (listed_writes text)) in
    listed_where (IsNumber text) (FitsSigned w64) numbers told_fits

-- ---- the flag that a text reads as
abbrev flags : List Bool
flags = true ∷ false ∷ []

flag_among : (flag : Bool) → Contains flags flag
flag_among true = Contains-head true (false ∷ [])
flag_among false = Contains-tail true (false ∷ []) false (Contains-head false [])

listed_flags : (text : List ℕ) → IsListed (ReadsAsFlag text)
listed_flags text =
    listed_same (λ flag. Contains flags flag × ReadsAsFlag text flag) (ReadsAsFlag text)
    (λ flag. (λ h. h.1, λ h. (flag_among flag, h)))
    (listed_where (Contains flags) (ReadsAsFlag text) (listed_members flags) (λ flag. told_bytes text (flag_text flag)))

-- ---- how two values compare
listed_this : (order : Ordering) → IsListed (λ other. other ≡ order)
listed_this order = listed_same (λ other. order ≡ other) (λ other. other ≡ order) (λ other. (λ h. sym h, λ h. sym h)) (listed_one order)

listed_orders : (a b : Value) → IsListed (CompareAs a b)
listed_orders (Whole a) (Whole b) = listed_this (int_cmp a b)
listed_orders (Chars a) (Chars b) = listed_this (bytes_cmp a b)
listed_orders (Whole a) (Chars b) = listed_over (ReadsAs b) (λ number order. order ≡ int_cmp a number) (listed_reads b) (λ number. listed_this (int_cmp a number))
listed_orders (Chars a) (Whole b) = listed_over (ReadsAs a) (λ number order. order ≡ int_cmp number b) (listed_reads a) (λ number. listed_this (int_cmp number b))
listed_orders (Flag a) (Flag b) = listed_this (bool_cmp a b)
listed_orders (Flag a) (Chars b) =
    listed_over (ReadsAsFlag b) (λ flag order. order ≡ bool_cmp a flag) (listed_flags b) (λ flag. listed_this (bool_cmp a flag))
listed_orders (Chars a) (Flag b) =
    listed_over (ReadsAsFlag a) (λ flag order. order ≡ bool_cmp flag b) (listed_flags a) (λ flag. listed_this (bool_cmp flag b))
listed_orders (Whole a) (Flag b) = listed_none (λ order. ⊥) (λ order h. h)
listed_orders (Flag a) (Whole b) = listed_none (λ order. ⊥) (λ order h. h)
listed_orders (Flag a) Complex = listed_none (λ order. ⊥) (λ order h. h)
listed_orders (Whole a) Complex = listed_none (λ order. ⊥) (λ order h. h)
listed_orders (Chars a) Complex = listed_none (λ order. ⊥) (λ order h. h)
listed_orders Complex b = listed_none (λ order. ⊥) (λ order h. h)

told_order : (a b : Ordering) → IsTold (a ≡ b)
told_order Less Less = inl refl
told_order Equal Equal = inl refl
told_order Greater Greater = inl refl
told_order _ _ = inr (λ h. cc)

told_admits : (op : Op) (order : Ordering) → IsTold (Admits op order)
told_admits Eq order = told_order order Equal
told_admits Ne order = told_not (told_order order Equal)
told_admits Lt order = told_order order Less
told_admits Le order = told_not (told_order order Greater)
told_admits Gt order = told_order order Greater
told_admits Ge order = told_not (told_order order Less)
told_admits Like order = inr (λ h. h)

-- ---- whether a text is like another
listed_texts : (value : Value) → IsListed (λ text. IsTextOf text value)
listed_texts (Whole number) = listed_same (λ text. signed_decimal number ≡ text) (λ text. text ≡ signed_decimal number) (λ text. (λ h. sym h, λ h. sym h)) (listed_one (signed_decimal number))
listed_texts (Chars chars) = listed_same (λ text. chars ≡ text) (λ text. text ≡ chars) (λ text. (λ h. sym h, λ h. sym h)) (listed_one chars)
listed_texts (Flag flag) =
    listed_same (λ text. flag_text flag ≡ text) (λ text. text ≡ flag_text flag) (λ text. (λ h. sym h, λ h. sym h)) (listed_one (flag_text flag))
listed_texts Complex = listed_none (λ text. ⊥) (λ text h. h)

told_alike : (a b : Value) → IsTold (AreAlike a b)
told_alike a b =
    told_same (λ h. (h.0, h.2.0, h.1, h.2.1, h.2.2)) (λ h. (h.0, h.2, (h.1, h.3, h.4)))
    (told_some (λ text. IsTextOf text a) (λ text. (pattern : List ℕ) × IsTextOf pattern b × IsLike pattern text) (listed_texts a)
    (λ text. told_some (λ pattern. IsTextOf pattern b) (λ pattern. IsLike pattern text) (listed_texts b)
    (λ pattern. told_stand (map like_sign (characters pattern)) (characters text))))

told_like : (op : Op) → IsTold (op ≡ Like)
told_like Like = inl refl
told_like _ = inr (λ h. cc)

pub told_compares : (a : Value) (op : Op) (b : Value) → IsTold (Compares a op b)
told_compares a op b =
    told_either (told_some (CompareAs a b) (Admits op) (listed_orders a b) (told_admits op)) (told_both (told_like op) (told_alike a b))
