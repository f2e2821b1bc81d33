-- Of which kinds values are.
use Rattle.std.proofs.Common.{◌≡◌, true, subst, refl, sym}
use Rattle.std.proofs.lemmas.Bool.{true≢false}
use Rattle.value_orders.specs.Types.{Value, Whole, Chars, Flag, Complex, Kind, Wholes, Texts, Flags, Readings, FlagReadings}
use Rattle.value_orders.specs.Kinds.{is_whole, is_text, is_flag, is_of, own_kind}

-- No value is of two of these.

pub text_whole : (value : Value) → is_text value ≡ true → is_whole value ≡ true → ⊥
text_whole (Whole number) text whole = true≢false (sym text)
text_whole (Chars chars) text whole = true≢false (sym whole)
text_whole (Flag flag) text whole = true≢false (sym text)
text_whole Complex text whole = true≢false (sym text)

pub text_flag : (value : Value) → is_text value ≡ true → is_flag value ≡ true → ⊥
text_flag (Whole number) text flag = true≢false (sym text)
text_flag (Chars chars) text flag = true≢false (sym flag)
text_flag (Flag other) text flag = true≢false (sym text)
text_flag Complex text flag = true≢false (sym text)

pub whole_flag : (value : Value) → is_whole value ≡ true → is_flag value ≡ true → ⊥
whole_flag (Whole number) whole flag = true≢false (sym flag)
whole_flag (Chars chars) whole flag = true≢false (sym whole)
whole_flag (Flag other) whole flag = true≢false (sym whole)
whole_flag Complex whole flag = true≢false (sym whole)

-- a value of any kind is of its own
pub of_own : (kind : Kind) (value : Value) → is_of kind value ≡ true → is_of (own_kind value) value ≡ true
of_own kind (Whole number) of = refl
of_own kind (Chars text) of = refl
of_own kind (Flag flag) of = refl
of_own Wholes Complex of = of
of_own Texts Complex of = of
of_own Flags Complex of = absurd (true≢false (sym of))
of_own Readings Complex of = absurd (true≢false (sym of))
of_own FlagReadings Complex of = absurd (true≢false (sym of))

-- so that it is atomic
pub of_atomic : (kind : Kind) (value : Value) → is_of kind value ≡ true → value ≡ Complex → ⊥
of_atomic Wholes value of complex = true≢false (sym (subst (λ (v : Value). is_of Wholes v ≡ true) complex of))
of_atomic Texts value of complex = true≢false (sym (subst (λ (v : Value). is_of Texts v ≡ true) complex of))
of_atomic Flags value of complex = true≢false (sym (subst (λ (v : Value). is_of Flags v ≡ true) complex of))
of_atomic Readings value of complex = true≢false (sym (subst (λ (v : Value). is_of Readings v ≡ true) complex of))
of_atomic FlagReadings value of complex = true≢false (sym (subst (λ (v : Value). is_of FlagReadings v ≡ true) complex of))

-- and an atomic one is of its own kind
pub own_of : (value : Value) → (value ≡ Complex → ⊥) → is_of (own_kind value) value ≡ true
own_of (Whole number) atomic = refl
own_of (Chars text) atomic = refl
own_of (Flag flag) atomic = refl
own_of Complex atomic = absurd (atomic refl)
