-- Outcomes taken apart, and what the tests of the next token say of the tokens.
use Rattle.std.proofs.Common.{◌≡◌, ℕ, true, List, [], ◌∷◌, Some, None, refl, ap, ◌∙◌, inl, inr, rules}
use Rattle.std.proofs.lemmas.Bool.{cases_Bool}
use Rattle.std.proofs.lemmas.Option.{some_pair_parts}
use Rattle.std.proofs.lemmas.Slice.Eq.{bytes_eq-Decides}
use denote.Enum.Bare.{same_true}
use Rattle.lorel_tokens.specs.contracts.token_types.Sign.{the_type}
use Rattle.lorel_terms.specs.Types.{Kind, Sign}
use Rattle.lorel_tokens.specs.declared.token_types.Kind.TheVariants as k
use Rattle.lorel_terms.specs.Outcomes.{Outcome, Parse, and_then, next, sees, sees_word, expect, expect_word}

pub some_parts : {A : Type 0} {a b : A} {left right : List Kind} → ◌≡◌ {A = Outcome A} (Some (a, left)) (Some (b, right)) → (a ≡ b) × (left ≡ right)
some_parts {A} {a} {b} {left} {right} same = some_pair_parts a b left right same

pub none_some : {A : Type 0} {b : A} {rest : List Kind} → ◌≡◌ {A = Outcome A} None (Some (b, rest)) → ⊥
none_some same = cc

-- a sequence reads where both of its steps read
pub bind_some : {A B : Type 0} (outcome : Outcome A) (more : A → Parse B) (b : B) (rest : List Kind) → ◌≡◌ {A = Outcome B} (and_then outcome more) (Some (b, rest))
    → (a : A) × (mid : List Kind) × (◌≡◌ {A = Outcome A} outcome (Some (a, mid))) × (◌≡◌ {A = Outcome B} (more a mid) (Some (b, rest)))
bind_some (Some one) more b rest same = (one.0, one.1, refl, same)
bind_some None more b rest same = absurd (none_some same)

-- symbols

pub sees_sign : (sign : Sign) (kinds : List Kind) → sees sign kinds ≡ true → kinds ≡ k.Symbol sign ∷ next kinds
unfolding sees
sees_sign sign [] seen = absurd (cc)
sees_sign sign (k.Symbol other ∷ kinds) seen = let same : other ≡ sign = same_true the_type (search rules) other sign seen in ap (λ (x : Sign). k.Symbol x ∷ kinds) same
sees_sign sign (_ ∷ kinds) seen = absurd (cc)

pub expect_some : (sign : Sign) (kinds rest : List Kind) (one : Unit {0}) → ◌≡◌ {A = Outcome (Unit {0})} (expect sign kinds) (Some (one, rest)) → kinds ≡ k.Symbol sign ∷ rest
unfolding expect
expect_some sign kinds rest one read =
    elim (cases_Bool (sees sign kinds)) [
      | inl seen ↦ let parts = some_parts (rw seen at read) in sees_sign sign kinds seen ∙ ap (λ (left : List Kind). k.Symbol sign ∷ left) parts.1
      | inr other ↦ absurd (none_some (rw other at read))
    ]

-- words

pub sees_this_word : (wanted : List ℕ) (kinds : List Kind) → sees_word wanted kinds ≡ true → kinds ≡ k.Word wanted ∷ next kinds
unfolding sees_word
sees_this_word wanted [] seen = absurd (cc)
sees_this_word wanted (k.Word text ∷ kinds) seen = let same : text ≡ wanted = (bytes_eq-Decides text wanted).0 seen in ap (λ (x : List ℕ). k.Word x ∷ kinds) same
sees_this_word wanted (_ ∷ kinds) seen = absurd (cc)

pub expect_word_some : (wanted : List ℕ) (kinds rest : List Kind) (one : Unit {0}) → ◌≡◌ {A = Outcome (Unit {0})} (expect_word wanted kinds) (Some (one, rest)) → kinds ≡ k.Word wanted ∷ rest
unfolding expect_word
expect_word_some wanted kinds rest one read =
    elim (cases_Bool (sees_word wanted kinds)) [
      | inl seen ↦ let parts = some_parts (rw seen at read) in sees_this_word wanted kinds seen ∙ ap (λ (left : List Kind). k.Word wanted ∷ left) parts.1
      | inr other ↦ absurd (none_some (rw other at read))
    ]
