-- Parsers made of others: one behind another, behind a symbol or word, and repeated.
use Rattle.std.specs.Prelude.{ℕ, zero, suc, Bool, if◌then◌else◌, List, [], ◌∷◌, ◌++◌, length, Some}
use Rattle.lorel_tokens.specs.declared.token_types.Kind.{Kind}
use Rattle.lorel_tokens.specs.declared.token_types.Sign.{Sign}
use Rattle.lorel_terms.specs.Outcomes.{Parse, and_then, next, expect, expect_word}

-- what was read, made into something else
abbrev pub mapped : {A B : Type 0} → (A → B) → Parse A → Parse B
mapped make parse kinds = and_then (parse kinds) (λ found rest. Some (make found, rest))

-- one thing and another behind it
abbrev pub both : {A B : Type 0} → Parse A → Parse B → Parse (A × B)
both first second kinds = and_then (first kinds) (λ one rest.
    and_then (second rest) (λ other behind. Some ((one, other), behind)))

-- behind this symbol
abbrev pub behind_sign : {A : Type 0} → Sign → Parse A → Parse A
behind_sign sign parse kinds = and_then (expect sign kinds) (λ _ rest. parse rest)

-- behind this word
abbrev pub behind_word : {A : Type 0} → List ℕ → Parse A → Parse A
behind_word word parse kinds = and_then (expect_word word kinds) (λ _ rest. parse rest)

-- before this symbol
abbrev pub closed_sign : {A : Type 0} → Sign → Parse A → Parse A
closed_sign sign parse kinds = and_then (parse kinds) (λ found rest.
    and_then (expect sign rest) (λ _ behind. Some (found, behind)))

-- before this word
abbrev pub closed_word : {A : Type 0} → List ℕ → Parse A → Parse A
closed_word word parse kinds = and_then (parse kinds) (λ found rest.
    and_then (expect_word word rest) (λ _ behind. Some (found, behind)))

-- over a test of the token that leads to each thing
module _ {A : Type 0} (leads : List Kind → Bool) (one : Parse A) where
  -- each thing behind its token, in so many turns, after those found before
  unfoldable pub each_in : ℕ → List A → Parse (List A)
  each_in zero before kinds = Some (before, kinds)
  each_in (suc turns) before kinds =
      if leads kinds then and_then (one (next kinds)) (λ found rest. each_in turns (before ++ found ∷ []) rest)
      else Some (before, kinds)

  unfoldable pub each : List A → Parse (List A)
  each before kinds = each_in (length kinds) before kinds

  -- one thing, and each other behind its token
  abbrev pub some_of : Parse (List A)
  some_of kinds = and_then (one kinds) (λ first rest. each (first ∷ []) rest)
