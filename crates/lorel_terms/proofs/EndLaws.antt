-- Tokens that do not go on with a path or a condition.
use Rattle.std.proofs.Common.{◌≡◌, Bool, true, false, List, [], ◌∷◌, codes, refl}
use Rattle.lorel_terms.specs.Types.{Kind, Sign}
use Rattle.lorel_tokens.specs.declared.token_types.Kind.TheVariants as k
use Rattle.lorel_tokens.specs.declared.token_types.Sign.TheVariants as s
use Rattle.lorel_terms.specs.Outcomes.{sees, sees_word}
use Rattle.lorel_terms.specs.Paths.{begins_part}

-- this symbol goes on with a part
abbrev pub is_mark : Sign → Bool
is_mark s.Question = true
is_mark s.Star = true
is_mark s.Plus = true
is_mark _ = false

-- this symbol begins a part
abbrev pub is_begin : Sign → Bool
is_begin s.Dot = true
is_begin s.LeftParen = true
is_begin _ = false

abbrev pub begins_mark : List Kind → Bool
begins_mark (k.Symbol sign ∷ kinds) = is_mark sign
begins_mark _ = false

abbrev pub begins_more : List Kind → Bool
begins_more (k.Symbol sign ∷ kinds) = is_begin sign
begins_more _ = false

-- no token that goes on with a path stands there. At tokens whose first one is known both fields are `refl`
pub record EndsPath (rest : List Kind) : Type 0 where
  pub mark : begins_mark rest ≡ false
  pub more : begins_more rest ≡ false

-- no token that goes on with a condition stands there
pub record EndsCond (rest : List Kind) : Type 0 where
  pub path : EndsPath rest
  pub conj : sees_word (codes "and") rest ≡ false
  pub disj : sees_word (codes "or") rest ≡ false

pub record SeesNoMark (rest : List Kind) : Type 0 where
  pub question : sees s.Question rest ≡ false
  pub star : sees s.Star rest ≡ false
  pub plus : sees s.Plus rest ≡ false

pub sees_no_mark : (rest : List Kind) → begins_mark rest ≡ false → SeesNoMark rest
unfolding sees
sees_no_mark [] ends = record { question = refl; star = refl; plus = refl }
sees_no_mark (k.Symbol s.Question ∷ rest) ends = absurd (cc)
sees_no_mark (k.Symbol s.Star ∷ rest) ends = absurd (cc)
sees_no_mark (k.Symbol s.Plus ∷ rest) ends = absurd (cc)
sees_no_mark (k.Symbol _ ∷ rest) ends = record { question = refl; star = refl; plus = refl }
sees_no_mark (_ ∷ rest) ends = record { question = refl; star = refl; plus = refl }

pub sees_no_part : (rest : List Kind) → begins_more rest ≡ false → begins_part rest ≡ false
unfolding begins_part sees
sees_no_part [] ends = refl
sees_no_part (k.Symbol s.Dot ∷ rest) ends = absurd (cc)
sees_no_part (k.Symbol s.LeftParen ∷ rest) ends = absurd (cc)
sees_no_part (k.Symbol _ ∷ rest) ends = refl
sees_no_part (_ ∷ rest) ends = refl

pub ends_cond_at_end : EndsCond []
unfolding sees_word
ends_cond_at_end = record { path = record { mark = refl; more = refl }; conj = refl; disj = refl }
