-- Attempts to lay the signs of a pattern on characters, each on one, up to a sign that stands for many.
use Rattle.std.specs.Prelude.{◌≡◌, ◌<◌, ◌≤◌, ℕ, Bool, if◌then◌else◌, List, [], ◌∷◌, ◌++◌, length, map}
use Rattle.lore_base.specs.Wildcards.{Sign, many, one, itself, characters, label_sign, like_sign}

-- what a character of a pattern stands for, in `like` or in the pattern of a label
abbrev pub sign_of : Bool → List ℕ → Sign
sign_of in_like character = if in_like then like_sign character else label_sign character

-- the signs of a pattern
abbrev pub signs_of : Bool → List ℕ → List Sign
signs_of in_like pattern = map (sign_of in_like) (characters pattern)

-- the sign stands for this one character
abbrev pub Stands : Sign → List ℕ → Type 0
Stands many character = ⊥
Stands one character = Unit {0}
Stands (itself own) character = own ≡ character

-- each sign stands for one character, in order
abbrev pub StandOneByOne : List Sign → List (List ℕ) → Type 0
StandOneByOne [] [] = Unit {0}
StandOneByOne [] (character ∷ text) = ⊥
StandOneByOne (sign ∷ signs) [] = ⊥
StandOneByOne (sign ∷ signs) (character ∷ text) = Stands sign character × StandOneByOne signs text

-- signs that stand for one character each lie in front of the later signs, and their characters in front of the
-- later text
pub record LiesBefore (signs later : List Sign) (text rest : List (List ℕ)) : Type 0 where
  pub front : List Sign
  pub read : List (List ℕ)
  pub signs_are : signs ≡ front ++ later
  pub text_is : text ≡ read ++ rest
  pub stand : StandOneByOne front read

-- the attempt met a sign that stands for many, with these left of pattern and text
pub record MeetsMany (in_like : Bool) (pattern later text rest : List ℕ) : Type 0 where
  pub lies : LiesBefore (signs_of in_like pattern) (many ∷ signs_of in_like later) (characters text) (characters rest)
  pub shorter : length later < length pattern
  pub no_longer : length rest ≤ length text
