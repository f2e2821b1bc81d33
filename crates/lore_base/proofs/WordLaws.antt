-- The tests for identifiers and names tell them.
use Rattle.std.proofs.Common.{◌≡◌, ℕ, ◌↔◌, ◌&&◌, not, nat_le, Bool, false, List, [], ◌∷◌, length, IsTrue, rules, tests, arith}
use Rattle.std.proofs.lemmas.Bool.Decides.{nat_tests}
use Rattle.lore_base.specs.Types.{WORD_BYTES}
use Rattle.lore_base.specs.Names.{IsIdentifier, is_identifier, is_reserved, IsName}

pub identifier_tested : (word : List ℕ) → IsIdentifier word ↔ IsTrue (is_identifier word)
identifier_tested [] = (λ none. absurd none, λ none. search (rules, tests))
identifier_tested (first ∷ others) = (λ is. search (rules, tests), λ passes. search (rules, tests))

all_three : (a b c : Bool) → IsTrue (a && (not b && c)) → IsTrue a × (b ≡ false) × IsTrue c
all_three a b c h = (search (rules, tests), search (rules, tests), search (rules, tests))

together : (a b c : Bool) → IsTrue a → b ≡ false → IsTrue c → IsTrue (a && (not b && c))
together a b c first second third = rw second (search (rules, tests))

pub name_tested : (word : List ℕ) → IsTrue (is_identifier word && (not (is_reserved word) && nat_le (length word) WORD_BYTES)) ↔ IsName word
name_tested word = (
  λ h. let three = all_three (is_identifier word) (is_reserved word) (nat_le (length word) WORD_BYTES) h in record {
    identifier = (identifier_tested word).1 three.0;
    unreserved = three.1;
    sized = let test = three.2 in grind (arith, nat_tests);
  },
  λ name. together (is_identifier word) (is_reserved word) (nat_le (length word) WORD_BYTES) ((identifier_tested word).0 name.identifier) name.unreserved
      (let size = name.sized in grind (arith, nat_tests)),
)
