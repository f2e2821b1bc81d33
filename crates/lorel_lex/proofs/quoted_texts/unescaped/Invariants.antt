use Rattle.std.proofs.Common.{◌≡◌, ℕ, List, ◌++◌, ◌≤◌, ◌-◌, length, drop}
use Rattle.lore_base.specs.Quotes.{IsContents}
use Rattle.lorel_lex.proofs.quoted_texts.unescaped.Given as goal

abbrev pub invariant-raw : goal.invariant-raw
invariant-raw l = record {
  within : l.at ≤ length l.raw;
  whole : (text : List ℕ) → IsContents l.quote (drop l.at l.raw) text → IsContents l.quote l.raw (l.bytes ++ text);
  only : (text : List ℕ) → IsContents l.quote l.raw text → (rest : List ℕ) × (text ≡ l.bytes ++ rest) × IsContents l.quote (drop l.at l.raw) rest;
}

abbrev pub decreases-raw : goal.decreases-raw
decreases-raw l = length l.raw - l.at
