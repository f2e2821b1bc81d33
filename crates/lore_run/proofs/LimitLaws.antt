-- Which chunks of a script can be too long: none of those that were cut off whole within the limit, and none in a rest of
-- few bytes.
use Rattle.std.proofs.Common.{◌≡◌, ℕ, ◌<◌, ◌≤◌, ◌⊎◌, inl, inr, List, [], ◌∷◌, ◌++◌, length, sym, ap, ◌∙◌, arith, append_assoc, length-append}
use Rattle.std.specs.Prelude.{All}
use Rattle.std.specs.List.{AllByRecursion}
use Rattle.std.proofs.lemmas.List.Elements.{recursion_from_All}
use Rattle.lore_base.specs.Chunks.{joined_chunks}
use Rattle.lore_run.specs.Types.{CHUNK_BYTES, SCRIPT_BYTES}
use Rattle.lorel_lex.specs.declared.scan.State.TheVariants.{Plain}
use Rattle.lorel_lex.specs.Scan.{IsChunk, IsOpen}
use Rattle.lorel_lex.proofs.ScanLaws.{same_chunk, chunk_holds, regrouped}
use Rattle.lore_run.specs.Runs.{BeginsWith}
use Rattle.lore_run.specs.Endings.{HasLongChunk, KeepsLimits, KeepsLimitsUpTo}

abbrev pub IsWithin : List ℕ → Type 0
IsWithin text = length text ≤ CHUNK_BYTES

-- a place among chunks, or few bytes behind them, seen from behind the first of them
behind_first : (other chunk : List ℕ) (others chunks : List (List ℕ)) (behind : List ℕ) → (length (other ∷ others) < length (chunk ∷ chunks)) ⊎ IsWithin behind
    → (length others < length chunks) ⊎ IsWithin behind
behind_first other chunk others chunks behind (inl less) = inl (omega (arith, less))
behind_first other chunk others chunks behind (inr kept) = inr kept

-- the place of a chunk that is too long lies behind the chunks, and what stands there has many bytes
lies_behind : (chunks others : List (List ℕ)) (behind front back : List ℕ) → AllByRecursion IsChunk chunks → AllByRecursion IsWithin chunks → AllByRecursion IsChunk others
    → IsOpen front → CHUNK_BYTES < length front → joined_chunks chunks ++ behind ≡ joined_chunks others ++ (front ++ back) → (length others < length chunks) ⊎ IsWithin behind → ⊥
lies_behind [] others behind front back are within were unended oversized same (inl less) = omega (arith, less)
lies_behind [] others behind front back are within were unended oversized same (inr kept) =
    omega (arith, kept, ap length same, length-append (joined_chunks others) (front ++ back), length-append front back)
lies_behind (chunk ∷ chunks) [] behind front back are within were unended oversized same which =
    omega (arith, within.0, chunk_holds Plain chunk front (joined_chunks chunks ++ behind) back are.0.ended unended (sym (regrouped chunk (joined_chunks chunks) behind) ∙ same))
lies_behind (chunk ∷ chunks) (other ∷ others) behind front back are within were unended oversized same which =
    let (heads, tails) = same_chunk Plain chunk other (joined_chunks chunks ++ behind) (joined_chunks others ++ (front ++ back)) are.0.unended are.0.ended were.0.unended were.0.ended
    (sym (regrouped chunk (joined_chunks chunks) behind) ∙ same ∙ regrouped other (joined_chunks others) (front ++ back)) in
    lies_behind chunks others behind front back are.1 within.1 were.1 unended oversized tails (behind_first other chunk others chunks behind which)

-- a script that begins with chunks within the limit
places : (script behind : List ℕ) (chunks others : List (List ℕ)) → BeginsWith script chunks behind → All IsWithin chunks → (length others < length chunks) ⊎ IsWithin behind
    → HasLongChunk script others → ⊥
places script behind chunks others begins within which long =
    lies_behind chunks others behind long.front long.further (recursion_from_All IsChunk chunks begins.each) (recursion_from_All IsWithin chunks within)
    (recursion_from_All IsChunk others long.begun.each) long.unended long.oversized (sym begins.whole ∙ long.begun.whole) which

-- none of these chunks is too long
pub keeps_up_to : (script behind : List ℕ) (chunks : List (List ℕ)) (done : ℕ) → BeginsWith script chunks behind → All IsWithin chunks → done ≡ length chunks
    → length script ≤ SCRIPT_BYTES → KeepsLimitsUpTo script done
keeps_up_to script behind chunks done begins within counted few = record {
  chunks = λ others less long. places script behind chunks others begins within (inl (omega (arith, less, counted))) long;
  bytes = few;
}

-- nor is any other, where few bytes stand behind them
pub keeps_limits : (script behind : List ℕ) (chunks : List (List ℕ)) → BeginsWith script chunks behind → All IsWithin chunks → IsWithin behind
    → length script ≤ SCRIPT_BYTES → KeepsLimits script
keeps_limits script behind chunks begins within kept few = record {
  chunks = λ others long. places script behind chunks others begins within (inr kept) long;
  bytes = few;
}

-- a script that begins with these bytes has the long chunk that they have
pub long_chunk_more : (front back : List ℕ) (chunks : List (List ℕ)) → HasLongChunk front chunks → HasLongChunk (front ++ back) chunks
long_chunk_more front back chunks long = record {
  front = long.front;
  further = long.further ++ back;
  begun = record {
    whole = ap (λ l. l ++ back) long.begun.whole ∙ append_assoc (joined_chunks chunks) (long.front ++ long.further) back ∙ ap (λ l. joined_chunks chunks ++ l) (append_assoc long.front long.further back);
    each = long.begun.each;
  };
  unended = long.unended;
  oversized = long.oversized;
}
