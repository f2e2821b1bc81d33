use Rattle.std.proofs.Common.{◌+◌, ◌-◌, ◌<◌, ◌++◌, [], length, take, drop, sym, subst, inr, arith}
use Rattle.std.proofs.lemmas.List.{length-drop}
use Rattle.lorel_lex.specs.Types.{Token}
use Rattle.lorel_lex.specs.Tokens.{AreTokens}
use Rattle.lorel_lex.proofs.TokenLaws.{GoesOnFrom, GoesOnFrom-more, a_place, next_found, gap_behind, front_behind, blank_behind, all_found, fault_found, formed}
use Rattle.lorel_lex.proofs.lexer.tokens.Goals as goal

pub tokens-preserved : goal.tokens-preserved
tokens-preserved c =
    let chunk = c.args.chunk.now in
    let at = c.tokens.at in
    let gap = c.gap_len.result in
    let kind = c.in-Ok.kind in
    let len = c.in-Ok.len in
    let front = take (length chunk - (at + gap)) (drop (at + gap) chunk) in
    let token : Token = record { kind = kind; start = at + gap; end = at + gap + len } in
    let skips = gap_behind chunk at gap c.gap_len.ensures in
    let more : gap < length (drop at chunk) = omega (arith, length-drop at chunk, skips.within, c.tokens.invariant.within) in
    let next = next_found at (drop at chunk) front gap len kind skips more (front_behind chunk at gap) c.in-Ok.ensures.0 c.in-Ok.ensures.1 in
    subst (GoesOnFrom token.end chunk) (sym c.in_ok-push-in-Ok.ensures.ok) (GoesOnFrom-more at chunk (drop len front) token c.tokens.tokens next c.tokens.invariant)

pub returns-in-Err-clause-fault : goal.returns-in-Err-clause-fault
returns-in-Err-clause-fault c = λ free.
    let chunk = c.args.chunk.now in
    let at = c.tokens.at in
    let gap = c.gap_len.result in
    let front = take (length chunk - (at + gap)) (drop (at + gap) chunk) in
    let skips = gap_behind chunk at gap c.gap_len.ensures in
    let more : gap < length (drop at chunk) = omega (arith, length-drop at chunk, skips.within, c.tokens.invariant.within) in
    let place = a_place (drop at chunk) front gap skips more (front_behind chunk at gap) in
    inr (c.is_utf8.ensures.0 c.if-not-is_utf8.false, c.tokens.tokens ++ [], fault_found at chunk c.tokens.tokens c.in-Err.fault c.tokens.invariant (take gap (drop at chunk), front, place, c.in-Err.ensures free))

found-in-start : (c : goal.Then-start-chunk) → AreTokens c.args.chunk.now c.tokens.tokens
found-in-start c =
    let chunk = c.args.chunk.now in
    let at = c.tokens.at in
    let skips = gap_behind chunk at c.gap_len.result c.gap_len.ensures in
    let blank = skips.blank (omega (arith, length-drop at chunk)) in
    record { utf8 = c.is_utf8.ensures.0 c.if-not-is_utf8.false; all = all_found at chunk c.tokens.tokens c.tokens.invariant blank }

found-after : (c : goal.After-tokens) → AreTokens c.args.chunk.now c.tokens.tokens
found-after c =
    let chunk = c.args.chunk.now in
    let at = c.tokens.at in
    record { utf8 = c.is_utf8.ensures.0 c.if-not-is_utf8.false; all = all_found at chunk c.tokens.tokens c.tokens.invariant (blank_behind chunk at c.tokens-test.false) }

pub returns-then-start-chunk-clause-found : goal.returns-then-start-chunk-clause-found
returns-then-start-chunk-clause-found c = found-in-start c

pub returns-then-start-chunk-clause-formed : goal.returns-then-start-chunk-clause-formed
returns-then-start-chunk-clause-formed c = formed c.args.chunk.now c.tokens.tokens (found-in-start c)

pub returns-clause-found : goal.returns-clause-found
returns-clause-found c = found-after c

pub returns-clause-formed : goal.returns-clause-formed
returns-clause-formed c = formed c.args.chunk.now c.tokens.tokens (found-after c)
