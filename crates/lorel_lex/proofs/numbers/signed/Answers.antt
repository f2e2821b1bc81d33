use Rattle.std.proofs.Common.{◌≡◌, ◌+◌, ◌-◌, true, false, List, ℕ, length, take, drop, refl, sym, ◌∙◌, subst, arith}
use Rattle.std.specs.Prelude.{pos, neg_ℤ}
use Rattle.std.specs.Str.Parse.{AllDigits, digits_value}
use Rattle.lorel_lex.specs.Types.{Number}
use Rattle.lorel_lex.proofs.FaultLaws.{kept, reads_real, reads_range}
use Rattle.lorel_lex.proofs.NumberLaws.{AllDigits-from_run, signed_shape, read_back, byte_behind, between, fraction_is, second_some}
use Rattle.lorel_lex.proofs.numbers.signed.Goals as goal

pub returns-then-begins_fraction : goal.returns-then-begins_fraction
returns-then-begins_fraction c =
    let bytes = c.args.bytes.now in
    let len = c.digits_len-len.result in
    let rest = take (length bytes - 1) (drop 1 bytes) in
    let minus = byte_behind 45 bytes (omega arith) c.requires.minus in
    let some = second_some 45 bytes rest len minus c.requires.digit c.digits_len-len.ensures in
    let value = neg_ℤ (pos (digits_value 10 (take len rest))) in
    reads_real bytes (Number value) (len + 1) (signed_shape bytes rest (take len rest) value len minus c.digits_len-len.ensures some refl refl)
    (λ whole. let wrong : true ≡ false = sym (fraction_is bytes (len + 1) c.begins_fraction.result true c.begins_fraction.ensures c.if-begins_fraction.true) ∙ whole in cc)

pub negated-requires : goal.negated-requires
negated-requires c =
    let bytes = c.args.bytes.now in
    let len = c.digits_len-len.result in
    let rest = take (length bytes - 1) (drop 1 bytes) in
    subst (λ (l : List ℕ). AllDigits 10 l) (sym (between bytes len)) (AllDigits-from_run (take len rest) c.digits_len-len.ensures.passed)

pub returns-in-Some : goal.returns-in-Some
returns-in-Some c =
    let bytes = c.args.bytes.now in
    let len = c.digits_len-len.result in
    let rest = take (length bytes - 1) (drop 1 bytes) in
    let digits = take (len + 1 - 1) (drop 1 bytes) in
    let minus = byte_behind 45 bytes (omega arith) c.requires.minus in
    let some = second_some 45 bytes rest len minus c.requires.digit c.digits_len-len.ensures in
    let back = read_back c.in-Some.value (neg_ℤ (pos (digits_value 10 digits))) c.in-Some.ensures.0 c.in-Some.ensures.1 in (
      signed_shape bytes rest digits _ len minus c.digits_len-len.ensures some (between bytes len) back.0,
      kept (Number _) (drop (len + 1) bytes) (fraction_is bytes (len + 1) c.begins_fraction.result false c.begins_fraction.ensures c.if-begins_fraction.false) back.1 tt,
    )

pub returns-in-None : goal.returns-in-None
returns-in-None c =
    let bytes = c.args.bytes.now in
    let len = c.digits_len-len.result in
    let rest = take (length bytes - 1) (drop 1 bytes) in
    let digits = take (len + 1 - 1) (drop 1 bytes) in
    let minus = byte_behind 45 bytes (omega arith) c.requires.minus in
    let some = second_some 45 bytes rest len minus c.requires.digit c.digits_len-len.ensures in
    let value = neg_ℤ (pos (digits_value 10 digits)) in
    reads_range bytes (Number value) (len + 1) (signed_shape bytes rest digits value len minus c.digits_len-len.ensures some (between bytes len) refl)
    (fraction_is bytes (len + 1) c.begins_fraction.result false c.begins_fraction.ensures c.if-begins_fraction.false) c.in-None.ensures
