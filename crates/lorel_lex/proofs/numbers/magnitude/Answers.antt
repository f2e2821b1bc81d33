use Rattle.std.proofs.Common.{◌≡◌, ℕ, get_or, take, ap, ◌∙◌, arith}
use Rattle.std.specs.Str.Parse.{digits_value}
use Rattle.std.proofs.lemmas.List.{take_all}
use Rattle.std.proofs.lemmas.Int.Digits.{digits_value_more}
use Rattle.std.proofs.lemmas.Str.{digit_value_digit}
use Rattle.std.proofs.lemmas.Str.Parse.{digit_at}
use Rattle.lorel_lex.proofs.NumberLaws.{digits_value-step}
use Rattle.lorel_lex.proofs.numbers.magnitude.Goals as goal

pub returns-in_err-checked_mul : goal.returns-in_err-checked_mul
returns-in_err-checked_mul c =
    let step = digits_value-step c.args.digits.now c.digits.digit-index c.digits.value c.digits-test.true c.digits.invariant.value in
    rw (c.from_residual.ensures) (λ small. c.in_err-checked_mul.ensures (omega arith))

pub overflow_sub-digit : goal.overflow_sub-digit
overflow_sub-digit c = (digit_at c.args.digits.now c.digits.digit-index c.requires c.digits-test.true).0

pub returns-in_err-value : goal.returns-in_err-value
returns-in_err-value c =
    let digits = c.args.digits.now in
    let i = c.digits.digit-index in
    let step = digits_value-step digits i c.digits.value c.digits-test.true c.digits.invariant.value in
    let digit = digit_value_digit (get_or digits i 0) (digit_at digits i c.requires c.digits-test.true) in
    rw (c.from_residual-in_err-value.ensures) (λ small. c.in_err-value.ensures (omega (arith, c.in_ok-checked_mul.ensures, c.from.ensures)))

pub digits-preserved : goal.digits-preserved
digits-preserved c =
    let digits = c.args.digits.now in
    let i = c.digits.digit-index in
    let more = digits_value_more 10 digits i c.digits-test.true in
    let digit = digit_value_digit (get_or digits i 0) (digit_at digits i c.requires c.digits-test.true) in
    let before = ap (λ (n : ℕ). n) c.digits.invariant.value in
    record {
      fits = omega (arith, c.in_ok-value.ensures);
      value = omega (arith, c.in_ok-value.ensures, c.in_ok-checked_mul.ensures, c.from.ensures);
    }

pub returns : goal.returns
returns c =
    let digits = c.args.digits.now in
    let all : digits_value 10 (take c.digits.digit-index digits) ≡ digits_value 10 digits = ap (digits_value 10) (take_all c.digits.digit-index digits c.digits-test.false) in
    (omega (arith, c.digits.invariant.fits, c.digits.invariant.value), c.digits.invariant.value ∙ all)
