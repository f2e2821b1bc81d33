use Rattle.std.proofs.Common.{◌≡◌, true, false, take, drop, ◌∙◌, refl, sym}
use Rattle.std.specs.Prelude.{pos}
use Rattle.std.specs.Str.Parse.{digits_value}
use Rattle.lorel_lex.specs.Types.{Number}
use Rattle.lorel_lex.proofs.FaultLaws.{kept, reads_real, reads_range}
use Rattle.lorel_lex.proofs.NumberLaws.{AllDigits-from_run, unsigned_shape, read_back, fraction_is}
use Rattle.lorel_lex.proofs.numbers.unsigned.Goals as goal

pub returns-then-begins_fraction : goal.returns-then-begins_fraction
returns-then-begins_fraction c =
    let bytes = c.args.bytes.now in
    let len = c.digits_len-len.result in
    let value = pos (digits_value 10 (take len bytes)) in
    reads_real bytes (Number value) len (unsigned_shape bytes value len c.digits_len-len.ensures c.requires refl)
    (λ whole. let wrong : true ≡ false = sym (fraction_is bytes len c.begins_fraction.result true c.begins_fraction.ensures c.if-begins_fraction.true) ∙ whole in cc)

pub whole-requires : goal.whole-requires
whole-requires c = AllDigits-from_run (take c.digits_len-len.result c.args.bytes.now) c.digits_len-len.ensures.passed

pub returns-in-Some : goal.returns-in-Some
returns-in-Some c =
    let bytes = c.args.bytes.now in
    let len = c.digits_len-len.result in
    let back = read_back c.in-Some.value (pos (digits_value 10 (take len bytes))) c.in-Some.ensures.0 c.in-Some.ensures.1 in (
      unsigned_shape bytes _ len c.digits_len-len.ensures c.requires back.0,
      kept (Number _) (drop len bytes) (fraction_is bytes len c.begins_fraction.result false c.begins_fraction.ensures c.if-begins_fraction.false) back.1 tt,
    )

pub returns-in-None : goal.returns-in-None
returns-in-None c =
    let bytes = c.args.bytes.now in
    let len = c.digits_len-len.result in
    let value = pos (digits_value 10 (take len bytes)) in
    reads_range bytes (Number value) len (unsigned_shape bytes value len c.digits_len-len.ensures c.requires refl)
    (fraction_is bytes len c.begins_fraction.result false c.begins_fraction.ensures c.if-begins_fraction.false) c.in-None.ensures
