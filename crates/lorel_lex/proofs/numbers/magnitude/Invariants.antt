use Rattle.std.proofs.Common.{◌≡◌, ◌<◌, ◌^◌, take}
use Rattle.std.specs.Str.Parse.{digits_value}
use Rattle.lorel_lex.proofs.numbers.magnitude.Given as goal

abbrev pub invariant-digits : goal.invariant-digits
invariant-digits l = record {
  fits : l.value < 2 ^ 64;
  value : l.value ≡ digits_value 10 (take l.digit-index l.digits);
}
