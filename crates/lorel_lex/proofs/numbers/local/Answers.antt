use Rattle.std.proofs.Common.{◌<◌, ◌+◌, ◌-◌, ◌^◌, List, ℕ, length, take, drop, refl, sym, subst, arith}
use Rattle.std.specs.Str.Parse.{AllDigits, digits_value}
use Rattle.lorel_lex.specs.Types.{Local}
use Rattle.lorel_lex.proofs.FaultLaws.{kept, reads_bad, reads_range}
use Rattle.lorel_lex.proofs.NumberLaws.{AllDigits-from_run, local_shape, no_local, byte_behind, between}
use Rattle.lorel_lex.proofs.numbers.local.Goals as goal

pub returns-then-len-eq0 : goal.returns-then-len-eq0
returns-then-len-eq0 c =
    let bytes = c.args.bytes.now in
    let rest = take (length bytes - 1) (drop 1 bytes) in
    reads_bad bytes (no_local bytes rest c.digits_len-len.result (byte_behind 38 bytes (omega arith) c.requires) c.digits_len-len.ensures c.if-len-eq0.true)

pub small-requires : goal.small-requires
small-requires c =
    let bytes = c.args.bytes.now in
    let len = c.digits_len-len.result in
    let rest = take (length bytes - 1) (drop 1 bytes) in
    subst (λ (l : List ℕ). AllDigits 10 l) (sym (between bytes len)) (AllDigits-from_run (take len rest) c.digits_len-len.ensures.passed)

pub returns-in-Some : goal.returns-in-Some
returns-in-Some c =
    let bytes = c.args.bytes.now in
    let len = c.digits_len-len.result in
    let rest = take (length bytes - 1) (drop 1 bytes) in
    let digits = take (len + 1 - 1) (drop 1 bytes) in
    let fits : c.in-Some.value < 2 ^ 32 = omega (arith, c.in-Some.ensures) in (
      local_shape bytes rest digits c.in-Some.value len (byte_behind 38 bytes (omega arith) c.requires) c.digits_len-len.ensures (omega arith) (between bytes len) c.in-Some.ensures.1,
      kept (Local c.in-Some.value) (drop (len + 1) bytes) tt fits tt,
    )

pub returns-in-None : goal.returns-in-None
returns-in-None c =
    let bytes = c.args.bytes.now in
    let len = c.digits_len-len.result in
    let rest = take (length bytes - 1) (drop 1 bytes) in
    let digits = take (len + 1 - 1) (drop 1 bytes) in
    let value = digits_value 10 digits in
    reads_range bytes (Local value) (len + 1)
    (local_shape bytes rest digits value len (byte_behind 38 bytes (omega arith) c.requires) c.digits_len-len.ensures (omega arith) (between bytes len) refl) tt c.in-None.ensures
