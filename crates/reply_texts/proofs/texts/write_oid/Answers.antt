use Rattle.std.proofs.Common.{◌≡◌, ◌+◌, ◌-◌, arith}
use Rattle.std.proofs.lemmas.Fmt.{length-decimal-le}
use Rattle.std.proofs.lemmas.List.{drop-set}
use Rattle.reply_texts.proofs.texts.write_oid.Goals as goal

pub write_digits-digits-requires : goal.write_digits-digits-requires
write_digits-digits-requires c =
    let small = c.ranges.number in
    let same = c.from.ensures in
    let long = length-decimal-le 10 c.from.result (omega arith) (omega (arith, small, same)) (omega (arith, small, same)) in
    (omega (arith, long), omega arith)

pub overflow_sub-bytes : goal.overflow_sub-bytes
overflow_sub-bytes c =
    let small = c.ranges.number in
    let same = c.from.ensures in
    omega (arith, length-decimal-le 10 c.from.result (omega arith) (omega (arith, small, same)) (omega (arith, small, same)))

pub overflow_sub-result : goal.overflow_sub-result
overflow_sub-result c =
    let small = c.ranges.number in
    let same = c.from.ensures in
    omega (arith, length-decimal-le 10 c.from.result (omega arith) (omega (arith, small, same)) (omega (arith, small, same)))

pub returns-clause-written : goal.returns-clause-written
returns-clause-written c =
    let w = c.write_digits-digits in
    let small = c.ranges.number in
    let same = c.from.ensures in
    let long = length-decimal-le 10 c.from.result (omega arith) (omega (arith, small, same)) (omega (arith, small, same)) in
    let next : w.result - 1 + 1 ≡ w.result = omega (arith, long) in
    rw (drop-set w.new.buf (w.result - 1) 38 (omega (arith, long)), next, w.ensures.written, same)
