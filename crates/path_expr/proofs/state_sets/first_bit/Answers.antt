use Rattle.std.proofs.Common.{arith}
use Rattle.std.proofs.lemmas.Nat.Bits.{bit_at_above}
use Rattle.path_expr.proofs.StateLaws.{none_from, first_from}
use Rattle.path_expr.proofs.state_sets.first_bit.Goals as goal

pub returns-then-from-ge128-clause-none : goal.returns-then-from-ge128-clause-none
returns-then-from-ge128-clause-none c = λ place behind has. omega (arith, bit_at_above c.args.bits 128 place (omega arith) (omega arith), has)

pub returns-then-left-eq0-clause-none : goal.returns-then-left-eq0-clause-none
returns-then-left-eq0-clause-none c = none_from c.args.bits c.args.from c.if-left-eq0.true

pub returns-clause-some : goal.returns-clause-some
returns-clause-some c = (omega arith, (first_from c.args.bits c.args.from (omega arith) c.if-left-eq0.false).0)

pub returns-clause-least : goal.returns-clause-least
returns-clause-least c = (first_from c.args.bits c.args.from (omega arith) c.if-left-eq0.false).1

pub returns-clause-within : goal.returns-clause-within
returns-clause-within c = (first_from c.args.bits c.args.from (omega arith) c.if-left-eq0.false).2
