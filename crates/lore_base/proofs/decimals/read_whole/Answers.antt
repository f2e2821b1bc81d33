use Rattle.std.proofs.Common.{ℤ}
use Rattle.lore_base.proofs.DecimalLaws.{IsNumber-utf8}
use Rattle.lore_base.proofs.decimals.read_whole.Goals as goal

pub returns-in_default-clause-none : goal.returns-in_default-clause-none
returns-in_default-clause-none c = λ (number : ℤ) reads. c.in_default.ensures.cases.0 (IsNumber-utf8 c.args.text.now number reads.0)
