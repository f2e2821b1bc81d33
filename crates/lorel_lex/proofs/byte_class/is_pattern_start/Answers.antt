use Rattle.std.proofs.Common.{arith}
use Rattle.lorel_lex.proofs.TableLaws.{start_entry}
use Rattle.lorel_lex.proofs.byte_class.is_pattern_start.Goals as goal

pub returns : goal.returns
returns c = start_entry c.args.byte (omega (arith, c.ranges.byte.fits))
