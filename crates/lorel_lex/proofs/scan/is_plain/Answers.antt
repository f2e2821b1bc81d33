use Rattle.std.proofs.Common.{arith}
use Rattle.lorel_lex.proofs.TableLaws.{plain_entry}
use Rattle.lorel_lex.proofs.scan.is_plain.Goals as goal

pub returns : goal.returns
returns c = plain_entry c.args.byte (omega (arith, c.ranges.byte.fits))
