use Rattle.std.proofs.Common.{arith}
use Rattle.lorel_lex.proofs.TableLaws.{word_entry}
use Rattle.lorel_lex.proofs.byte_class.is_word_byte.Goals as goal

pub returns : goal.returns
returns c = word_entry c.args.byte (omega (arith, c.ranges.byte.fits))
