use Rattle.std.proofs.Common.{drop, sym}
use Rattle.lorel_lex.specs.Types.{Symbol}
use Rattle.lorel_lex.proofs.FaultLaws.{kept, reads_bad}
use Rattle.lorel_lex.proofs.SignLaws.{pair_shape, single_shape, no_symbol, no_pair}
use Rattle.lorel_lex.proofs.symbols.symbol.Goals as goal

pub returns-in-Some : goal.returns-in-Some
returns-in-Some c =
    let bytes = c.args.bytes.now in
    (pair_shape bytes c.in-Some.sign c.requires.symbol (sym c.in-Some.ensures), kept (Symbol c.in-Some.sign) (drop 2 bytes) tt tt tt)

pub returns-in-Some-single : goal.returns-in-Some-single
returns-in-Some-single c =
    let bytes = c.args.bytes.now in
    let sign = c.in-Some-single.sign in
    (single_shape bytes sign c.requires.some c.requires.symbol (no_pair bytes c.pair.result c.pair.ensures c.in_default.is) (sym c.in-Some-single.ensures), kept (Symbol sign) (drop 1 bytes) tt tt tt)

pub returns-in-None : goal.returns-in-None
returns-in-None c =
    let bytes = c.args.bytes.now in
    reads_bad bytes (no_symbol bytes c.requires.symbol (no_pair bytes c.pair.result c.pair.ensures c.in_default.is) (sym c.in-None.ensures))
