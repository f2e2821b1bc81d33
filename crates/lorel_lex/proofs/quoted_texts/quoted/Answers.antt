use Rattle.std.proofs.Common.{◌+◌, ◌-◌, length, take, drop}
use Rattle.lorel_lex.proofs.NumberLaws.{behind, between}
use Rattle.lorel_lex.proofs.QuotedLaws.{none_unclosed, none_contents, encloses}
use Rattle.lorel_lex.proofs.quoted_texts.quoted.Goals as goal

pub returns-in_default : goal.returns-in_default
returns-in_default c =
    let bytes = c.args.bytes.now in
    none_unclosed c.args.quote bytes (take (length bytes - 1) (drop 1 bytes)) c.requires.quote (behind c.args.quote bytes c.requires.some c.requires.opens) c.in_default.ensures

pub returns-in-Ok : goal.returns-in-Ok
returns-in-Ok c =
    let bytes = c.args.bytes.now in
    let len = c.in-Some.len in
    encloses c.args.quote bytes (take (length bytes - 1) (drop 1 bytes)) (take (len + 1 - 1) (drop 1 bytes)) c.in-Ok.text len c.requires.quote
    (behind c.args.quote bytes c.requires.some c.requires.opens) c.in-Some.ensures (between bytes len) c.in-Ok.ensures

pub returns-in-Err : goal.returns-in-Err
returns-in-Err c =
    let bytes = c.args.bytes.now in
    let len = c.in-Some.len in
    none_contents c.args.quote bytes (take (length bytes - 1) (drop 1 bytes)) (take (len + 1 - 1) (drop 1 bytes)) len c.in-Err.fault c.requires.quote
    (behind c.args.quote bytes c.requires.some c.requires.opens) c.in-Some.ensures (between bytes len) c.in-Err.ensures
