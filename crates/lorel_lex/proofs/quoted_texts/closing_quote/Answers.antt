use Rattle.std.proofs.Common.{take}
use Rattle.lorel_lex.proofs.ContentsLaws.{plain_inside}
use Rattle.lorel_lex.proofs.quoted_texts.closing_quote.Goals as goal

pub returns-then-bytes-at : goal.returns-then-bytes-at
returns-then-bytes-at c =
    let bytes = c.args.bytes.now in
    let at = c.before-at.result in
    record {
      within = c.if-at-bytes.true;
      inside = plain_inside c.args.quote (take at bytes) c.before-at.ensures.passed;
      ended = c.if-bytes-at.true;
    }
