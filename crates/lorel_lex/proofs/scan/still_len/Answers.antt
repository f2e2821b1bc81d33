use Rattle.lorel_lex.proofs.ScanLaws.{plain_still, comment_still, text_still, quoted_still}
use Rattle.lorel_lex.proofs.scan.still_len.Goals as goal

pub returns-in-Plain : goal.returns-in-Plain
returns-in-Plain c = rw (c.in-Plain.is) (plain_still c.args.bytes.now c.plain_len.result c.plain_len.ensures.within c.plain_len.ensures.passed)

pub returns-in-Comment : goal.returns-in-Comment
returns-in-Comment c =
    let run = c.before-in-Comment in
    rw (c.in-Comment.is) (comment_still c.args.bytes.now run.result run.ensures.within run.ensures.passed)

pub returns-in-Text : goal.returns-in-Text
returns-in-Text c =
    let run = c.before-in-Text in
    rw (c.in-Text.is) (text_still c.args.bytes.now run.result run.ensures.within run.ensures.passed)

pub returns-in-Quoted : goal.returns-in-Quoted
returns-in-Quoted c =
    let run = c.before-in-Quoted in
    rw (c.in-Quoted.is) (quoted_still c.args.bytes.now run.result run.ensures.within run.ensures.passed)
