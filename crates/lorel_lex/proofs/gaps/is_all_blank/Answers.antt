use Rattle.std.proofs.Common.{length, eqb-true, eq-eqb}
use Rattle.lorel_lex.proofs.GapLaws.{SkipsGap-blank}
use Rattle.lorel_lex.proofs.gaps.is_all_blank.Goals as goal

pub returns : goal.returns
returns c =
    let bytes = c.args.bytes.now in
    let len = c.gap_len.result in
    (λ t. c.gap_len.ensures.blank (eqb-true len (length bytes) t), λ b. eq-eqb len (length bytes) (SkipsGap-blank bytes len c.gap_len.ensures b))
