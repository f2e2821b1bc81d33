use Rattle.std.proofs.Common.{drop, length, ap, arith, inl}
use Rattle.lorel_lex.specs.Types.{Chars}
use Rattle.lorel_lex.proofs.FaultLaws.{kept, reads_long}
use Rattle.lorel_lex.proofs.QuotedLaws.{text_shape, no_text}
use Rattle.lorel_lex.proofs.quoted_texts.text.Goals as goal

pub returns-then-as_bytes-gt-TEXT_BYTES : goal.returns-then-as_bytes-gt-TEXT_BYTES
returns-then-as_bytes-gt-TEXT_BYTES c =
    let bytes = c.args.bytes.now in
    reads_long bytes (Chars c.in-Ok.text) c.in-Ok.len (text_shape bytes c.in-Ok.text c.in-Ok.len c.requires c.in-Ok.ensures) tt tt (λ short. omega (arith, ap length c.as_bytes.ensures))

pub returns-else-as_bytes-gt-TEXT_BYTES : goal.returns-else-as_bytes-gt-TEXT_BYTES
returns-else-as_bytes-gt-TEXT_BYTES c =
    let bytes = c.args.bytes.now in (
      text_shape bytes c.in-Ok.text c.in-Ok.len c.requires c.in-Ok.ensures,
      kept (Chars c.in-Ok.text) (drop c.in-Ok.len bytes) tt tt (omega (arith, ap length c.as_bytes.ensures)),
    )

pub returns-in-Err : goal.returns-in-Err
returns-in-Err c = λ free. let (bad, none) = c.in-Err.ensures free in inl (bad, no_text c.args.bytes.now c.requires none)
