use Rattle.std.proofs.Common.{◌≤◌, drop, length, ap, arith, inl}
use Rattle.lorel_lex.specs.Types.{Quoted}
use Rattle.lorel_lex.proofs.FaultLaws.{kept, reads_bad, reads_long}
use Rattle.lorel_lex.proofs.QuotedLaws.{label_shape, no_label, empty_label}
use Rattle.lorel_lex.proofs.quoted_texts.label.Goals as goal

pub returns-then-size-eq0 : goal.returns-then-size-eq0
returns-then-size-eq0 c =
    let bytes = c.args.bytes.now in
    reads_bad bytes (empty_label bytes c.in-Ok.text c.in-Ok.len c.requires c.in-Ok.ensures (omega (arith, ap length c.as_bytes-size.ensures)))

pub returns-then-size-gt-WORD_BYTES : goal.returns-then-size-gt-WORD_BYTES
returns-then-size-gt-WORD_BYTES c =
    let bytes = c.args.bytes.now in
    let some : 1 ≤ length c.in-Ok.text = omega (arith, ap length c.as_bytes-size.ensures) in
    reads_long bytes (Quoted c.in-Ok.text) c.in-Ok.len (label_shape bytes c.in-Ok.text c.in-Ok.len c.requires c.in-Ok.ensures some) tt tt (λ short. omega (arith, ap length c.as_bytes-size.ensures))

pub returns-else-size-gt-WORD_BYTES : goal.returns-else-size-gt-WORD_BYTES
returns-else-size-gt-WORD_BYTES c =
    let bytes = c.args.bytes.now in
    let some : 1 ≤ length c.in-Ok.text = omega (arith, ap length c.as_bytes-size.ensures) in (
      label_shape bytes c.in-Ok.text c.in-Ok.len c.requires c.in-Ok.ensures some,
      kept (Quoted c.in-Ok.text) (drop c.in-Ok.len bytes) tt tt (omega (arith, ap length c.as_bytes-size.ensures)),
    )

pub returns-in-Err : goal.returns-in-Err
returns-in-Err c = λ free. let (bad, none) = c.in-Err.ensures free in inl (bad, no_label c.args.bytes.now c.requires (λ front back text parts q some. none front back text parts q))
