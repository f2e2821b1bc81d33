use Rattle.std.proofs.Common.{true, false, ◌∙◌, ap, take, drop, length, sym, subst, arith}
use Rattle.std.proofs.lemmas.List.{length-take-le}
use Rattle.lorel_lex.specs.Types.{Kind, Word, Wild, PathOf}
use Rattle.lorel_lex.specs.inside.Lexing.{IsShape}
use Rattle.lorel_lex.proofs.FaultLaws.{kept}
use Rattle.lorel_lex.proofs.WordLaws.{path_of_shape, word_shape, word_long, run_kind}
use Rattle.lorel_lex.proofs.words.word.Goals as goal

pub returns-in-PathWord : goal.returns-in-PathWord
returns-in-PathWord c =
    let bytes = c.args.bytes.now in
    (path_of_shape bytes c.requires c.in-PathWord.ensures, kept PathOf (drop 7 bytes) tt tt tt)

pub returns-in-Ok : goal.returns-in-Ok
returns-in-Ok c =
    let bytes = c.args.bytes.now in
    let len = c.in-Identifier.len in
    let (path, run, none) = c.in-Identifier.ensures in
    let text = c.in-Ok.text in
    let kinds = run_kind (take len bytes) false run.passed none ∙ ap Word (sym c.in-Ok.ensures.0) in (
      subst (λ (kind : Kind). IsShape bytes kind len) kinds (word_shape bytes len c.requires path run),
      kept (Word text) (drop len bytes) tt tt (omega (arith, ap length c.in-Ok.ensures.0, c.in-Ok.ensures.1)),
    )

pub returns-in-Err : goal.returns-in-Err
returns-in-Err c = λ free.
    let bytes = c.args.bytes.now in
    let len = c.in-Identifier.len in
    let (path, run, _) = c.in-Identifier.ensures in
    let (is, long) = c.in-Err.ensures free in
    rw (is) (word_long bytes len c.requires path run (omega (arith, length-take-le len bytes run.within)) (λ e. cc))

pub returns-in-Ok-short : goal.returns-in-Ok-short
returns-in-Ok-short c =
    let bytes = c.args.bytes.now in
    let len = c.in-Pattern.len in
    let (path, run, percent) = c.in-Pattern.ensures in
    let text = c.in-Ok-short.text in
    let kinds = run_kind (take len bytes) true run.passed percent ∙ ap Wild (sym c.in-Ok-short.ensures.0) in (
      subst (λ (kind : Kind). IsShape bytes kind len) kinds (word_shape bytes len c.requires path run),
      kept (Wild text) (drop len bytes) tt tt (omega (arith, ap length c.in-Ok-short.ensures.0, c.in-Ok-short.ensures.1)),
    )

pub returns-in-Err-short : goal.returns-in-Err-short
returns-in-Err-short c = λ free.
    let bytes = c.args.bytes.now in
    let len = c.in-Pattern.len in
    let (path, run, _) = c.in-Pattern.ensures in
    let (is, long) = c.in-Err-short.ensures free in
    rw (is) (word_long bytes len c.requires path run (omega (arith, length-take-le len bytes run.within)) (λ e. cc))
