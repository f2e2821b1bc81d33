use Rattle.std.proofs.Common.{◌≡◌, List, ℕ, Bool, false, Some, get_or, subst, ap, ◌∙◌, sym}
use Rattle.std.proofs.lemmas.List.{take_all}
use Rattle.lorel_lex.specs.inside.Lexing.{escaped_after}
use Rattle.lorel_lex.proofs.ContentsLaws.{no_quote, escaped-more, escaped_by, unescaped_by}
use Rattle.lorel_lex.proofs.quoted_texts.quote_behind_escapes.Goals as goal
use Rattle.lorel_lex.proofs.quoted_texts.quote_behind_escapes.Goals.{then-escaped, else-escaped+else-byte-quote}

pub bytes-preserved : goal.bytes-preserved
bytes-preserved c =
    let bytes = c.args.bytes.now in
    let byte = get_or bytes c.bytes.i 0 in
    escaped-more c.args.quote bytes c.bytes.i c.bytes.escaped c.if-escaped.escaped c.bytes-test.true c.bytes.invariant (elim c.if-escaped.branch [
      | then-escaped w ↦ escaped_by c.args.quote c.bytes.escaped byte w.if-escaped.true ∙ ap (λ (b : Bool). Some b) (sym w.escaped-is)
      | else-escaped+else-byte-quote w ↦ unescaped_by c.args.quote c.bytes.escaped c.if-escaped.escaped byte w.if-escaped.false w.if-byte-quote.false w.escaped-is
    ])

pub returns : goal.returns
returns c =
    let bytes = c.args.bytes.now in
    no_quote c.args.quote bytes c.bytes.escaped (subst (λ (l : List ℕ). escaped_after c.args.quote false l ≡ Some c.bytes.escaped) (take_all c.bytes.i bytes c.bytes-test.false) c.bytes.invariant)
