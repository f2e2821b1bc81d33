use Rattle.std.proofs.Common.{◌≡◌, ℕ, eqb, true, false, drop, sym, ◌∙◌, ap}
use Rattle.std.proofs.lemmas.List.{take_rest}
use Rattle.lorel_tokens.specs.Shapes.{begins, is_pattern_byte}
use Rattle.lorel_lex.specs.inside.Lexing.{begins_path_of}
use Rattle.lorel_lex.proofs.WordLaws.{identifier_letters, pattern_letters, run_goes_on, no_path}
use Rattle.lorel_lex.proofs.words.read_letters.Goals as goal
use Rattle.lorel_lex.proofs.words.read_letters.Goals.{else-len-eq4-via-then-len-eq4+else-is_path_of, else-len-eq4-via-else-len-eq4}

pub returns-then-begins_percent : goal.returns-then-begins_percent
returns-then-begins_percent c =
    let bytes = c.args.bytes.now in
    let len = c.word_run-len.result in
    let none : begins_path_of bytes ≡ false = elim c.else-len-eq4.branch [
      | else-len-eq4-via-then-len-eq4+else-is_path_of w ↦ sym w.is_path_of.ensures ∙ w.if-is_path_of.false
      | else-len-eq4-via-else-len-eq4 w ↦ no_path bytes len c.word_run-len.ensures w.if-len-eq4.false
    ] in
    let more : begins is_pattern_byte (drop len bytes) ≡ true = run_goes_on bytes len true c.word_run-len.ensures
    (ap (begins (λ (b : ℕ). eqb b 37)) (sym (take_rest bytes len)) ∙ sym c.begins_percent.ensures ∙ c.if-begins_percent.true) in
    (none, c.pattern_run.ensures, pattern_letters bytes len c.pattern_run.result c.word_run-len.ensures more c.pattern_run.ensures)

pub returns-else-begins_percent : goal.returns-else-begins_percent
returns-else-begins_percent c =
    let bytes = c.args.bytes.now in
    let len = c.word_run-len.result in
    let none : begins_path_of bytes ≡ false = elim c.else-len-eq4.branch [
      | else-len-eq4-via-then-len-eq4+else-is_path_of w ↦ sym w.is_path_of.ensures ∙ w.if-is_path_of.false
      | else-len-eq4-via-else-len-eq4 w ↦ no_path bytes len c.word_run-len.ensures w.if-len-eq4.false
    ] in
    let ends : begins is_pattern_byte (drop len bytes) ≡ false = run_goes_on bytes len false c.word_run-len.ensures
    (ap (begins (λ (b : ℕ). eqb b 37)) (sym (take_rest bytes len)) ∙ sym c.begins_percent.ensures ∙ c.if-begins_percent.false) in
    let both = identifier_letters bytes len c.word_run-len.ensures ends in
    (none, both.0, both.1)
