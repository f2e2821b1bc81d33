use Rattle.std.proofs.Common.{◌-◌, sym, ap, ◌∙◌, arith, take, drop, length}
use Rattle.std.proofs.lemmas.List.{take_rest, length-drop}
use Rattle.lorel_lex.specs.Gaps.{nothing}
use Rattle.lorel_lex.proofs.GapLaws.{IsGap-blank, IsGap-comment, IsBlank-comment}
use Rattle.lorel_lex.proofs.gaps.gap_len.Goals as goal

pub pieces-init : goal.pieces-init
pieces-init c = record { within = omega arith; dropped = nothing }

pub pieces-preserved-then-is_blank : goal.pieces-preserved-then-is_blank
pieces-preserved-then-is_blank c = record {
  within = omega arith;
  dropped = IsGap-blank c.args.bytes.now c.pieces.at c.pieces-test.true c.pieces.invariant.dropped (sym c.is_blank.ensures ∙ c.if-is_blank.true);
}

pub pieces-preserved : goal.pieces-preserved
pieces-preserved c =
    let bytes = c.args.bytes.now in
    let rest = take (length bytes - c.pieces.at) (drop c.pieces.at bytes) in
    let same = take_rest bytes c.pieces.at in
    record {
      within = omega (arith, c.in-Some.ensures.within, ap length same, length-drop c.pieces.at bytes);
      dropped = IsGap-comment bytes rest c.pieces.at c.in-Some.len same c.pieces.invariant.dropped (sym c.begins_comment.ensures ∙ c.if-begins_comment.true) c.in-Some.ensures;
    }

pub returns-in-None : goal.returns-in-None
returns-in-None c =
    let bytes = c.args.bytes.now in
    let rest = take (length bytes - c.pieces.at) (drop c.pieces.at bytes) in
    record {
      within = omega arith;
      dropped = λ h. absurd (omega arith);
      outside = λ h. absurd (omega arith);
      blank = λ _. IsBlank-comment bytes rest c.pieces.at (take_rest bytes c.pieces.at) c.pieces.invariant.dropped (sym c.begins_comment.ensures ∙ c.if-begins_comment.true) c.in-None.ensures;
    }
