use Rattle.std.proofs.Common.{◌≡◌, ℕ, ◌+◌, ◌≤◌, List, [], ◌∷◌, length, take, refl, ◌∙◌, ap, subst, arith, length-take}
use Rattle.std.specs.Io.KnownBytes.{Consumes}
use Rattle.lore_base.specs.declared.limits.TheConstants.{SCRIPT_BYTES}
use Rattle.lorel_lex.specs.Progress.{Progress}
use Rattle.lore_run.specs.declared.pieces.TheConstants.{PIECE_BYTES}
use Rattle.lore_run.specs.Endings.{outside}
use Rattle.lore_run.specs.inside.Turns.{standing, RunsSoFar}
use Rattle.lore_run.proofs.RunLaws.{few_done, so_far_start, so_far_more}
use Rattle.lore_run.proofs.EndLaws.{finishes_at, ends_finished, ends_read_fault, ends_stopped, ends_too_long}
use Rattle.lore_run.proofs.ReadLaws.{reads_fault, reads_too_long, reads_stopped, reads_finished}
use Rattle.lore_run.proofs.run.run_pieces.Goals as goal

no_bytes : (n : ℕ) (xs : List ℕ) → n ≡ 0 → take n xs ≡ []
no_bytes n [] e = grind arith
no_bytes n (x ∷ xs) e = rw e refl

pub pieces-init : goal.pieces-init
pieces-init g c = record {
  whole = ap (λ (p : Progress). p.whole) c.requires.fresh;
  failed = ap (λ (p : Progress). p.failed) c.requires.fresh;
  so_far = rw (c.requires.fresh, c.new-tally.ensures, c.requires.new) (so_far_start _ _ _);
  fewer = rw c.new-tally.ensures (omega arith);
  source_faults = refl;
  sink_faults = refl;
}

pub end_script-status-requires-clause-room : goal.end_script-status-requires-clause-room
end_script-status-requires-clause-room g c =
    let so_far = c.pieces.invariant.so_far in
    let few = few_done so_far.advanced in
    (omega (arith, few, so_far.counted, so_far.within), omega (arith, few, so_far.counted, so_far.within, c.pieces.invariant.fewer))

pub returns-in-Ok-eq0-clause-ends : goal.returns-in-Ok-eq0-clause-ends
returns-in-Ok-eq0-clause-ends g c =
    let zero : c.in-Ok-eq0.field-0 ≡ 0 = omega arith in
    let L = g.S.Source.left c.pieces.source in
    let M = g.S.Source.left c.read_piece.new.source in
    let none : Consumes L M [] = subst (λ (l : List ℕ). Consumes L M l) (no_bytes c.in-Ok-eq0.field-0 c.read_piece.new.piece zero) c.in-Ok-eq0.ensures.bytes in
    let ended = finishes_at c.pieces.reader.held c.pieces.tally c.end_script-status.new.tally (g.K.Sink.written c.pieces.sink)
    (g.K.Sink.written c.end_script-status.new.sink) c.pieces.session.state c.pieces.steps c.end_script-status.result c.end_script-status.ensures.finished in
    rw c.outcome.ensures (ends_finished c.end_script-status.result _ _ c.pieces.taken (g.S.Source.left c.pieces.source) (g.S.Source.left c.read_piece.new.source)
    (standing c.pieces.reader.held c.pieces.tally (g.K.Sink.written c.pieces.sink) c.pieces.session.state c.pieces.steps)
    (standing c.pieces.reader.held c.end_script-status.new.tally (g.K.Sink.written c.end_script-status.new.sink) c.pieces.session.state c.pieces.steps)
    c.pieces.invariant.so_far none (c.in-Ok-eq0.ensures.end zero) ended)

pub returns-in-Err-clause-ends : goal.returns-in-Err-clause-ends
returns-in-Err-clause-ends g c =
    rw c.outcome-in-Err.ensures (ends_read_fault _ _ c.pieces.taken (g.S.Source.left c.pieces.source) (g.S.Source.left c.read_piece.new.source)
    (standing c.pieces.reader.held c.pieces.tally (g.K.Sink.written c.pieces.sink) c.pieces.session.state c.pieces.steps)
    c.pieces.invariant.so_far c.in-Err.ensures.kept)

pub returns-then-taken-eq-SCRIPT_BYTES-clause-ends : goal.returns-then-taken-eq-SCRIPT_BYTES-clause-ends
returns-then-taken-eq-SCRIPT_BYTES-clause-ends g c =
    let piece = take c.in-Ok.count c.read_piece.new.piece in
    let full : c.pieces.taken ≡ SCRIPT_BYTES = c.if-taken-eq-SCRIPT_BYTES.true in
    let one : length piece ≡ 1 = omega (arith, length-take c.in-Ok.count c.read_piece.new.piece, c.in-Ok.ensures.bound, c.in-Ok.ensures.one full, c.requires.room) in
    rw c.outcome-then-taken-eq-SCRIPT_BYTES.ensures (ends_too_long _ _ c.pieces.taken (g.S.Source.left c.pieces.source) (g.S.Source.left c.read_piece.new.source)
    (standing c.pieces.reader.held c.pieces.tally (g.K.Sink.written c.pieces.sink) c.pieces.session.state c.pieces.steps)
    piece c.pieces.invariant.so_far full c.in-Ok.ensures.bytes one)

pub run_piece-requires-clause-room : goal.run_piece-requires-clause-room
run_piece-requires-clause-room g c =
    let so_far = c.pieces.invariant.so_far in
    omega (arith, few_done so_far.advanced, so_far.counted, so_far.within, so_far.held.sized, length-take c.in-Ok.count c.read_piece.new.piece, c.in-Ok.ensures.bound)

pub pieces-preserved : goal.pieces-preserved
pieces-preserved g c =
    let piece = take c.in-Ok.count c.read_piece.new.piece in
    let so_far = c.pieces.invariant.so_far in
    let ran = c.in-Ok-run_piece.ensures in
    let len : length piece ≡ c.in-Ok.count = omega (arith, length-take c.in-Ok.count c.read_piece.new.piece, c.in-Ok.ensures.bound, c.requires.room) in
    let few : c.pieces.taken + length piece ≤ SCRIPT_BYTES =
    omega (arith, length-take c.in-Ok.count c.read_piece.new.piece, so_far.within, c.in-Ok.ensures.within, c.if-taken-eq-SCRIPT_BYTES.false) in
    let now = standing c.pieces.reader.held c.pieces.tally (g.K.Sink.written c.pieces.sink) c.pieces.session.state c.pieces.steps in
    let next = standing c.run_piece.new.reader.held c.run_piece.new.tally (g.K.Sink.written c.run_piece.new.sink) c.run_piece.new.session.state c.run_piece.new.steps in
    let before = outside (g.S.Source.left c.args.source.now) (g.K.Sink.written c.args.sink.now) in
    record {
      whole = ran.unfailed.0;
      failed = ran.unfailed.1;
      so_far = subst (λ (n : ℕ). RunsSoFar before c.args.steps.now (c.pieces.taken + n) (g.S.Source.left c.read_piece.new.source) next) len
          (so_far_more before c.args.steps.now c.pieces.taken (g.S.Source.left c.pieces.source) (g.S.Source.left c.read_piece.new.source) now next piece so_far c.in-Ok.ensures.bytes few ran.held ran.ok);
      fewer = ran.fewer;
      source_faults = c.in-Ok.ensures.cause.ok ∙ c.pieces.invariant.source_faults;
      sink_faults = ran.faultless ∙ c.pieces.invariant.sink_faults;
    }

pub returns-in-Err-run_piece-clause-ends : goal.returns-in-Err-run_piece-clause-ends
returns-in-Err-run_piece-clause-ends g c =
    let piece = take c.in-Ok.count c.read_piece.new.piece in
    let so_far = c.pieces.invariant.so_far in
    let few : c.pieces.taken + length piece ≤ SCRIPT_BYTES =
    omega (arith, length-take c.in-Ok.count c.read_piece.new.piece, so_far.within, c.in-Ok.ensures.within, c.if-taken-eq-SCRIPT_BYTES.false) in
    let at_hand : length piece ≤ PIECE_BYTES = omega (arith, length-take c.in-Ok.count c.read_piece.new.piece, c.in-Ok.ensures.bound) in
    rw c.outcome-in-Err-run_piece.ensures (ends_stopped c.in-Err-run_piece.status _ _ c.pieces.taken (g.S.Source.left c.pieces.source) (g.S.Source.left c.read_piece.new.source)
    (standing c.pieces.reader.held c.pieces.tally (g.K.Sink.written c.pieces.sink) c.pieces.session.state c.pieces.steps)
    (standing c.run_piece.new.reader.held c.run_piece.new.tally (g.K.Sink.written c.run_piece.new.sink) c.run_piece.new.session.state c.run_piece.new.steps)
    piece so_far c.in-Ok.ensures.bytes few at_hand c.in-Err-run_piece.ensures.stopped)

-- ---- what was read at each end
pub returns-in-Ok-eq0-clause-bounded : goal.returns-in-Ok-eq0-clause-bounded
returns-in-Ok-eq0-clause-bounded g c = λ had.
    let zero : c.in-Ok-eq0.field-0 ≡ 0 = omega arith in
    let L = g.S.Source.left c.pieces.source in
    let M = g.S.Source.left c.read_piece.new.source in
    let none : Consumes L M [] = subst (λ (l : List ℕ). Consumes L M l) (no_bytes c.in-Ok-eq0.field-0 c.read_piece.new.piece zero) c.in-Ok-eq0.ensures.bytes in
    let before = outside (g.S.Source.left c.args.source.now) (g.K.Sink.written c.args.sink.now) in
    let ended = finishes_at c.pieces.reader.held c.pieces.tally c.end_script-status.new.tally (g.K.Sink.written c.pieces.sink)
    (g.K.Sink.written c.end_script-status.new.sink) c.pieces.session.state c.pieces.steps c.end_script-status.result c.end_script-status.ensures.finished in
    rw c.outcome.ensures (reads_finished before c.args.steps.now c.pieces.taken L M
    (standing c.pieces.reader.held c.pieces.tally (g.K.Sink.written c.pieces.sink) c.pieces.session.state c.pieces.steps) c.pieces.invariant.so_far
    c.end_script-status.result
    (standing c.pieces.reader.held c.end_script-status.new.tally (g.K.Sink.written c.end_script-status.new.sink) c.pieces.session.state c.pieces.steps)
    none (c.in-Ok-eq0.ensures.end zero) ended)

pub returns-in-Err-clause-bounded : goal.returns-in-Err-clause-bounded
returns-in-Err-clause-bounded g c = λ had.
    let before = outside (g.S.Source.left c.args.source.now) (g.K.Sink.written c.args.sink.now) in
    rw c.outcome-in-Err.ensures (reads_fault before c.args.steps.now c.pieces.taken (g.S.Source.left c.pieces.source) (g.S.Source.left c.read_piece.new.source)
    (standing c.pieces.reader.held c.pieces.tally (g.K.Sink.written c.pieces.sink) c.pieces.session.state c.pieces.steps)
    c.pieces.invariant.so_far c.in-Err.ensures.kept)

pub returns-then-taken-eq-SCRIPT_BYTES-clause-bounded : goal.returns-then-taken-eq-SCRIPT_BYTES-clause-bounded
returns-then-taken-eq-SCRIPT_BYTES-clause-bounded g c = λ had.
    let before = outside (g.S.Source.left c.args.source.now) (g.K.Sink.written c.args.sink.now) in
    rw c.outcome-then-taken-eq-SCRIPT_BYTES.ensures (reads_too_long before c.args.steps.now c.pieces.taken (g.S.Source.left c.pieces.source) (g.S.Source.left c.read_piece.new.source)
    (standing c.pieces.reader.held c.pieces.tally (g.K.Sink.written c.pieces.sink) c.pieces.session.state c.pieces.steps)
    c.pieces.invariant.so_far (take c.in-Ok.count c.read_piece.new.piece) c.in-Ok.ensures.bytes)

pub returns-in-Err-run_piece-clause-bounded : goal.returns-in-Err-run_piece-clause-bounded
returns-in-Err-run_piece-clause-bounded g c = rw c.outcome-in-Err-run_piece.ensures (λ had.
    reads_stopped (outside (g.S.Source.left c.args.source.now) (g.K.Sink.written c.args.sink.now)) c.args.steps.now c.pieces.taken (g.S.Source.left c.pieces.source) (g.S.Source.left c.read_piece.new.source)
    (standing c.pieces.reader.held c.pieces.tally (g.K.Sink.written c.pieces.sink) c.pieces.session.state c.pieces.steps) c.pieces.invariant.so_far
    c.in-Err-run_piece.status (take c.in-Ok.count c.read_piece.new.piece)
    (standing c.run_piece.new.reader.held c.run_piece.new.tally (g.K.Sink.written c.run_piece.new.sink) c.run_piece.new.session.state c.run_piece.new.steps)
    c.in-Ok.ensures.bytes c.in-Err-run_piece.ensures.stopped had)
