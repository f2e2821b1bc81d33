use Rattle.std.proofs.Common.{◌≤◌, ◌∷◌, length, take, refl, sym, ap, ◌∙◌, subst, arith, lit≤, length-append, length-drop}
use Rattle.std.proofs.lemmas.List.{take_rest, length-take}
use Rattle.lorel_lex.specs.Progress.{Progress}
use Rattle.lore_run.specs.inside.Turns.{IsUnended}
use Rattle.lore_run.proofs.RunLaws.{advances_none, few_done, refusals_le}
use Rattle.lore_run.proofs.PieceLaws.{advances_more, advances_whole, too_long, stops_no_memory, stops_too_long, stops_replying}
use Rattle.lore_run.proofs.pieces.run_piece.Goals as goal

pub chunks-init : goal.chunks-init
chunks-init g c = record {
  within = omega arith;
  whole = c.requires.unfailed.0;
  failed = c.requires.unfailed.1;
  held = c.requires.held;
  advanced = advances_none _;
  fewer = c.requires.fewer;
  faults = refl;
}

pub returns-in-More-clause-ok : goal.returns-in-More-clause-ok
returns-in-More-clause-ok g c =
    let more = rw c.in-More.is at c.feed-fed.ensures in
    advances_more _ c.chunks.reader c.feed-fed.new.self c.chunks.tally (g.K.Sink.written c.chunks.sink) c.chunks.session.state c.chunks.steps c.args.piece.now c.chunks.at _
    c.chunks.invariant.advanced more

pub returns-in-NoMemory-clause-stopped : goal.returns-in-NoMemory-clause-stopped
returns-in-NoMemory-clause-stopped g c =
    stops_no_memory _ c.chunks.reader c.feed-fed.new.self.held c.chunks.tally (g.K.Sink.written c.chunks.sink) c.chunks.session.state c.chunks.steps c.args.piece.now c.chunks.at
    c.chunks.invariant.advanced c.chunks.invariant.held

pub returns-in-TooLong-clause-stopped : goal.returns-in-TooLong-clause-stopped
returns-in-TooLong-clause-stopped g c =
    let stops = rw c.in-TooLong.is at c.feed-fed.ensures in
    stops_too_long _ c.chunks.reader c.feed-fed.new.self.held c.chunks.tally (g.K.Sink.written c.chunks.sink) c.chunks.session.state c.chunks.steps c.args.piece.now c.chunks.at
    c.chunks.invariant.advanced c.chunks.invariant.held (too_long c.chunks.reader _ c.chunks.invariant.failed stops.0)

pub run_chunk-requires-clause-room : goal.run_chunk-requires-clause-room
run_chunk-requires-clause-room g c =
    let few = few_done c.chunks.invariant.advanced in
    let less : length (take c.chunks.at c.args.piece.now) ≤ length c.args.piece.now = omega (arith, length-take c.chunks.at c.args.piece.now) in
    (omega (arith, few, less, c.requires.room), omega (arith, few, less, c.requires.room, c.chunks.invariant.fewer))

pub returns-in-Err-clause-stopped : goal.returns-in-Err-clause-stopped
returns-in-Err-clause-stopped g c =
    let ends = rw c.in-Whole.is at c.feed-fed.ensures in
    stops_replying c.in-Err.status _ c.chunks.reader c.feed-fed.new.self c.take.new.self.held c.in-Some.chunk c.chunks.tally c.run_chunk.new.tally
    (g.K.Sink.written c.chunks.sink) (g.K.Sink.written c.run_chunk.new.sink) c.chunks.session.state c.run_chunk.new.session.state c.chunks.steps c.run_chunk.new.steps c.args.piece.now c.chunks.at _
    c.chunks.invariant.advanced c.chunks.invariant.held ends c.in-Some.ensures.chunk (rw c.as_bytes.ensures at c.in-Err.ensures.stopped)

pub chunks-preserved-in-Ok : goal.chunks-preserved-in-Ok
chunks-preserved-in-Ok g c =
    let ends = rw c.in-Whole.is at c.feed-fed.ensures in
    let replied = rw c.as_bytes.ensures at c.in-Ok.ensures.ok in
    let piece = c.args.piece.now in
    let taken = c.in-Some.ensures.taken in
    record {
      within = omega (arith, ends.uses, ap length ends.parts, length-append ends.front (59 ∷ ends.back), ap length (take_rest piece c.chunks.at), length-drop c.chunks.at piece);
      whole = ap (λ (p : Progress). p.whole) taken;
      failed = ap (λ (p : Progress). p.failed) taken ∙ ap (λ (p : Progress). p.failed) ends.held;
      held = subst IsUnended (sym (ap (λ (p : Progress). p.held) taken)) (record { unended = tt; sized = lit≤ tt });
      advanced = advances_whole _ c.chunks.reader c.feed-fed.new.self c.take.new.self c.in-Some.chunk c.chunks.tally c.run_chunk.new.tally
          (g.K.Sink.written c.chunks.sink) (g.K.Sink.written c.run_chunk.new.sink) c.chunks.session.state c.run_chunk.new.session.state c.chunks.steps c.run_chunk.new.steps piece c.chunks.at _
          c.chunks.invariant.advanced ends c.in-Some.ensures.chunk taken replied;
      fewer = omega (arith, replied.done, replied.refused, c.chunks.invariant.fewer, refusals_le replied.reply);
      faults = c.in-Ok.ensures.faultless ∙ c.chunks.invariant.faults;
    }

pub chunks-preserved : goal.chunks-preserved
chunks-preserved g c =
    let ends = rw c.in-Whole.is at c.feed-fed.ensures in
    let replied = rw c.as_bytes.ensures at c.in-Ok.ensures.ok in
    let piece = c.args.piece.now in
    let taken = c.in-Some.ensures.taken in
    record {
      within = omega (arith, ends.uses, ap length ends.parts, length-append ends.front (59 ∷ ends.back), ap length (take_rest piece c.chunks.at), length-drop c.chunks.at piece);
      whole = ap (λ (p : Progress). p.whole) taken;
      failed = ap (λ (p : Progress). p.failed) taken ∙ ap (λ (p : Progress). p.failed) ends.held;
      held = subst IsUnended (sym (ap (λ (p : Progress). p.held) taken)) (record { unended = tt; sized = lit≤ tt });
      advanced = advances_whole _ c.chunks.reader c.feed-fed.new.self c.take.new.self c.in-Some.chunk c.chunks.tally c.run_chunk.new.tally
          (g.K.Sink.written c.chunks.sink) (g.K.Sink.written c.run_chunk.new.sink) c.chunks.session.state c.run_chunk.new.session.state c.chunks.steps c.run_chunk.new.steps piece c.chunks.at _
          c.chunks.invariant.advanced ends c.in-Some.ensures.chunk taken replied;
      fewer = omega (arith, replied.done, replied.refused, c.chunks.invariant.fewer, refusals_le replied.reply);
      faults = c.in-Ok.ensures.faultless ∙ c.chunks.invariant.faults;
    }
