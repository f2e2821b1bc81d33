use Rattle.std.proofs.Common.{ℕ, List, ◌++◌, length, take, sym, ap, subst, ◌∙◌, arith, length-drop}
use Rattle.std.specs.Io.KnownBytes.{Appends}
use Rattle.std.proofs.lemmas.List.{take_rest}
use Rattle.std.proofs.Math.Seq.{take-add}
use Rattle.lore_base.proofs.PutLaws.{Appends-then}
use Rattle.reply_texts.proofs.reply_writer.write_all.Goals as goal

pub writes-preserved : goal.writes-preserved
writes-preserved g c =
    let bytes = c.args.bytes.now in
    let done = c.writes.done in
    let count = c.in-Ok.count in
    let written = g.K.Sink.written in
    let part = ap (λ (l : List ℕ). take done bytes ++ take count l) (take_rest bytes done) ∙ sym (take-add done count bytes) in
    let both = Appends-then (written c.args.sink.now) (written c.writes.sink) (written c.write.new.self) _ _ c.writes.invariant.written c.in-Ok.ensures.bytes in
    record {
      within = omega (arith, c.in-Ok.ensures.bound.0, length-drop done bytes, ap length (take_rest bytes done));
      written = subst (λ (l : List ℕ). Appends (written c.args.sink.now) (written c.write.new.self) l) part both;
      faultless = c.in-Ok.ensures.cause.ok ∙ c.writes.invariant.faultless;
    }
