use Rattle.std.proofs.Common.{◌≡◌, ℕ, ◌+◌, ◌<◌, List, [], ◌++◌, length, take, drop, sym, ap, ◌∙◌, arith, length-drop}
use Rattle.std.proofs.lemmas.List.{append-nil, take-append-drop, take_rest}
use Rattle.std.proofs.Math.Seq.{take-add}
use Rattle.lore_base.proofs.PutLaws.{Breaks-late, Breaks-same, Puts-broken, Takes-same, Takes-then}
use Rattle.reply_texts.proofs.DeliveryLaws.{Breaks-handed, Takes-handed, Takes-held}
use Rattle.reply_texts.proofs.reply_writer.ReplyWriterOut.put.Goals as goal

pub returns-in_err-make_room : goal.returns-in_err-make_room
returns-in_err-make_room g c =
    let piece = c.args.piece.now in
    let done = c.parts.done in
    let some : 0 < length (drop done piece) = omega (arith, length-drop done piece) in
    let ensures = c.in_err-make_room.ensures in
    Puts-broken _ c.from_residual.result c.from_residual.ensures.1
    (Breaks-same (take-append-drop done piece)
    (Breaks-late c.parts.invariant.taken (Breaks-handed _ _ (drop done piece) ensures.handed some ensures.cause.later ensures.cause.failed)))

pub parts-preserved : goal.parts-preserved
parts-preserved g c =
    let piece = c.args.piece.now in
    let done = c.parts.done in
    let count = c.fill-done.result in
    let more = take count (drop done piece) in
    let before = c.make_room.new.self.buffer in
    let held : c.fill-done.new.self ≡ before ++ more =
    c.fill-done.ensures.held ∙ ap (λ (l : List ℕ). before ++ take count l) (take_rest piece done) in
    let parts : (take done piece ++ []) ++ more ≡ take (done + count) piece =
    ap (λ (l : List ℕ). l ++ more) (append-nil (take done piece)) ∙ sym (take-add done count piece) in
    let taken = Takes-then c.parts.invariant.taken (Takes-handed c.in_ok-make_room.ensures.handed c.in_ok-make_room.ensures.cause.ok) in
    record {
      within = omega (arith, c.fill-done.ensures.within, length-drop done piece, ap length (take_rest piece done));
      taken = rw held (Takes-same parts (Takes-then taken (Takes-held _ before more _ _)));
    }
