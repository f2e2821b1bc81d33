use Rattle.std.proofs.Common.{arith, ◌∙◌}
use Rattle.std.proofs.lemmas.Slice.{between_to_end}
use Rattle.lore_base.proofs.PutLaws.{Puts-same}
use Rattle.reply_texts.proofs.texts.put_oid.Goals as goal

pub returns : goal.returns
returns g c =
    let w = c.write_oid-start in
    Puts-same g.O.Out.is_memory _ _ _ _ c.put.result (between_to_end w.new.bytes w.result 12 (omega arith) ∙ w.ensures.written) c.put.ensures
