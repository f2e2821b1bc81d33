use Rattle.std.proofs.Common.{◌<◌, length}
use Rattle.reply_texts.proofs.DeliveryLaws.{front-broken, front-held, OnErr-from, OnErr-map}
use Rattle.reply_texts.proofs.delivering.deliver.Goals as goal

pub returns-in_err-put_to-clause-err : goal.returns-in_err-put_to-clause-err
returns-in_err-put_to-clause-err g c =
    let bytes = g.T.ReplyText.text c.args.reply.now in
    OnErr-from c.from_residual.result (front-broken _ _ _ _ _ _ _ _ bytes c.requires.empty c.requires.some _ _ c.in_err-put_to.ensures)

pub returns-clause-err : goal.returns-clause-err
returns-clause-err g c =
    let bytes = g.T.ReplyText.text c.args.reply.now in
    OnErr-map (0 < length c.flush.new.self.buffer) _ c.flush.result
    (λ left. front-held _ _ _ _ _ _ _ _ bytes c.requires.empty c.requires.some _ _ _ _ c.in_ok-put_to.ensures c.flush.ensures.handed left) c.flush.ensures.some
