use Rattle.std.proofs.Common.{[]}
use Rattle.lore_run.specs.Runs.{chunk}
use Rattle.lore_run.specs.inside.Turns.{standing}
use Rattle.lore_run.proofs.ReplyLaws.{yields-some}
use Rattle.lore_run.proofs.RespondLaws.{replied_whole, replied_in_part}
use Rattle.lore_run.proofs.parts.run_chunk.Goals as goal

pub respond-responded-requires-clause-some : goal.respond-responded-requires-clause-some
respond-responded-requires-clause-some g c =
    yields-some c.args.session.now.state (chunk c.args.text.now) c.in-Ok.reply c.answer.new.session.state c.in-Ok.ensures.ok

pub returns-clause-ok : goal.returns-clause-ok
returns-clause-ok g c =
    let written = g.K.Sink.written in
    replied_whole c.respond-responded.result (standing [] c.args.tally.now (written c.args.sink.now) c.args.session.now.state c.args.steps.now)
    (standing [] c.respond-responded.new.tally (written c.respond-responded.new.sink) c.answer.new.session.state c.answer.new.steps) (chunk c.args.text.now) c.in-Ok.reply
    c.in-Ok.ensures.ok c.in-Ok.ensures.read c.respond-responded.ensures.done c.respond-responded.ensures.refused c.respond-responded.ensures.ok

pub returns-clause-stopped : goal.returns-clause-stopped
returns-clause-stopped g c =
    let written = g.K.Sink.written in
    replied_in_part c.respond-responded.result (standing [] c.args.tally.now (written c.args.sink.now) c.args.session.now.state c.args.steps.now)
    (standing [] c.respond-responded.new.tally (written c.respond-responded.new.sink) c.answer.new.session.state c.answer.new.steps) (chunk c.args.text.now) c.in-Ok.reply
    c.in-Ok.ensures.ok c.in-Ok.ensures.read c.respond-responded.ensures.done c.respond-responded.ensures.refused c.respond-responded.ensures.err c.respond-responded.ensures.only
