use Rattle.std.proofs.Common.{[], refl}
use Rattle.lore_run.specs.Types.{Unfinished, Refused}
use Rattle.lore_run.specs.Runs.{rest}
use Rattle.lore_run.specs.inside.Turns.{standing}
use Rattle.lore_run.proofs.RespondLaws.{replied_whole, replied_early}
use Rattle.lore_run.proofs.parts.run_rest.Goals as goal

pub returns-clause-ok : goal.returns-clause-ok
returns-clause-ok g c =
    let written = g.K.Sink.written in
    replied_whole c.respond.result (standing [] c.args.tally.now (written c.args.sink.now) c.args.session.now.state 0)
    (standing [] c.respond.new.tally (written c.respond.new.sink) c.args.session.now.state 0) rest (Refused Unfinished) (refl, refl) (refl, refl, refl)
    c.respond.ensures.done c.respond.ensures.refused c.respond.ensures.ok

pub returns-clause-err : goal.returns-clause-err
returns-clause-err g c =
    let written = g.K.Sink.written in
    replied_early c.respond.result (standing [] c.args.tally.now (written c.args.sink.now) c.args.session.now.state 0)
    (standing [] c.respond.new.tally (written c.respond.new.sink) c.args.session.now.state 0) rest (Refused Unfinished) (refl, refl) (refl, refl, refl)
    c.respond.ensures.done c.respond.ensures.refused c.respond.ensures.err
