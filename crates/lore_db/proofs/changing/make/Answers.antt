use Rattle.std.proofs.Common.{◌∙◌}
use Rattle.lore_store.specs.Stores.{database_then}
use Rattle.statements.specs.Stops.{told}
use Rattle.lore_db.specs.States.{present}
use Rattle.lore_db.specs.inside.Kept.{IsFullWith}
use Rattle.lore_db.proofs.MomentLaws.{full_or_none}
use Rattle.lore_db.proofs.changing.make.Goals as goal

pub returns-in-Err-clause-refused : goal.returns-in-Err-clause-refused
returns-in-Err-clause-refused c =
    let after = present (database_then c.args.store.now.db c.args.prepared) in
    full_or_none c.in-Err.fault (told c.by.result) (IsFullWith c.args.history.now after) (c.by.ensures ∙ c.refusal.ensures) c.in-Err.ensures.full
