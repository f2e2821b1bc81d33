use Rattle.std.proofs.Common.{sym}
use Rattle.set_steps.proofs.BucketLaws.{last-there}
use Rattle.set_steps.proofs.children.is_last.Goals as goal

pub returns-in-Some : goal.returns-in-Some
returns-in-Some c = last-there c.args.oids.now _ c.in-Some.last.now c.args.oid (sym c.in-Some.ensures.value)
