use Rattle.std.proofs.Common.{sym}
use Rattle.set_steps.proofs.BucketLaws.{set-pushed}
use Rattle.set_steps.proofs.children.end_below.Goals as goal

pub returns-in-Some : goal.returns-in-Some
returns-in-Some c = set-pushed c.args.oids.now c.in-Some.last.now c.args.oid (sym c.in-Some.ensures.value)
