use Rattle.std.proofs.Common.{sym}
use Rattle.edge_lists.proofs.ObjectLaws.{below-last}
use Rattle.edge_lists.proofs.objects.are_below.Goals as goal

pub returns-in-Some : goal.returns-in-Some
returns-in-Some c = below-last c.args.objects.now c.args.oid c.in-Some.last.now c.requires (sym c.in-Some.ensures.value)
