use Rattle.std.proofs.Common.{take, All}
use Rattle.index_eval.specs.inside.Listing.{PassesOn}
use Rattle.index_eval.proofs.split.all_hold.Given as goal

abbrev pub invariant-tests : goal.invariant-tests
invariant-tests g l = All (PassesOn l.row) (take l.test-index l.tests)
