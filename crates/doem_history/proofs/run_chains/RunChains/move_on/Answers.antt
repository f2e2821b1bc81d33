use Rattle.std.proofs.Common.{ap, length, List, arith}
use Rattle.doem_history.specs.Types.{Run}
use Rattle.doem_history.proofs.MovedLaws.{length-ended}
use Rattle.doem_history.proofs.run_chains.RunChains.move_on.Goals as goal

pub begin_all-requires-clause-few : goal.begin_all-requires-clause-few
begin_all-requires-clause-few g c =
    let long = length-ended c.args.moment c.args.places.now c.args.self.now.runs in
    let same = ap (λ (l : List (Run _)). length l) c.end_all.ensures.runs in
    omega arith
