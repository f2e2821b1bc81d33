use Rattle.std.proofs.Common.{take}
use Rattle.std.specs.Prelude.{MatchOption}
use Rattle.set_walk.specs.inside.SetWalks.{NoneEnds, IsOnlyEnd}
use Rattle.set_walk.proofs.ends.only_end.Given as goal

abbrev pub invariant-places : goal.invariant-places
invariant-places g l = let met = take l.place-index l.met in MatchOption l.only (NoneEnds met) (IsOnlyEnd met)
