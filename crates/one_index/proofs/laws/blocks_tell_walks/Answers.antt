use Rattle.one_index.proofs.WalkLaws.{tell_walks}
use Rattle.one_index.proofs.laws.blocks_tell_walks.Goals as goal

pub returns : goal.returns
returns c = tell_walks
