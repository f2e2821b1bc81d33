use Rattle.block_rounds.proofs.BlockLaws.{IsBisimulation-union}
use Rattle.block_rounds.proofs.laws.unions_are_bisimulations.Goals as goal

pub returns : goal.returns
returns c rows kinds pairs more first second = IsBisimulation-union rows kinds pairs more first second
