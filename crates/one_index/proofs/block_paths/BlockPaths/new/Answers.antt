use Rattle.one_index.proofs.WalkLaws.{blocks_tell}
use Rattle.one_index.proofs.block_paths.BlockPaths.new.Goals as goal

pub returns-clause-tells : goal.returns-clause-tells
returns-clause-tells c graph sound are = blocks_tell graph c.args.blocks.now sound are c.args.labels.now
