use Rattle.guide_query.proofs.TellsLaws.{guide-tells}
use Rattle.guide_query.proofs.guide_paths.GuidePaths.new.Goals as goal

pub returns-clause-tells : goal.returns-clause-tells
returns-clause-tells c = λ edges stands. guide-tells c.args.names.now edges c.args.guide.now c.args.labels.now stands
