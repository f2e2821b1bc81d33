use Rattle.dataguide.proofs.ChangeLaws.{nothing-stands}
use Rattle.dataguide.proofs.data_guide.Guide.new.Goals as goal

pub returns-clause-guide : goal.returns-clause-guide
returns-clause-guide c = λ edges. nothing-stands c.new.result.items c.new-2.result edges c.new.ensures.items
    c.new-2.ensures
