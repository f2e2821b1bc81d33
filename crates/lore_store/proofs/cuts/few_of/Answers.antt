use Rattle.lore_base.proofs.MemberLaws.{Contains-none}
use Rattle.lore_store.proofs.cuts.few_of.Goals as goal

pub returns-then-cut-gt-FEW_CUT : goal.returns-then-cut-gt-FEW_CUT
returns-then-cut-gt-FEW_CUT c = λ edge at. absurd (Contains-none edge at)
