use Rattle.std.proofs.Common.{◌↔◌, List, Contains, subst, sym}
use Rattle.answers.specs.Types.{Cell}
use Rattle.answers.proofs.found_rows.FoundRows.has_too_much.Goals as goal
use Rattle.answers.proofs.found_rows.FoundRows.has_too_much.Goals.{then-len-self, else-len-self+else-self}

pub returns-clause-members : goal.returns-clause-members
returns-clause-members c row =
    elim c.if-len-self.branch [
      | then-len-self w ↦ subst (λ (rows : List (List Cell)). Contains rows row ↔ Contains c.args.self.now row) (sym w.self-is) (w.settle.ensures.members row)
      | else-len-self+else-self w ↦ subst (λ (rows : List (List Cell)). Contains rows row ↔ Contains c.args.self.now row) (sym w.self-is) (λ h. h, λ h. h)
    ]
