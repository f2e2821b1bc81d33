use Rattle.answers.proofs.found_rows.FoundRows.settle.Goals as goal

pub returns-clause-members : goal.returns-clause-members
returns-clause-members c row = rw c.self.view_is (c.sort.ensures.members row)
