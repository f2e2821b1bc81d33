use Rattle.lore_lists.proofs.SetLaws.{ascend-dedup, members-dedup}
use Rattle.lore_lists.proofs.lists.Listing.sort_set.Goals as goal

pub returns-clause-ascend : goal.returns-clause-ascend
returns-clause-ascend g c =
    ascend-dedup _ _ g.met.T.Ord.total g.met.T.Ord.matches_eq _ _ c.sort_unstable.ensures.sorted c.dedup.ensures.filtered

pub returns-clause-members : goal.returns-clause-members
returns-clause-members g c same item =
    rw (← c.self.view_is)
    (members-dedup _ _ g.met.T.Ord.total g.met.T.Ord.matches_eq same _ _ _ c.sort_unstable.ensures.permutation c.dedup.ensures.filtered item)
