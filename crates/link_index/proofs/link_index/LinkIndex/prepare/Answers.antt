use Rattle.link_index.proofs.LinkLaws.{are_links}
use Rattle.link_index.proofs.link_index.LinkIndex.prepare.Goals as goal

pub returns-clause-gone : goal.returns-clause-gone
returns-clause-gone c = are_links _ _ c.in_ok-sorted_links.ensures

pub returns-clause-come : goal.returns-clause-come
returns-clause-come c = are_links _ _ c.in_ok-sorted_links-2.ensures
