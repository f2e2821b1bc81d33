use Rattle.std.proofs.Common.{◌∙◌, ap, map}
use Rattle.link_index.specs.inside.LinkEdges.{link_at}
use Rattle.link_index.proofs.LinkLaws.{sorted-links, same_link}
use Rattle.link_index.proofs.link_lists.sorted_links.Goals as goal

pub returns : goal.returns
returns c =
    let found = c.in_ok-links.ensures ∙ ap (map link_at) c.as_slice.ensures in
    let sorted = c.in_ok-sorted.ensures in
    rw c.into_items.ensures (sorted-links _ _ _ found sorted.ascend (sorted.members same_link))
