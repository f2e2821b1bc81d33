-- The run of the links to one child.
use Rattle.std.specs.Prelude.{◌≡◌, Bool, true, nat_eq, List, filter, Option, Some, None}
use Rattle.link_index.specs.Types.{Oid, Label, Edge}
use Rattle.link_index.specs.declared.link.Link.{Link}
use Rattle.link_index.specs.declared.records.LinkRecord.{LinkRecord}
use Rattle.link_index.specs.inside.LinkEdges.{edges_of}
use Rattle.link_index.specs.inside.Records.{child_of, Precedes, LiesAt}
use Rattle.near_links.specs.Links.{IsRun}

-- the link has the label, where one is given
abbrev pub has_label : Option Label → Link → Bool
has_label None link = true
has_label (Some given) link = nat_eq link.label.0 given.0

abbrev pub with_label : Option Label → List Link → List Link
with_label given links = filter (has_label given) links

-- the edges are those of the links to the child in their order, with the label where one is given
abbrev pub ListsRun : List LinkRecord → Oid → Option Label → List Edge → Type 0
ListsRun records child given edges = (run : List Link) × IsRun child_of Precedes (LiesAt records) child run
    × (edges ≡ edges_of (with_label given run))
