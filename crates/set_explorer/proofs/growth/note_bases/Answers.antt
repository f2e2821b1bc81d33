use Rattle.std.proofs.Common.{List, sym, subst}
use Rattle.list_laws.proofs.PlaceLaws.{place_of_member}
use Rattle.set_explorer.specs.Types.{Label, Node}
use Rattle.set_explorer.specs.Nodes.{node_number, AscendByLabel}
use Rattle.set_explorer.proofs.CleanLaws.{kept-ascend}
use Rattle.set_explorer.proofs.growth.note_bases.Goals as goal

pub next_by-requires : goal.next_by-requires
next_by-requires g c =
    let kept = c.args.change.now.guide.nodes.now in
    let stood = c.requires in
    let there = c.in-Some.there.now in
    let at = place_of_member kept there c.in-Some.ensures in
    subst (λ (l : List (Label × Node)). AscendByLabel l) (sym c.as_slice.ensures)
    (kept-ascend kept stood.names stood.before stood.stands (node_number at.0) there at.1)
