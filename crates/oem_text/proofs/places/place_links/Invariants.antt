use Rattle.std.proofs.Common.{◌≡◌, List, All, map, take, drop}
use Rattle.oem_text.specs.Literals.{Body}
use Rattle.oem_text.specs.Layouts.{placed_arc}
use Rattle.oem_text.specs.inside.Views.{link_arcs, placed_of}
use Rattle.oem_text.specs.inside.Places.{place_in, ArePlaces, IsFound}
use Rattle.oem_text.proofs.places.place_links.Given as goal

abbrev pub invariant-links : goal.invariant-links
invariant-links l = record {
  placed : (bodies : List Body) → ArePlaces bodies (place_in l.places)
      → map placed_of (take l.link-index l.links) ≡ map (placed_arc bodies) (link_arcs (take l.link-index l.fn.links));
  found : All (IsFound (place_in l.places)) (link_arcs (take l.link-index l.fn.links));
  rest : drop l.link-index l.links ≡ drop l.link-index l.fn.links;
}
