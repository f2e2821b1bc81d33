use Rattle.std.proofs.Common.{◌≡◌, ◌<◌, List, All, length, get_or, sym, subst, arith}
use Rattle.std.proofs.lemmas.List.{take_all}
use Rattle.oem_text.specs.declared.flat.Link.{Link}
use Rattle.oem_text.specs.Layouts.{placed_arc}
use Rattle.oem_text.specs.inside.Views.{arc_of, link_arcs, placed_of}
use Rattle.oem_text.specs.inside.Places.{place_in, IsLost, IsFound}
use Rattle.oem_text.proofs.LinkLaws.{placed_more, found_more, rest_more, arc_there}
use Rattle.oem_text.proofs.places.place_links.Goals as goal

pub returns-in-None-clause-lost : goal.returns-in-None-clause-lost
returns-in-None-clause-lost c =
    let i = c.links.link-index in
    let link = c.link-item.result in (
      arc_of link,
      arc_there c.links.links c.args.links.now i link (omega arith) c.link-item.is c.links.invariant.rest,
      subst (λ (l : Link). IsLost (place_in c.args.places.now) (get_or c.links.links i link).child (arc_of l)) (sym c.link-item.is) c.in-None.ensures.lost,
    )

pub links-preserved : goal.links-preserved
links-preserved c =
    let i = c.links.link-index in
    let link = c.link-item.result in
    let placed = c.in-Some.placed in
    let low : i < length c.links.links = omega arith in
    record {
      placed = λ bodies are. placed_more bodies c.links.links c.args.links.now i link placed low c.link-item.is c.links.invariant.rest
          (c.links.invariant.placed bodies are)
          (subst (λ (l : Link). placed_of placed ≡ placed_arc bodies (arc_of l)) (sym c.link-item.is) (c.in-Some.ensures.placed bodies are));
      found = found_more (place_in c.args.places.now) c.links.links c.args.links.now i link low c.link-item.is c.links.invariant.rest c.links.invariant.found
          (subst (λ (l : Link). IsFound (place_in c.args.places.now) (arc_of l)) (sym c.link-item.is) c.in-Some.ensures.found);
      rest = rest_more c.links.links c.args.links.now i placed c.links.invariant.rest;
    }

pub returns-clause-found : goal.returns-clause-found
returns-clause-found c =
    let all = c.args.links.now in
    subst (λ (l : List Link). All (IsFound (place_in c.args.places.now)) (link_arcs l)) (take_all c.links.link-index all (omega arith)) c.links.invariant.found
