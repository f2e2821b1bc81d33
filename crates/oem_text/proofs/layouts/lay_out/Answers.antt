use Rattle.std.proofs.Common.{List, All, Contains, ap, sym, subst, ◌∙◌, arith}
use Rattle.std.specs.Vec.{with_items}
use Rattle.std.proofs.lemmas.List.{with_items_is}
use Rattle.lorel_trees.specs.Trees.{literal_tree}
use Rattle.oem_text.specs.Literals.{Body, Arc}
use Rattle.oem_text.specs.Layouts.{IsJoined}
use Rattle.oem_text.specs.inside.Views.{bodies_of, link_arcs}
use Rattle.oem_text.specs.inside.Places.{place_in, ArePlaces, IsFound}
use Rattle.oem_text.proofs.CauseLaws.{told_undefined, clear_locals}
use Rattle.oem_text.proofs.LaidLaws.{laid_same, laid_joined}
use Rattle.oem_text.proofs.layouts.lay_out.Goals as goal

pub returns-in-Some-place_links : goal.returns-in-Some-place_links
returns-in-Some-place_links c =
    let tree = literal_tree c.args.literal.now in
    let same = ap bodies_of c.as_slice.ensures.value ∙ c.in_ok-literals.ensures.bodies in
    let arcs = ap link_arcs c.as_mut_slice.ensures.value ∙ c.in_ok-literals.ensures.arcs in
    let are = subst (λ (xs : List Body). ArePlaces xs (place_in c.in-Some-2.places)) same (rw c.in-Some-2.is at c.in_ok-places.ensures.some) in
    let lost = c.in-Some-place_links.ensures.lost in
    record {
      layout = tt;
      ok = tt;
      err = told_undefined tree (place_in c.in-Some-2.places) c.in-Some-place_links.field-0 lost.0 are (subst (λ (l : List Arc). Contains l lost.0) arcs lost.1) lost.2;
    }

pub invariant_of-result : goal.invariant_of-result
invariant_of-result c =
    let tree = literal_tree c.args.literal.now in
    let same = ap bodies_of c.as_slice.ensures.value ∙ c.in_ok-literals.ensures.bodies in
    let arcs = ap link_arcs c.as_mut_slice.ensures.value ∙ c.in_ok-literals.ensures.arcs in
    let are = subst (λ (xs : List Body). ArePlaces xs (place_in c.in-Some-2.places)) same (rw c.in-Some-2.is at c.in_ok-places.ensures.some) in
    let vec = c.in_ok-literals.field-0.links in
    let placed = c.place_links.new.links in
    let whole = with_items_is vec placed (omega arith) in
    let found = subst (λ (l : List Arc). All (IsFound (place_in c.in-Some-2.places)) l) arcs c.in-None.ensures.found in
    subst IsJoined (sym (laid_same tree (place_in c.in-Some-2.places) c.in_ok-literals.field-0.literals.items c.as_mut_slice.result.now placed (with_items vec placed).items
    c.in_ok-literals.ensures.bodies arcs are c.in-None.ensures.placed whole))
    (laid_joined tree (place_in c.in-Some-2.places) c.in_default.ensures.none are found)

pub returns : goal.returns
returns c =
    let tree = literal_tree c.args.literal.now in
    let same = ap bodies_of c.as_slice.ensures.value ∙ c.in_ok-literals.ensures.bodies in
    let arcs = ap link_arcs c.as_mut_slice.ensures.value ∙ c.in_ok-literals.ensures.arcs in
    let are = subst (λ (xs : List Body). ArePlaces xs (place_in c.in-Some-2.places)) same (rw c.in-Some-2.is at c.in_ok-places.ensures.some) in
    let vec = c.in_ok-literals.field-0.links in
    let placed = c.place_links.new.links in
    let whole = with_items_is vec placed (omega arith) in
    let found = subst (λ (l : List Arc). All (IsFound (place_in c.in-Some-2.places)) l) arcs c.in-None.ensures.found in
    record {
      layout = laid_same tree (place_in c.in-Some-2.places) c.in_ok-literals.field-0.literals.items c.as_mut_slice.result.now placed (with_items vec placed).items
          c.in_ok-literals.ensures.bodies arcs are c.in-None.ensures.placed whole;
      ok = clear_locals tree (place_in c.in-Some-2.places) c.in_default.ensures.none are found;
      err = tt;
    }
