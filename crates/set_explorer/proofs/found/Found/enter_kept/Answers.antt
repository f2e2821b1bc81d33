use Rattle.std.proofs.Common.{◌≡◌, ℕ, ◌+◌, ◌<◌, List, [], ◌∷◌, ◌++◌, Some, None, length, sym, ap, ◌∙◌, subst}
use Rattle.std.proofs.Common.{refl, arith}
use Rattle.std.specs.List.{slice_get}
use Rattle.std.specs.Prelude.{slice_set}
use Rattle.std.specs.Vec.{with_item}
use Rattle.set_explorer.specs.declared.found.Found.{Found}
use Rattle.std.proofs.lemmas.List.{length-map}
use Rattle.std.proofs.lemmas.Option.{slice_get-get_or}
use Rattle.std.proofs.lemmas.Result.{err_from_is_err_and}
use Rattle.set_explorer.specs.Types.{GuideNode, Kept, GuideFault, DeltaNode}
use Rattle.set_explorer.specs.Nodes.{node_number}
use Rattle.set_explorer.specs.PlannedNodes.{origin_set, node_then}
use Rattle.set_explorer.specs.inside.Founds.{found_nodes, found_sets, Stops}
use Rattle.set_explorer.proofs.FoundLaws.{absent-kept, enters-there, enters-new, found-kept, stops-room}
use Rattle.set_explorer.proofs.ReadLaws.{kept-is}
use Rattle.set_explorer.proofs.found.Found.enter_kept.Goals as goal

pub returns-in-Some-clause-entered : goal.returns-in-Some-clause-entered
returns-in-Some-clause-entered c =
    let kept = c.args.kept.now in
    let found = c.args.self.now in
    let count : c.args.node.0 < length found.places.items = omega (arith, c.requires.there, c.requires.found.many) in
    let at : slice_get found.places.items c.args.node.0 ≡ Some (Some c.in-Some.place) =
    slice_get-get_or found.places.items c.args.node.0 c.index.result.now count
    ∙ ap Some (sym c.index.ensures ∙ c.in-Some.is) in
    let there = c.requires.found.there c.args.node.0 c.in-Some.place at in
    enters-there kept found c.requires.found c.args.limit (Kept c.args.node) c.in-Some.place there.0 c.requires.fit
    there.1
    (ap (origin_set kept) there.2)

pub returns-in_err-check_room-clause-stops : goal.returns-in_err-check_room-clause-stops
returns-in_err-check_room-clause-stops c =
    let kept = c.args.kept.now in
    let found = c.args.self.now in
    let count : c.args.node.0 < length found.places.items = omega (arith, c.requires.there, c.requires.found.many) in
    let none : slice_get found.places.items c.args.node.0 ≡ Some None =
    slice_get-get_or found.places.items c.args.node.0 c.index.result.now count
    ∙ ap Some (sym c.index.ensures ∙ c.in_default.is) in
    let absent = absent-kept kept found c.requires.found c.args.node c.requires.there none in
    let same = kept-is kept c.args.node c.node_of.result.now c.requires.there c.node_of.ensures in
    let sizes : c.len-size.result ≡ length (origin_set kept (Kept c.args.node)) =
    c.len-size.ensures ∙ ap length (sym same) in
    let p = err_from_is_err_and c.from_residual.result c.from_residual.ensures.1 in
    rw p.1 (subst (λ (f : GuideFault). Stops f c.args.limit (found_sets kept found)
    (origin_set kept (Kept c.args.node)))
    (sym p.2)
    (stops-room c.in_err-check_room.field-0.0 c.args.limit (found_sets kept found) (origin_set kept (Kept c.args.node))
    c.len.result found.cells c.len-size.result absent
    (omega (
      arith,
      c.len.ensures,
      found.nodes.ok.0,
      length-map (found_nodes kept found) (λ (n : GuideNode). n.set),
      length-map found.nodes.items (node_then kept),
    ))
    c.requires.found.counted sizes c.in_err-check_room.ensures.err))

pub returns-clause-entered : goal.returns-clause-entered
returns-clause-entered c =
    let kept = c.args.kept.now in
    let found = c.args.self.now in
    let planned : DeltaNode = record { origin = Kept c.args.node; edges = c.new-edges.result } in
    let new : Found = record {
      nodes = c.push.new.self;
      places = with_item found.places c.args.node.0 (Some (record { 0 = c.len-2.result }));
      fresh = found.fresh;
      cells = found.cells + c.len-size.result;
    } in
    let count : c.args.node.0 < length found.places.items = omega (arith, c.requires.there, c.requires.found.many) in
    let none : slice_get found.places.items c.args.node.0 ≡ Some None =
    slice_get-get_or found.places.items c.args.node.0 c.index.result.now count
    ∙ ap Some (sym c.index.ensures ∙ c.in_default.is) in
    let absent = absent-kept kept found c.requires.found c.args.node c.requires.there none in
    let same = kept-is kept c.args.node c.node_of.result.now c.requires.there c.node_of.ensures in
    let sizes : c.len-size.result ≡ length (origin_set kept (Kept c.args.node)) =
    c.len-size.ensures ∙ ap length (sym same) in
    let here : c.len-2.result ≡ length found.nodes.items = omega (arith, c.len-2.ensures, found.nodes.ok.0) in
    let put : c.push.new.self.items ≡ found.nodes.items ++ planned ∷ [] = c.in_ok-push.ensures.items in
    let is = found-kept kept found new planned c.args.limit put c.args.node refl c.requires.there none
    (ap (λ (n : ℕ). slice_set found.places.items c.args.node.0 (Some (node_number n))) here) refl
    (ap (λ (n : ℕ). found.cells + n) sizes) c.requires.found in
    enters-new kept found new planned c.args.limit put c.requires.found is
    (omega (arith, c.in_ok-check_room.ensures.ok.0, c.len.ensures, found.nodes.ok.0))
    (omega (arith, c.in_ok-check_room.ensures.ok.1, sizes)) absent (record { 0 = c.len-2.result }) here
