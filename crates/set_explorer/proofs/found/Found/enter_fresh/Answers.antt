use Rattle.std.proofs.Common.{◌≡◌, ℕ, ◌+◌, List, [], ◌∷◌, ◌++◌, length, All, Contains, sym, ap, ◌∙◌, subst, refl, arith}
use Rattle.std.proofs.lemmas.List.{length-map}
use Rattle.std.proofs.lemmas.Result.{err_from_is_err_and}
use Rattle.set_explorer.specs.Types.{Node, GuideNode, Fresh, GuideFault, DeltaNode}
use Rattle.set_explorer.specs.declared.found.Found.{Found}
use Rattle.set_explorer.specs.Nodes.{node_number}
use Rattle.set_explorer.specs.PlannedNodes.{origin_set, node_then}
use Rattle.set_explorer.specs.inside.HashLists.{listed}
use Rattle.set_explorer.specs.inside.Founds.{found_nodes, found_sets, Stops, IsFreshAt}
use Rattle.set_explorer.proofs.FoundLaws.{absent-fresh, enters-there, enters-new, found-fresh, stops-room}
use Rattle.set_explorer.proofs.found.Found.enter_fresh.Goals as goal

pub returns-in-Some-clause-entered : goal.returns-in-Some-clause-entered
returns-in-Some-clause-entered c =
    let kept = c.args.kept.now in
    let found = c.args.self.now in
    let there = subst (λ (l : List DeltaNode). IsFreshAt l c.in-Some.place c.args.set) c.as_slice.ensures.value
    c.in-Some.ensures.found in
    enters-there kept found c.requires.found c.args.limit (Fresh c.args.set) c.in-Some.place there.0 c.requires.fit
    there.1
    (ap (origin_set kept) there.2)

pub returns-in_err-check_room-clause-stops : goal.returns-in_err-check_room-clause-stops
returns-in_err-check_room-clause-stops c =
    let kept = c.args.kept.now in
    let found = c.args.self.now in
    let set = c.args.set in
    let none = subst (λ (l : List DeltaNode). All (λ node. ¬ IsFreshAt l node set) c.get.result.now)
    c.as_slice.ensures.value
    c.in_default.ensures.none in
    let absent = absent-fresh kept found c.requires.found set
    (subst (λ (l : List Node). All (λ node. ¬ IsFreshAt found.nodes.items node set) l)
    (c.get.ensures ∙ ap (listed found.fresh) c.hash64-hash.ensures) none) c.requires.fresh in
    let p = err_from_is_err_and c.from_residual.result c.from_residual.ensures.1 in
    rw p.1 (subst (λ (f : GuideFault). Stops f c.args.limit (found_sets kept found) set)
    (sym p.2)
    (stops-room c.in_err-check_room.field-0.0 c.args.limit (found_sets kept found) set
    c.len.result found.cells c.len-size.result absent
    (omega (
      arith,
      c.len.ensures,
      found.nodes.ok.0,
      length-map (found_nodes kept found) (λ (n : GuideNode). n.set),
      length-map found.nodes.items (node_then kept),
    ))
    c.requires.found.counted c.len-size.ensures c.in_err-check_room.ensures.err))

pub returns-clause-entered : goal.returns-clause-entered
returns-clause-entered c =
    let kept = c.args.kept.now in
    let found = c.args.self.now in
    let set = c.args.set in
    let planned : DeltaNode = record { origin = Fresh set; edges = c.new-edges.result } in
    let new : Found = record {
      nodes = c.push-2.new.self;
      places = found.places;
      fresh = c.push.new.self;
      cells = found.cells + c.len-size.result;
    } in
    let none = subst (λ (l : List DeltaNode). All (λ node. ¬ IsFreshAt l node set) c.get.result.now)
    c.as_slice.ensures.value
    c.in_default.ensures.none in
    let absent = absent-fresh kept found c.requires.found set
    (subst (λ (l : List Node). All (λ node. ¬ IsFreshAt found.nodes.items node set) l)
    (c.get.ensures ∙ ap (listed found.fresh) c.hash64-hash.ensures) none) c.requires.fresh in
    let here : c.len-2.result ≡ length found.nodes.items = omega (arith, c.len-2.ensures, found.nodes.ok.0) in
    let put : c.push-2.new.self.items ≡ found.nodes.items ++ planned ∷ [] = c.in_ok-push-2.ensures.items in
    let added = subst (λ (h : ℕ). Contains (listed c.push.new.self h) (node_number (length found.nodes.items)))
    c.hash64-hash.ensures
    (subst (λ (k : ℕ). Contains (listed c.push.new.self c.hash64-hash.result) (node_number k)) here
    c.in_ok-push.ensures.added) in
    let is = found-fresh kept found new planned c.args.limit put set refl c.requires.fresh refl added
    c.push.ensures.kept
    (ap (λ (n : ℕ). found.cells + n) c.len-size.ensures) c.requires.found in
    enters-new kept found new planned c.args.limit put c.requires.found is
    (omega (arith, c.in_ok-check_room.ensures.ok.0, c.len.ensures, found.nodes.ok.0))
    (omega (arith, c.in_ok-check_room.ensures.ok.1, c.len-size.ensures)) absent (record { 0 = c.len-2.result }) here
