use Rattle.std.proofs.Common.{List, IfOk, IfSome, Contains, option_map, All, sym, subst}
use Rattle.lore_base.specs.Paths.{path_tree}
use Rattle.index_traits.specs.PartRows.{AreAllThatFit}
use Rattle.lorel_bound.specs.Bound.{bound_cond}
use Rattle.lorel_bound.specs.SlotRows.{HoldsOver}
use Rattle.lorel_eval.specs.Tests.{CondOver}
use Rattle.member_clues.specs.declared.clues.Clue.{Clue}
use Rattle.index_eval.specs.inside.Ends.{IsProbedEnd, AreTold}
use Rattle.index_eval.proofs.TestLaws.{is_probed_end, probed_ends, fits_found, fits_told}
use Rattle.index_eval.proofs.indexed_test.IndexedTest.fitting_by_clues.Goals as goal

pub objects_by-requires : goal.objects_by-requires
objects_by-requires g c =
    let member = subst (λ (l : List Clue). Contains l c.in-Some.clue.now) c.as_slice-clues.ensures.value c.in-Some.ensures.member in
    let own = (c.self.invariant.0.clues_are c.in-Some.clue.now member).own in
    is_probed_end c.self.inside.test.labels (path_tree c.in-Some.clue.now.way) c.in-Some.clue.now.end own.clue_is.end_is

pub returns-in-Some : goal.returns-in-Some
returns-in-Some g c =
    let inside = c.self.inside in
    let member = subst (λ (l : List Clue). Contains l c.in-Some.clue.now) c.as_slice-clues.ensures.value c.in-Some.ensures.member in
    subst (λ (test : CondOver). IfOk c.objects_by.result (λ found. IfSome found
    (AreAllThatFit (λ slots. HoldsOver test.labels test.edges test.objects slots (option_map bound_cond test.cond)) c.args.known.now c.args.slot c.args.row.now))) c.self.view_is
    (fits_found inside.test inside.labels.now (g.G.Adjacent.edges inside.graph.now) (g.G.ValueOf.objects inside.graph.now) (g.K.Links.edges inside.links.now)
    (g.V.Values.entries inside.values.now) inside.clues.items c.in-Some.clue.now c.args.known.now c.args.slot c.args.row.now c.objects_by.result
    c.note_distinct.ensures c.self.invariant.0 member c.in-Some.ensures.slot c.in-Some.ensures.given c.objects_by.ensures)

pub objects_in_turn-requires : goal.objects_in_turn-requires
objects_in_turn-requires g c =
    let inside = c.self.inside in
    subst (All (λ clue. IsProbedEnd clue.end)) (sym c.as_slice-clues.ensures.value)
    (probed_ends inside.test inside.labels.now (g.G.Adjacent.edges inside.graph.now) (g.G.ValueOf.objects inside.graph.now) (g.K.Links.edges inside.links.now)
    (g.V.Values.entries inside.values.now) inside.clues.items c.self.invariant.0)

pub returns-in-None : goal.returns-in-None
returns-in-None g c =
    let inside = c.self.inside in
    let edges = g.G.Adjacent.edges inside.graph.now in
    let objects = g.G.ValueOf.objects inside.graph.now in
    let links = g.K.Links.edges inside.links.now in
    let entries = g.V.Values.entries inside.values.now in
    subst (λ (test : CondOver). IfOk c.objects_in_turn.result (λ found. IfSome found
    (AreAllThatFit (λ slots. HoldsOver test.labels test.edges test.objects slots (option_map bound_cond test.cond)) c.args.known.now c.args.slot c.args.row.now))) c.self.view_is
    (fits_told inside.test inside.labels.now edges objects links entries inside.clues.items c.args.known.now c.args.slot c.args.row.now c.objects_in_turn.result
    c.note_distinct.ensures c.self.invariant.0
    (subst (λ (l : List Clue). IfOk c.objects_in_turn.result (λ found. IfSome found
    (AreTold inside.labels.now edges objects links entries l c.args.known.now c.args.slot c.args.row.now))) c.as_slice-clues.ensures.value c.objects_in_turn.ensures))
