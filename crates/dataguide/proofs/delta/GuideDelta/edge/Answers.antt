use Rattle.std.proofs.Common.{◌≡◌, ◌<◌, List, length, Some, All, sym, ap, ◌∙◌, subst, arith}
use Rattle.std.specs.List.{slice_get}
use Rattle.std.specs.Prelude.{slice_set}
use Rattle.std.proofs.lemmas.List.{length-set}
use Rattle.std.proofs.lemmas.Option.{slice_get-get_or}
use Rattle.dataguide.specs.Types.{Label, Node, DeltaNode}
use Rattle.set_explorer.specs.Nodes.{AscendByLabel}
use Rattle.dataguide.specs.Deltas.{PlannedGuide, with_edge}
use Rattle.dataguide.proofs.DeltaLaws.{edge-ascends}
use Rattle.dataguide.proofs.delta.GuideDelta.edge.Goals as goal

pub invariant_of-self-2 : goal.invariant_of-self-2
invariant_of-self-2 c =
    let items = c.self.inside.nodes.items in
    let own = c.index_mut.result.now in
    let seen = ap (λ (g : PlannedGuide). g.nodes) c.self.view_is in
    let within : c.args.from < length items = omega (arith, c.requires.from, ap length seen) in
    let at : slice_get items c.args.from ≡ Some own =
    slice_get-get_or items c.args.from own within ∙ ap Some (sym c.index_mut.ensures.value) in
    let grown = ap (λ (l : List (Label × Node)). record { origin = own.origin; edges = l }) c.in_ok-push.ensures.ok in
    record {
      ascend = subst (λ (p : DeltaNode). All (λ (n : DeltaNode). AscendByLabel n.edges)
          (slice_set items c.args.from p)) (sym grown)
          (edge-ascends items c.args.from own c.args.label c.args.to at
          (c.requires.above own (subst (λ (l : List DeltaNode). slice_get l c.args.from ≡ Some own) seen at))
          c.self.invariant.ascend);
      few = rw length-set c.self.invariant.few;
      empty = c.self.invariant.empty;
      bare = c.self.invariant.bare;
      fits = rw length-set c.self.invariant.fits;
      hashes_fit = rw length-set c.self.invariant.hashes_fit;
    }

pub returns-clause-ok : goal.returns-clause-ok
returns-clause-ok c = λ node there.
    let items = c.self.inside.nodes.items in
    let own = c.index_mut.result.now in
    let seen = ap (λ (g : PlannedGuide). g.nodes) c.self.view_is in
    let within : c.args.from < length items = omega (arith, c.requires.from, ap length seen) in
    let at : slice_get items c.args.from ≡ Some own =
    slice_get-get_or items c.args.from own within ∙ ap Some (sym c.index_mut.ensures.value) in
    let grown = ap (λ (l : List (Label × Node)). record { origin = own.origin; edges = l }) c.in_ok-push.ensures.ok in
    let both : Some own ≡ Some node = sym at ∙ ap (λ (l : List DeltaNode). slice_get l c.args.from) seen ∙ there in
    let same : own ≡ node = cc in
    ap (λ (p : DeltaNode). record { nodes = slice_set items c.args.from p; entries = c.self.inside.entries })
    (grown ∙ ap (λ (n : DeltaNode). with_edge n c.args.label c.args.to) same)
    ∙ ap (λ (g : PlannedGuide). record {
      nodes = slice_set g.nodes c.args.from (with_edge node c.args.label c.args.to);
      entries = g.entries;
    }) c.self.view_is
