use Rattle.std.proofs.Common.{List, subst, sym, true≢false, ◌∙◌}
use Rattle.std.proofs.lemmas.List.{take_all}
use Rattle.value_changes.specs.Types.{Edge}
use Rattle.value_changes.specs.inside.Sets.{AreAdded}
use Rattle.value_changes.specs.inside.Pairs.{pair_of, IsAtomic}
use Rattle.value_changes.proofs.AddedLaws.{added-none, added-more, added-less}
use Rattle.value_changes.proofs.pairs.add_pairs.Goals as goal
use Rattle.value_changes.proofs.pairs.add_pairs.Goals.{then-has_atom+in_ok-push, else-has_atom}

pub edges-init : goal.edges-init
edges-init g c = added-none pair_of (IsAtomic (g.V.ValueOf.objects c.args.values.now)) _

pub edges-preserved : goal.edges-preserved
edges-preserved g c =
    let Passes = IsAtomic (g.V.ValueOf.objects c.args.values.now) in
    elim c.if-has_atom.branch [
      | then-has_atom+in_ok-push w ↦ rw w.pairs-is
          (added-more pair_of Passes c.args.edges.now _ c.edges.pairs c.edges.edge-index _ c.edges-test.true c.edges.invariant
          _ w.in_ok-push.ensures.ok (c.has_atom.ensures.0 w.if-has_atom.true))
      | else-has_atom w ↦ rw w.pairs-is
          (added-less pair_of Passes c.args.edges.now _ c.edges.pairs c.edges.edge-index _ c.edges-test.true c.edges.invariant
          (λ has. true≢false (sym (c.has_atom.ensures.1 has) ∙ w.if-has_atom.false)))
    ]

pub returns : goal.returns
returns g c =
    subst (λ (edges : List Edge). AreAdded pair_of (IsAtomic (g.V.ValueOf.objects c.args.values.now)) edges
    c.args.pairs.now c.edges.pairs)
    (take_all c.edges.edge-index c.args.edges.now c.edges-test.false) c.edges.invariant
