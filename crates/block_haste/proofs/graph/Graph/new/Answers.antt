use Rattle.std.proofs.Common.{◌<◌, ℕ, List, length, All, sym, subst}
use Rattle.block_rounds.specs.Gathered.{AreGathered}
use Rattle.block_haste.specs.inside.Listed.{AreOutPairs}
use Rattle.block_haste.proofs.ListedLaws.{pairs_low, AreListed-gathered}
use Rattle.block_haste.proofs.graph.Graph.new.Goals as goal

pub gathered-requires : goal.gathered-requires
gathered-requires c =
    let pairs = c.in_ok-pairs.pairs.items in
    let are = subst (λ (e : List (ℕ × ℕ × ℕ)). AreOutPairs e pairs) c.as_slice.ensures.value c.in_ok-pairs.ensures in
    subst (λ (l : List (ℕ × ℕ)). All (λ pair. pair.0 < length c.args.rows.now) l) (sym c.as_slice-2.ensures.value)
    (pairs_low c.args.rows.now c.in_ok-edges.edges.items c.requires c.in_ok-edges.ensures pairs are)

pub returns-clause-listed : goal.returns-clause-listed
returns-clause-listed c =
    let pairs = c.in_ok-pairs.pairs.items in
    let are = subst (λ (e : List (ℕ × ℕ × ℕ)). AreOutPairs e pairs) c.as_slice.ensures.value c.in_ok-pairs.ensures in
    AreListed-gathered c.args.rows.now c.in_ok-edges.edges.items c.requires c.in_ok-edges.ensures pairs c.in_ok-outs.outs.items are
    c.in_ok-outs.ensures.every
    (subst (λ (l : List (ℕ × ℕ)). AreGathered l c.in_ok-outs.outs.items) c.as_slice-2.ensures.value c.in_ok-outs.ensures.items)
