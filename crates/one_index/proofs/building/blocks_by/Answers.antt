use Rattle.std.proofs.Common.{◌<◌, ℕ, List, All, sym, subst}
use Rattle.block_rounds.specs.Gathered.{AreGathered}
use Rattle.one_index.specs.Types.{Oid, Label}
use Rattle.one_index.proofs.FillLaws.{pairs_low, links_low, members-told, edges-told, ordered-told, AreFilled-shown}
use Rattle.one_index.proofs.building.blocks_by.Goals as goal

pub gathered-requires : goal.gathered-requires
gathered-requires g c =
    subst (λ (l : List (ℕ × Oid)). All (λ pair. pair.0 < c.args.count) l) (sym c.as_slice.ensures.value)
    (pairs_low c.args.objects.now c.args.numbers.now c.args.count c.requires.numbered c.requires.every c.in_ok-pairs.pairs.items
    c.in_ok-pairs.ensures)

pub gathered-requires-2 : goal.gathered-requires-2
gathered-requires-2 g c =
    subst (λ (l : List (ℕ × (Label × ℕ))). All (λ pair. pair.0 < c.args.count) l) (sym c.as_slice-2.ensures.value)
    (links_low c.args.objects.now c.args.numbers.now c.args.count c.requires.numbered c.requires.every
    (g.A.Adjacent.edges c.args.graph.now) c.in_ok-links.links.items c.in_ok-links.ensures.links)

pub returns-clause-members : goal.returns-clause-members
returns-clause-members g c =
    let filled = AreFilled-shown c.as_slice-3.result.now c.in_ok-members.members.items c.as_slice-4.result.now c.in_ok-edges.edges.items
    c.in_ok-blocks.blocks.items c.args.count c.as_slice-3.ensures.value c.as_slice-4.ensures.value c.in_ok-members.ensures.every
    c.in_ok-blocks.ensures in
    members-told c.args.objects.now c.args.numbers.now c.args.count c.in_ok-members.members.items c.in_ok-edges.edges.items
    c.in_ok-blocks.blocks.items c.requires.numbered c.requires.every filled c.in_ok-pairs.pairs.items
    (subst (λ (l : List (ℕ × Oid)). AreGathered l c.in_ok-members.members.items) c.as_slice.ensures.value c.in_ok-members.ensures.items)
    c.in_ok-pairs.ensures

pub returns-clause-edges : goal.returns-clause-edges
returns-clause-edges g c =
    let filled = AreFilled-shown c.as_slice-3.result.now c.in_ok-members.members.items c.as_slice-4.result.now c.in_ok-edges.edges.items
    c.in_ok-blocks.blocks.items c.args.count c.as_slice-3.ensures.value c.as_slice-4.ensures.value c.in_ok-members.ensures.every
    c.in_ok-blocks.ensures in
    edges-told c.args.objects.now c.args.numbers.now c.args.count c.in_ok-members.members.items c.in_ok-edges.edges.items
    c.in_ok-blocks.blocks.items c.requires.numbered c.requires.every filled (g.A.Adjacent.edges c.args.graph.now) c.in_ok-links.links.items
    (subst (λ (l : List (ℕ × (Label × ℕ))). AreGathered l c.in_ok-edges.edges.items) c.as_slice-2.ensures.value c.in_ok-edges.ensures.items)
    c.in_ok-links.ensures.links

pub returns-clause-ordered : goal.returns-clause-ordered
returns-clause-ordered g c =
    let filled = AreFilled-shown c.as_slice-3.result.now c.in_ok-members.members.items c.as_slice-4.result.now c.in_ok-edges.edges.items
    c.in_ok-blocks.blocks.items c.args.count c.as_slice-3.ensures.value c.as_slice-4.ensures.value c.in_ok-members.ensures.every
    c.in_ok-blocks.ensures in
    ordered-told c.args.objects.now c.args.numbers.now c.args.count c.in_ok-members.members.items c.in_ok-edges.edges.items
    c.in_ok-blocks.blocks.items c.requires.numbered c.requires.every filled
