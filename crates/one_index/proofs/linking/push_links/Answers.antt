use Rattle.std.proofs.Common.{◌↔◌, ◌⊎◌, ℕ, get_or, take, List, Contains, sym, subst}
use Rattle.std.proofs.lemmas.List.{take_all, take_more}
use Rattle.one_index.specs.Types.{Label, Edge}
use Rattle.one_index.specs.inside.Linked.{IsLink}
use Rattle.one_index.proofs.LinkLaws.{links-none, links-put}
use Rattle.one_index.proofs.linking.push_links.Goals as goal

pub edges-init : goal.edges-init
edges-init c = links-none c.args.objects.now c.args.numbers.now c.args.from c.args.links.now.items

pub edges-preserved : goal.edges-preserved
edges-preserved c =
    let first : Edge = record { parent = record { 0 = 0 }; label = record { 0 = 0 }; child = record { 0 = 0 } } in
    let edges = c.args.edges.now in
    let edge = get_or edges c.edges.edge-index first in
    subst (λ (l : List Edge). (link : ℕ × (Label × ℕ)) → Contains c.push_link.new.links.items link
    ↔ (Contains c.args.links.now.items link ⊎ IsLink c.args.objects.now c.args.numbers.now c.args.from l link))
    (sym (take_more edges c.edges.edge-index first c.edges-test.true))
    (links-put c.args.objects.now c.args.numbers.now c.requires.ascend c.args.from (take c.edges.edge-index edges) edge
    c.args.links.now.items c.edges.links.items c.push_link.new.links.items c.in_ok-push_link.ensures c.edges.invariant)

pub returns : goal.returns
returns c =
    subst (λ (l : List Edge). (link : ℕ × (Label × ℕ)) → Contains c.edges.links.items link
    ↔ (Contains c.args.links.now.items link ⊎ IsLink c.args.objects.now c.args.numbers.now c.args.from l link))
    (take_all c.edges.edge-index c.args.edges.now c.edges-test.false) c.edges.invariant
