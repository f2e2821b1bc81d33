use Rattle.std.proofs.Common.{◌≡◌, ◌≢◌, List, AllPairs, sym, ap, ◌∙◌, subst, rules}
use Rattle.std.proofs.lemmas.List.Sorted.{Contains-permutation, IsNonDecreasingBy-from_sort_by_key}
use Rattle.oem_set.specs.Sets.{hash_of}
use Rattle.dataguide.specs.Types.{Oid, GuideNode, DeltaNode}
use Rattle.dataguide.specs.Guides.{GuideGraph}
use Rattle.set_explorer.specs.Nodes.{node_number, sets_of}
use Rattle.dataguide.specs.Deltas.{PlannedGuide}
use Rattle.set_explorer.specs.PlannedNodes.{KeepsOnce, nodes_then}
use Rattle.set_explorer.proofs.FillLaws.{filled-ascend, filled-few}
use Rattle.dataguide.proofs.data_guide.Guide.commit.Goals as goal

pub fill_nodes-nodes-requires : goal.fill_nodes-nodes-requires
fill_nodes-nodes-requires c =
    let old : c.args.self.now.nodes ≡ c.replace-old.result.items =
    sym (ap (λ (g : GuideGraph). g.nodes) c.self.view_is) ∙ sym (ap (λ v. v.items) c.replace-old.ensures.value) in
    let nodes : c.args.delta.nodes ≡ c.delta.inside.nodes.items =
    sym (ap (λ (p : PlannedGuide). p.nodes) c.delta.view_is) in
    record {
      keeps = subst (λ (l : List GuideNode). KeepsOnce l c.delta.inside.nodes.items) old
          (subst (λ (l : List DeltaNode). KeepsOnce c.args.self.now.nodes l) nodes c.requires.keeps);
      few = c.delta.invariant.few;
      empty = c.delta.invariant.empty;
      bare = c.delta.invariant.bare;
      fits = c.delta.invariant.fits;
      hashes_fit = c.delta.invariant.hashes_fit;
    }

pub returns : goal.returns
returns c =
    let planned = c.delta.inside.nodes.items in
    let nodes = c.fill_nodes-nodes.ensures.nodes ∙ ap (λ v. nodes_then v.items planned) c.replace-old.ensures.value
    ∙ ap (λ (g : GuideGraph). nodes_then g.nodes planned) c.self.view_is in
    ap (λ (l : List GuideNode). record { nodes = l; entries = c.delta.inside.entries }) nodes
    ∙ ap (λ (p : PlannedGuide). record { nodes = nodes_then c.args.self.now.nodes p.nodes; entries = p.entries })
    c.delta.view_is

pub invariant_of-self : goal.invariant_of-self
invariant_of-self c =
    let planned = c.delta.inside.nodes.items in
    let made = c.fill_nodes-nodes.ensures.nodes ∙ ap (λ v. nodes_then v.items planned) c.replace-old.ensures.value
    ∙ ap (λ (g : GuideGraph). nodes_then g.nodes planned) c.self.view_is
    ∙ ap (λ (p : PlannedGuide). nodes_then c.args.self.now.nodes p.nodes) c.delta.view_is in
    record {
      hashed = record {
        sorted = IsNonDecreasingBy-from_sort_by_key (λ e. e.0) c.sort_unstable_by_key.new.self.items
            c.sort_unstable_by_key.ensures.sorted (λ a r q k. search rules);
        listed = λ place node at.
            Contains-permutation c.fill_nodes-nodes.result.by_hash.items c.sort_unstable_by_key.new.self.items
            (hash_of node.set, node_number place) c.sort_unstable_by_key.ensures.permutation
            (c.fill_nodes-nodes.ensures.hashes place node at);
      };
      apart = subst (λ (l : List GuideNode). AllPairs (λ (a b : List Oid). a ≢ b) (sets_of l))
          (sym made) c.requires.apart;
      ascend = filled-ascend c.replace-old.result.items planned c.fill_nodes-nodes.result.nodes.items
          c.fill_nodes-nodes.ensures.nodes
          c.delta.invariant.ascend;
      few = filled-few c.replace-old.result.items planned c.fill_nodes-nodes.result.nodes.items c.fill_nodes-nodes.ensures.nodes
          c.delta.invariant.few;
    }
