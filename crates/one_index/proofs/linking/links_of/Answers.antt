use Rattle.std.proofs.Common.{◌≡◌, ◌↔◌, ◌⊎◌, ℕ, ◌+◌, ◌++◌, List, length, get_or, take, Contains, ap, ◌∙◌, subst, arith}
use Rattle.std.specs.List.{sum_by}
use Rattle.std.proofs.lemmas.List.Sums.{sum_by_more}
use Rattle.std.proofs.lemmas.Option.{slice_get-get_or}
use Rattle.lore_base.specs.Walks.{out_of}
use Rattle.read_costs.specs.ReadCosts.{out_reads}
use Rattle.one_index.specs.Types.{Oid, Label, Edge}
use Rattle.one_index.specs.inside.Linked.{IsLink}
use Rattle.one_index.proofs.LinkLaws.{edges-more, edges-all}
use Rattle.one_index.proofs.linking.links_of.Goals as goal

pub objects-preserved : goal.objects-preserved
objects-preserved g c =
    let edges : List Edge = g.A.Adjacent.edges c.args.graph.now in
    let objects = c.args.objects.now in
    let numbers = c.args.numbers.now in
    let place = c.objects.place in
    let oid : Oid = get_or objects place (record { 0 = 0 }) in
    let cost : Oid → ℕ = out_reads edges in
    let total : sum_by cost (take (place + 1) objects) ≡ sum_by cost (take place objects) + cost oid =
    sum_by_more cost objects place (record { 0 = 0 }) c.objects-test.true in
    let read : c.out_edges.new.buf ≡ out_of oid edges =
    c.in_ok-out_edges.ensures.edges ∙ ap (λ (l : List Edge). l ++ out_of oid edges) c.cut.ensures in
    let now =
    subst (λ (l : List Edge). (link : ℕ × (Label × ℕ)) → Contains c.push_links.new.links.items link
    ↔ (Contains c.objects.links.items link ⊎ IsLink objects numbers (get_or numbers place 0) l link))
    (c.as_slice.ensures ∙ read) c.in_ok-push_links.ensures in
    record {
      links = edges-more objects numbers edges place oid c.objects.links.items c.push_links.new.links.items
          (slice_get-get_or objects place (record { 0 = 0 }) c.objects-test.true) c.objects.invariant.links now;
      steps = omega (arith, total, c.in_ok-out_edges.ensures.steps, c.objects.invariant.steps);
    }

pub returns-clause-links : goal.returns-clause-links
returns-clause-links g c =
    edges-all c.args.objects.now c.args.numbers.now (g.A.Adjacent.edges c.args.graph.now) c.objects.place c.objects.links.items
    (omega arith) c.objects.invariant.links
