use Rattle.std.proofs.Common.{◌≤◌, ℕ, List, All, [], length, map, take, sym, ap, subst, ◌∙◌, arith, append-nil}
use Rattle.std.proofs.lemmas.List.{take_all, length-map}
use Rattle.oem_text.specs.declared.flat.Link.{Link}
use Rattle.oem_text.specs.Layouts.{LaidOut, JoinsBelow, table_of, edge_from}
use Rattle.oem_text.specs.inside.Views.{placed_of, laid_out}
use Rattle.oem_text.proofs.LaidLaws.{arc_here, link_below, edge_own, numbers_more, edges_more, labels_past, few_more, few_all}
use Rattle.oem_text.proofs.layouts.Layout.edges.Goals as goal

pub returns-in_default-clause-none : goal.returns-in_default-clause-none
returns-in_default-clause-none c =
    let i = c.links.link-index in
    let link = c.link-item.result in
    let same = ap (map placed_of) c.deref-link-items.ensures.value ∙ ap (λ (l : LaidOut). l.arcs) c.self.view_is in
    let more = arc_here c.deref-link-items.result.now c.args.self.now.arcs i link same (omega arith) c.link-item.is in
    labels_past c.args.numbers.now c.links.numbers c.args.self.now.arcs i (placed_of link) more c.links.invariant.numbers (rw c.in_default.is at c.in_ok-label.ensures.none)

pub edge_at-requires-clause-parent : goal.edge_at-requires-clause-parent
edge_at-requires-clause-parent c =
    let count = ap (λ (l : LaidOut). length l.values) c.self.view_is in
    let all = subst (λ (l : List Link). All (JoinsBelow (length (laid_out c.self.inside.literals.items c.self.inside.links.items).values)) (map placed_of l))
    (sym c.deref-link-items.ensures.value) c.self.invariant.joined in
    let below = link_below c.deref-link-items.result.now (length (laid_out c.self.inside.literals.items c.self.inside.links.items).values) c.links.link-index
    c.link-item.result all (omega arith) c.link-item.is in
    let low = below.parent in
    omega (arith, count, low, c.requires)

pub edge_at-requires-clause-child : goal.edge_at-requires-clause-child
edge_at-requires-clause-child c =
    let count = ap (λ (l : LaidOut). length l.values) c.self.view_is in
    let all = subst (λ (l : List Link). All (JoinsBelow (length (laid_out c.self.inside.literals.items c.self.inside.links.items).values)) (map placed_of l))
    (sym c.deref-link-items.ensures.value) c.self.invariant.joined in
    let below = link_below c.deref-link-items.result.now (length (laid_out c.self.inside.literals.items c.self.inside.links.items).values) c.links.link-index
    c.link-item.result all (omega arith) c.link-item.is in
    let low = below.child in
    omega (arith, count, low, c.requires)

pub links-preserved : goal.links-preserved
links-preserved c =
    let i = c.links.link-index in
    let link = c.link-item.result in
    let arcs = c.args.self.now.arcs in
    let same = ap (map placed_of) c.deref-link-items.ensures.value ∙ ap (λ (l : LaidOut). l.arcs) c.self.view_is in
    let more = arc_here c.deref-link-items.result.now arcs i link same (omega arith) c.link-item.is in
    let texts = rw c.in-Some.is at c.in_ok-label.ensures.texts in
    let label = rw c.in-Some.is at c.in_ok-label.ensures.label in
    let after = c.number.new.self in
    let own = edge_own c.edge_at.result c.args.next (table_of after) (placed_of link) c.edge_at.ensures.parent (c.edge_at.ensures.label ∙ label) c.edge_at.ensures.child in
    record {
      numbers = numbers_more c.args.numbers.now c.links.numbers after arcs i (placed_of link) more c.links.invariant.numbers texts;
      edges = edges_more c.args.next c.links.numbers after arcs i (placed_of link) c.links.edges c.push.new.self c.edge_at.result more texts c.links.invariant.edges
          c.in_ok-push.ensures.ok own;
      few = few_more c.links.numbers after (placed_of link).label texts (rw c.in-Some.is at c.in_ok-label.ensures.few);
    }

pub returns-clause-few : goal.returns-clause-few
returns-clause-few c =
    let arcs = c.args.self.now.arcs in
    let same = ap (map placed_of) c.deref-link-items.ensures.value ∙ ap (λ (l : LaidOut). l.arcs) c.self.view_is in
    let size : length arcs ≤ c.links.link-index = omega (arith, ap length same, length-map c.deref-link-items.result.now placed_of) in
    few_all c.args.numbers.now c.links.numbers arcs c.links.link-index size c.links.invariant.numbers c.links.invariant.few

pub returns-clause-edges : goal.returns-clause-edges
returns-clause-edges c =
    let arcs = c.args.self.now.arcs in
    let table = table_of c.links.numbers in
    let same = ap (map placed_of) c.deref-link-items.ensures.value ∙ ap (λ (l : LaidOut). l.arcs) c.self.view_is in
    let size : length arcs ≤ c.links.link-index = omega (arith, ap length same, length-map c.deref-link-items.result.now placed_of) in
    c.links.invariant.edges []
    ∙ ap (λ (t : List (List ℕ)). map (edge_from c.args.next t) (take c.links.link-index arcs)) (append-nil table)
    ∙ ap (map (edge_from c.args.next table)) (take_all c.links.link-index arcs size)
