use Rattle.std.proofs.Common.{◌≡◌, ◌∙◌, ℕ, List, [], ◌∷◌, ◌++◌, map, ap, sym}
use Rattle.std.specs.Prelude.{pos, codes}
use Rattle.dump_text.specs.Types.{Oid, Edge}
use Rattle.dump_text.specs.Dumps.{label_line, name_line, object_line, edge_line, spelled_edge, head_lines, ended_lines}
use Rattle.std.proofs.lemmas.Simd.{map-map}
use Rattle.dump_text.proofs.LineLaws.{goes_on}
use Rattle.dump_text.proofs.writing.dump.Goals as goal

pub returns : goal.returns
returns c =
    let labels = c.args.labels.now in
    let graph = c.args.graph.now.graph in
    let all = c.put.new.self in
    let first = head_lines (pos 2) (pos graph.next) (pos c.args.nodes) c.args.mode in
    let line : Edge → List ℕ = λ (edge : Edge). edge_line (spelled_edge labels edge) in
    let spelled : map line c.as_slice.result.now ≡ map edge_line (map (spelled_edge labels) graph.edges) =
    ap (λ (l : List Edge). map line l) (c.as_slice.ensures ∙ c.requires.edges) ∙ sym (map-map edge_line (spelled_edge labels) graph.edges) in
    let head : c.put_head.new.dump ≡ ended_lines first =
    c.in_ok-put_head.ensures
    ∙ (λ i. c.new-dump.ensures i ++ ended_lines (head_lines (pos 2) (pos (c.next.ensures.number i)) (pos c.args.nodes) c.args.mode)) in
    let names = c.in_ok-put_names.ensures ∙ ap (λ (l : List (List ℕ × Oid)). c.put_labels.new.dump ++ ended_lines (map name_line l)) c.names.ensures in
    let edges = c.in_ok-put_edges.ensures ∙ ap (λ (l : List (List ℕ)). c.put_objects.new.dump ++ ended_lines l) spelled in
    goes_on [] c.put_head.new.dump all first _ head
    (goes_on c.put_head.new.dump c.put_labels.new.dump all (map label_line labels) _ c.in_ok-put_labels.ensures
    (goes_on c.put_labels.new.dump c.put_names.new.dump all (map name_line graph.names) _ names
    (goes_on c.put_names.new.dump c.put_objects.new.dump all (map object_line graph.objects) _ c.in_ok-put_objects.ensures
    (goes_on c.put_objects.new.dump c.put_edges.new.dump all (map edge_line (map (spelled_edge labels) graph.edges)) (codes "end" ∷ [])
    edges c.in_ok-put.ensures.ok))))
