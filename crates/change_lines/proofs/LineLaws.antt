-- The lines of what differs between two moments, from a delta that leads from the one to the other.
use Rattle.std.proofs.Common.{◌≡◌, ◌≢◌, ◌+◌, ◌<◌, ◌≤◌, List, [], ◌∷◌, ◌++◌, length, map, Some, Less, Greater, refl, ◌∙◌, ap, sym, subst, arith}
use Rattle.std.specs.Prelude.{AllPairs, ℕ, get_or, codes, decimal}
use Rattle.std.specs.List.{slice_get}
use Rattle.std.specs.Cmp.{IsTotalOrder}
use Rattle.std.proofs.lemmas.List.{append_assoc, append-nil, map-append, length-append, length-map}
use Rattle.std.proofs.lemmas.Option.{slice_get-get_or}
use Rattle.std.specs.declared.cmp.Ordering.{Ordering}
use Rattle.lore_base.specs.Walks.{edge_cmp}
use Rattle.lore_base.specs.Deltas.{ListsOnlyIn, IsDelta}
use Rattle.dump_text.specs.Dumps.{line_of, name_line, object_line, edge_line, spelled_edge}
use Rattle.doem_history.specs.Types.{Delta, Oid, Edge, Value}
use Rattle.doem_history.specs.Facts.{name_order, object_order}
use Rattle.doem_history.specs.Moments.{Moment, graph_of, IsInOrder}
use Rattle.doem_history.specs.inside.FactLaws.{name_total, object_total, edge_total}
use Rattle.doem_history.proofs.DeltaLaws.{names_ascend, objects_ascend}
use Rattle.doem_history.proofs.DifferLaws.{some_delta}
use Rattle.change_lines.specs.Changes.{Change, gone, come, change_line, AreChanges, AreChangeLines}
use Rattle.change_lines.specs.inside.Merged.{AreMerged}
use Rattle.change_lines.proofs.MergeLaws.{HasMerged, merged-start, merged-gone, merged-come, merged-whole, some_merged}

-- ---- how far the lines have come
-- so many of the facts that go and of those that come have their lines, behind those that were there
pub record HasPut {F : Type 0} (order : F → F → Ordering) (line : F → List ℕ) (going coming : List F) (before : List (List ℕ)) (i j : ℕ)
    (lines : List (List ℕ)) : Type 0 where
  pub changes : List (Change F)
  pub merged : HasMerged order going coming i j changes
  pub are : lines ≡ before ++ map (change_line line) changes
  pub gone_within : i ≤ length going
  pub come_within : j ≤ length coming

module _ {F : Type 0} (order : F → F → Ordering) (total : IsTotalOrder order) (line : F → List ℕ) (going coming : List F)
    (going_rise : AllPairs (λ a b. order a b ≡ Less) going) (coming_rise : AllPairs (λ a b. order a b ≡ Less) coming) (before : List (List ℕ)) where
  pub put-start : HasPut order line going coming before 0 0 before
  put-start = record {
    changes = [];
    merged = merged-start order total going coming going_rise coming_rise;
    are = sym (append-nil before);
    gone_within = omega arith;
    come_within = omega arith;
  }

  module _ (i j : ℕ) (lines : List (List ℕ)) (put : HasPut order line going coming before i j lines) where
    more : (change : Change F) (then : List (List ℕ)) → then ≡ lines ++ change_line line change ∷ []
        → then ≡ before ++ map (change_line line) (put.changes ++ change ∷ [])
    more change then is =
        is ∙ ap (λ (l : List (List ℕ)). l ++ change_line line change ∷ []) put.are
        ∙ append_assoc before (map (change_line line) put.changes) (change_line line change ∷ [])
        ∙ ap (λ (l : List (List ℕ)). before ++ l) (sym (map-append (change_line line) put.changes (change ∷ [])))

    pub put-gone : (fact : F) (then : List (List ℕ)) → (i < length going) × ((other : F) → slice_get coming j ≡ Some other → (first : F)
        → slice_get going i ≡ Some first → order first other ≢ Greater)
        → fact ≡ get_or going i fact → then ≡ lines ++ line_of (codes "-") (line fact) ∷ [] → HasPut order line going coming before (i + 1) j then
    put-gone fact then next here is =
        let within = next.0 in
        let there : slice_get going i ≡ Some fact = slice_get-get_or going i fact within ∙ ap Some (sym here) in
        record {
          changes = put.changes ++ gone fact ∷ [];
          merged = merged-gone order total going coming going_rise coming_rise i j put.changes put.merged fact there (λ other at. next.1 other at fact there);
          are = more (gone fact) then is;
          gone_within = omega (arith, within);
          come_within = put.come_within;
        }

    pub put-come : (fact : F) (then : List (List ℕ)) → (j < length coming) × ((first : F) → slice_get coming j ≡ Some first → (other : F)
        → slice_get going i ≡ Some other → order other first ≡ Greater)
        → fact ≡ get_or coming j fact → then ≡ lines ++ line_of (codes "+") (line fact) ∷ [] → HasPut order line going coming before i (j + 1) then
    put-come fact then next here is =
        let within = next.0 in
        let there : slice_get coming j ≡ Some fact = slice_get-get_or coming j fact within ∙ ap Some (sym here) in
        record {
          changes = put.changes ++ come fact ∷ [];
          merged = merged-come order total going coming going_rise coming_rise i j put.changes put.merged fact there (λ other at. next.1 fact there other at);
          are = more (come fact) then is;
          gone_within = put.gone_within;
          come_within = omega (arith, within);
        }

    pub put-whole : length going ≤ i → length coming ≤ j
        → (changes : List (Change F)) × AreMerged order going coming changes × (lines ≡ before ++ map (change_line line) changes)
    put-whole no_more none_left =
        (put.changes, merged-whole order total going coming going_rise coming_rise i j put.changes put.merged no_more none_left, put.are)

-- merged from the same lists
pub merged_from : {F : Type 0} (order : F → F → Ordering) (going coming these those : List F) (changes : List (Change F)) → these ≡ going → those ≡ coming
    → AreMerged order these those changes → AreMerged order going coming changes
merged_from {F} order going coming these those changes goes comes merged =
    subst (λ (l : List F). AreMerged order going l changes) comes (subst (λ (l : List F). AreMerged order l those changes) goes merged)

-- ---- what differs
-- what goes and what comes, merged, is what differs
pub changes_are : {F : Type 0} (order : F → F → Ordering) (before after going coming : List F) (changes : List (Change F)) → ListsOnlyIn going before after
    → ListsOnlyIn coming after before → AreMerged order going coming changes → AreChanges order before after changes
changes_are order before after going coming changes goes comes merged = record {
  gone = λ fact. (λ at. (goes fact).0 ((merged.goes fact).0 at), λ only. (merged.goes fact).1 ((goes fact).1 only));
  come = λ fact. (λ at. (comes fact).0 ((merged.comes fact).0 at), λ only. (merged.comes fact).1 ((comes fact).1 only));
  ascend = merged.ascend;
}

abbrev edge_text : List (List ℕ) → Edge → List ℕ
edge_text labels edge = edge_line (spelled_edge labels edge)

count_of : (a b c : ℕ) (n o e : List (List ℕ)) → length n ≡ a → length o ≡ b → length e ≡ c → length (n ++ (o ++ e)) ≡ a + b + c
count_of a b c n o e first second third =
    let whole = length-append n (o ++ e) in
    let rest = length-append o e in
    omega (arith, whole, rest, first, second, third)

module _ (labels : List (List ℕ)) (before after : Moment) (delta : Delta) (differ : IsDelta (graph_of before) (graph_of after) delta) where
  -- from the changes of each kind
  pub lines_are : (names : List (Change (List ℕ × Oid))) (objects : List (Change (Oid × Value))) (edges : List (Change Edge))
      → AreMerged name_order delta.names_gone delta.names_come names → AreMerged object_order delta.objects_gone delta.objects_come objects
      → AreMerged edge_cmp delta.edges_gone delta.edges_come edges → (lines : List (List ℕ))
      → lines ≡ map (change_line name_line) names ++ (map (change_line object_line) objects ++ (map (change_line (edge_text labels)) edges
      ++ line_of (codes "changes") (decimal (length names + length objects + length edges)) ∷ []))
      → AreChangeLines labels before after lines
  lines_are names objects edges of_names of_objects of_edges lines are = record {
    names = names;
    objects = objects;
    edges = edges;
    names_are = changes_are name_order before.names after.names delta.names_gone delta.names_come names differ.names_gone differ.names_come of_names;
    objects_are = changes_are object_order before.objects after.objects delta.objects_gone delta.objects_come objects differ.objects_gone differ.objects_come of_objects;
    edges_are = changes_are edge_cmp before.edges after.edges delta.edges_gone delta.edges_come edges differ.edges_gone differ.edges_come of_edges;
    are = are;
  }

  -- put one kind behind another, with their number at the end
  pub lines_put : (names : List (Change (List ℕ × Oid))) (objects : List (Change (Oid × Value))) (edges : List (Change Edge))
      → AreMerged name_order delta.names_gone delta.names_come names → AreMerged object_order delta.objects_gone delta.objects_come objects
      → AreMerged edge_cmp delta.edges_gone delta.edges_come edges → (start first second third lines : List (List ℕ)) (count : List ℕ) → start ≡ []
      → first ≡ start ++ map (change_line name_line) names → second ≡ first ++ map (change_line object_line) objects
      → third ≡ second ++ map (change_line (edge_text labels)) edges → count ≡ line_of (codes "changes") (decimal (length third))
      → lines ≡ third ++ count ∷ [] → AreChangeLines labels before after lines
  lines_put names objects edges of_names of_objects of_edges start first second third lines count none by_names by_objects by_edges counts is =
      let n = map (change_line name_line) names in
      let o = map (change_line object_line) objects in
      let e = map (change_line (edge_text labels)) edges in
      let first_is : first ≡ n = by_names ∙ ap (λ (l : List (List ℕ)). l ++ n) none in
      let second_is : second ≡ n ++ o = by_objects ∙ ap (λ (l : List (List ℕ)). l ++ o) first_is in
      let third_is : third ≡ n ++ (o ++ e) = by_edges ∙ ap (λ (l : List (List ℕ)). l ++ e) second_is ∙ append_assoc n o e in
      let total : length third ≡ length names + length objects + length edges =
      ap (λ (l : List (List ℕ)). length l) third_is
      ∙ count_of (length names) (length objects) (length edges) n o e (length-map names (change_line name_line)) (length-map objects (change_line object_line))
      (length-map edges (change_line (edge_text labels))) in
      let last : List ℕ = line_of (codes "changes") (decimal (length names + length objects + length edges)) in
      let count_is : count ≡ last = counts ∙ ap (λ (k : ℕ). line_of (codes "changes") (decimal k)) total in
      let all : lines ≡ n ++ (o ++ e) ++ last ∷ [] = is ∙ (λ k. third_is k ++ count_is k ∷ []) in
      lines_are names objects edges of_names of_objects of_edges lines
      (all ∙ append_assoc n (o ++ e) (last ∷ []) ∙ ap (λ (l : List (List ℕ)). n ++ l) (append_assoc o e (last ∷ [])))

  -- and there are such lines
  some_lines_by : (lines : List (List ℕ)) × AreChangeLines labels before after lines
  some_lines_by =
      let names = some_merged name_order name_total delta.names_gone delta.names_come (names_ascend delta.names_gone differ.names_ascend.0)
      (names_ascend delta.names_come differ.names_ascend.1) in
      let objects = some_merged object_order object_total delta.objects_gone delta.objects_come (objects_ascend delta.objects_gone differ.objects_ascend.0)
      (objects_ascend delta.objects_come differ.objects_ascend.1) in
      let edges = some_merged edge_cmp edge_total delta.edges_gone delta.edges_come differ.edges_ascend.0 differ.edges_ascend.1 in
      (_, lines_are names.0 objects.0 edges.0 names.1 objects.1 edges.1 _ refl)

pub some_lines : (labels : List (List ℕ)) (before after : Moment) → IsInOrder before → IsInOrder after
    → (lines : List (List ℕ)) × AreChangeLines labels before after lines
some_lines labels before after first last =
    let found = some_delta before after first last in some_lines_by labels before after found.0 found.1
