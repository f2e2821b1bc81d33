-- Orders of names, objects and edges that a test of neighbours tells.
use Rattle.std.proofs.Common.{◌≡◌, ◌↔◌, ℕ, ◌+◌, ◌<◌, Bool, true≢false, ltb, Less, Equal, Greater, List, [], AllPairs, Decides, refl, sym, arith}
use Rattle.std.specs.Bool.{IsTrue}
use Rattle.std.specs.Ordering.{is_lt}
use Rattle.std.specs.declared.cmp.Ordering.{Ordering}
use Rattle.std.specs.List.{IsAllAdjacentAnswer}
use Rattle.std.specs.Map.{keys_of}
use Rattle.std.proofs.lemmas.Bool.Decides.{Decides-ltb}
use Rattle.std.proofs.lemmas.Cmp.{nat_list_cmp_total}
use Rattle.std.proofs.lemmas.List.{length-map, get_or-map}
use Rattle.std.proofs.lemmas.Map.Keys.{sorted_from_all_adjacent, Less-from_sorted}
use Rattle.lore_base.specs.Bytes.{bytes_cmp}
use Rattle.lore_base.specs.Names.{IsNameTable}
use Rattle.lore_base.specs.Walks.{edge_cmp}
use Rattle.lore_base.specs.Databases.{AreAscendingObjects, AreAscendingEdges}
use Rattle.edge_layers.proofs.EdgeLaws.{edge_cmp_total}
use Rattle.dump_text.specs.Types.{Oid, Edge, Value}
use Rattle.dump_text.proofs.ListLaws.{told_by_next}

less_told : (o : Ordering) → Decides (is_lt o) (o ≡ Less)
less_told Less = (λ _. refl, λ _. refl)
less_told Equal = (λ no. absurd (true≢false (sym no)), λ is. cc)
less_told Greater = (λ no. absurd (true≢false (sym no)), λ is. cc)

pub edges_told : (edges : List Edge) (result : Bool) → IsAllAdjacentAnswer (λ a b answer. answer ≡ is_lt (edge_cmp a b)) edges result
    → IsTrue result ↔ AreAscendingEdges edges
edges_told edges result answer =
    told_by_next (λ (a b : Edge). edge_cmp a b ≡ Less) (λ a b c. edge_cmp_total.trans a b c) (λ a b. is_lt (edge_cmp a b)) (λ a b. less_told (edge_cmp a b))
    edges result answer

pub objects_told : (objects : List (Oid × Value)) (result : Bool) → IsAllAdjacentAnswer (λ a b answer. answer ≡ ltb a.0.0 b.0.0) objects result
    → IsTrue result ↔ AreAscendingObjects objects
objects_told objects result answer =
    told_by_next (λ (a b : Oid × Value). a.0.0 < b.0.0) (λ a b c less more. omega (arith, less, more)) (λ a b. ltb a.0.0 b.0.0)
    (λ a b. Decides-ltb a.0.0 b.0.0) objects result answer

-- names in pairs are names in a table
table_from_pairs : (names : List (List ℕ × Oid)) → AllPairs (λ a b. bytes_cmp a.0 b.0 ≡ Less) names → IsNameTable names
table_from_pairs names pairs =
    let none : List ℕ × Oid = ([], record { 0 = 0 }) in
    let name : List ℕ × Oid → List ℕ = λ e. e.0 in
    let long = length-map names name in
    sorted_from_all_adjacent nat_list_cmp_total (keys_of names) [] (λ k low.
    let first = get_or-map name names k none [] (omega (arith, low, long)) in
    let second = get_or-map name names (k + 1) none [] (omega (arith, low, long)) in
    rw (first, second) (pairs k (k + 1) none (omega arith) (omega (arith, low, long))))

pairs_from_table : (names : List (List ℕ × Oid)) → IsNameTable names → AllPairs (λ a b. bytes_cmp a.0 b.0 ≡ Less) names
pairs_from_table names table i j d lt len =
    let name : List ℕ × Oid → List ℕ = λ e. e.0 in
    let long = length-map names name in
    let first = get_or-map name names i d [] (omega (arith, lt, len)) in
    let second = get_or-map name names j d [] len in
    let less = Less-from_sorted bytes_cmp (keys_of names) i j [] table lt (omega (arith, len, long)) in
    rw (first, second) at less

pub names_told : (names : List (List ℕ × Oid)) (result : Bool) → IsAllAdjacentAnswer (λ a b answer. answer ≡ is_lt (bytes_cmp a.0 b.0)) names result
    → IsTrue result ↔ IsNameTable names
names_told names result answer =
    let pairs = told_by_next (λ (a b : List ℕ × Oid). bytes_cmp a.0 b.0 ≡ Less) (λ a b c. nat_list_cmp_total.trans a.0 b.0 c.0) (λ a b. is_lt (bytes_cmp a.0 b.0))
    (λ a b. less_told (bytes_cmp a.0 b.0)) names result answer in
    (λ yes. table_from_pairs names (pairs.0 yes), λ table. pairs.1 (pairs_from_table names table))
