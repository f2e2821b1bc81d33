-- Lists of objects, each once: how many they are, and that they list in order what they hold once they are sorted.
use Rattle.std.proofs.Common.{◌≡◌, ◌≢◌, ◌<◌, ◌≤◌, ℕ, Bool, false, nat_eq, nat_cmp, List, length, get_or, map, AllPairs, sym, ap, ◌∙◌, arith}
use Rattle.std.specs.Bool.{Decides}
use Rattle.std.specs.Cmp.{IsEquivalence}
use Rattle.std.specs.Ordering.{is_lt}
use Rattle.std.specs.List.Sorted.{IsPermutation, IsSorted}
use Rattle.std.specs.Set.{distinct_count}
use Rattle.std.proofs.lemmas.Bool.Decides.{nat_tests, Decides-eqb, Decides-like}
use Rattle.std.proofs.lemmas.Cmp.{nat_cmp_total, nat_eq_equiv, on_equiv}
use Rattle.std.proofs.lemmas.List.{length-map}
use Rattle.std.proofs.lemmas.List.Sorted.{ranks_by, sorted_far, length_permutation, Contains-permutation, IsPermutation-sym, list_any-IsPermutation}
use Rattle.std.proofs.lemmas.Map.Made.{length-from_keys}
use Rattle.std.proofs.lemmas.Map.Made.{IsDistinct-from_AllPairs, IsDistinct-from_count, AllPairs-from_IsDistinct}
use Rattle.list_laws.proofs.SumLaws.{distinct_no_longer}
use Rattle.list_laws.proofs.MemberLaws.{Contains-map}
use Rattle.index_traits.specs.Entries.{IsFound, entry_of}
use Rattle.lore_base.specs.TargetSets.{ListsInOrder}
use Rattle.value_index.specs.Types.{Oid, Label, Value, Op, ValueEntry}
use Rattle.value_index.specs.inside.Runs.{ListsOnce}

abbrev same_oid : Oid → Oid → Bool
same_oid a b = nat_eq a.0 b.0

same_laws : IsEquivalence same_oid
same_laws = on_equiv (λ (o : Oid). o.0) nat_eq_equiv

same_told : (a b : Oid) → Decides (same_oid a b) (a ≡ b)
same_told a b =
    Decides-like (nat_eq a.0 b.0) (λ (n : a.0 ≡ b.0). ap (λ k. record { 0 = k }) n) (λ (h : a ≡ b). ap (λ (o : Oid). o.0) h) (Decides-eqb a.0 b.0)

rising-once : (xs : List Oid) → AllPairs (λ a b. a.0 < b.0) xs → AllPairs (λ a b. a ≢ b) xs
rising-once xs ascend i j d lt len same = let below = ascend i j d lt len in omega (arith, below, ap (λ (o : Oid). o.0) same)

pub same_length : (P : Oid → Type 0) (xs ys : List Oid) → ListsOnce P xs → ListsInOrder P ys → length xs ≡ length ys
same_length P xs ys listed ordered =
    let up = distinct_no_longer xs ys listed.once (λ oid at. (ordered.exact oid).1 ((listed.exact oid).0 at)) in
    let down = distinct_no_longer ys xs (rising-once ys ordered.ascending) (λ oid at. (listed.exact oid).1 ((ordered.exact oid).0 at)) in
    omega (arith, up, down)

-- no more objects are found than there are entries
pub few_found : (entries : List ValueEntry) (label : Label) (op : Op) (value : Value) (oids : List Oid)
    → ListsOnce (IsFound entries label op value) oids → length oids ≤ length entries
few_found entries label op value oids listed =
    let few = distinct_no_longer oids (map (λ (e : ValueEntry). e.object) entries) listed.once (λ oid at.
    let found = (listed.exact oid).0 at in
    Contains-map (λ (e : ValueEntry). e.object) entries (entry_of label found.0 oid) found.1) in
    omega (arith, few, length-map entries (λ (e : ValueEntry). e.object))

moved-once : (xs ys : List Oid) → IsPermutation xs ys → AllPairs (λ a b. a ≢ b) xs → AllPairs (λ a b. a ≢ b) ys
moved-once xs ys moved once =
    let count : length xs ≡ distinct_count same_oid ys =
    length-from_keys same_laws xs ys (IsDistinct-from_AllPairs same_told xs once) (λ q. list_any-IsPermutation (same_oid q) xs ys moved) in
    AllPairs-from_IsDistinct same_told ys (IsDistinct-from_count same_laws ys (sym count ∙ sym (length_permutation xs ys moved)))

above_other : (a b : ℕ) → is_lt (nat_cmp b a) ≡ false → (a ≡ b → ⊥) → a < b
above_other a b h other = grind (arith, nat_tests)

-- sorted they are listed in order
pub sorted_once : (P : Oid → Type 0) (xs ys : List Oid) → ListsOnce P xs → IsPermutation xs ys
    → IsSorted (λ (a b : Oid). nat_cmp a.0 b.0) ys → ListsInOrder P ys
sorted_once P xs ys listed moved sorted = record {
  ascending = λ i j d lt len.
      above_other (get_or ys i d).0 (get_or ys j d).0
      (sorted_far (λ (a b : Oid). is_lt (nat_cmp a.0 b.0)) (ranks_by nat_cmp_total (λ (o : Oid). o.0)) ys sorted i j d (omega (arith, lt)) len)
      (λ number. moved-once xs ys moved listed.once i j d lt len (ap (λ k. record { 0 = k }) number));
  exact = λ oid. (
    λ at. (listed.exact oid).0 (Contains-permutation ys xs oid (IsPermutation-sym xs ys moved) at),
    λ passes. Contains-permutation xs ys oid moved ((listed.exact oid).1 passes),
  );
}
