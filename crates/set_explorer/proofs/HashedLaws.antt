-- Nodes found by the hashes of their sets in a sorted list.
use Rattle.std.proofs.Common.{◌≡◌, ℕ, ◌<◌, ◌≤◌, ltb, true, false, inl, inr, List, length, get_or, Contains, sym, ap}
use Rattle.std.proofs.Common.{◌∙◌, subst, arith}
use Rattle.std.specs.List.{AllWithin}
use Rattle.std.proofs.lemmas.Bool.{cases_lt}
use Rattle.std.proofs.lemmas.Bool.Decides.{nat_tests}
use Rattle.std.proofs.lemmas.List.{get_or_default}
use Rattle.list_laws.proofs.PlaceLaws.{place_of_member}
use Rattle.set_explorer.specs.Types.{Oid, Node, GuideNode}
use Rattle.oem_set.specs.Sets.{hash_of}
use Rattle.set_explorer.specs.Nodes.{sets_of, HasSet, node_number}
use Rattle.set_explorer.specs.HashedNodes.{IsHashed}
use Rattle.set_steps.proofs.PlaceLaws.{at-unmap}

module _ (entries : List (ℕ × Node)) (nodes : List GuideNode) (is : IsHashed entries nodes) (set : List Oid)
    (start place : ℕ)
    (low : AllWithin (λ e. ltb e.0 (hash_of set) ≡ true) entries 0 start)
    (high : AllWithin (λ e. ltb e.0 (hash_of set) ≡ false) entries start (length entries))
    (passed : (k : ℕ) (d : ℕ × Node) → start ≤ k → k < place → ¬ HasSet nodes (get_or entries k d).1 set)
    (from : start ≤ place) where
  -- an entry of the set stands at the place or behind it
  behind : Contains (sets_of nodes) set
      → (k : ℕ) × (k < length entries) × (place ≤ k) × ((d : ℕ × Node) → (get_or entries k d).0 ≡ hash_of set)
  behind there =
      let at = place_of_member (sets_of nodes) set there in
      let node = at-unmap (λ (n : GuideNode). n.set) nodes at.0 set at.1 in
      let entry : ℕ × Node = (hash_of set, node_number at.0) in
      let stands = subst (λ (s : List Oid). Contains entries (hash_of s, node_number at.0)) node.2
      (is.listed at.0 node.0 node.1) in
      let hash : (get_or entries stands.0 entry).0 ≡ hash_of set = ap (λ (e : ℕ × Node). e.0) stands.2 in
      let has : HasSet nodes (get_or entries stands.0 entry).1 set =
      subst (λ (n : Node). HasSet nodes n set) (sym (ap (λ (e : ℕ × Node). e.1) stands.2)) at.1 in (
        stands.0,
        stands.1,
        elim (cases_lt stands.0 place) [
          | inr late ↦ late
          | inl early ↦ elim (cases_lt stands.0 start) [
            | inl before ↦ (
                let less : ltb (get_or entries stands.0 entry).0 (hash_of set) ≡ true = low stands.0 entry
                (omega arith) before in
                absurd (clash (get_or entries stands.0 entry).0 (hash_of set) less hash))
            | inr after ↦ absurd (passed stands.0 entry after early has)
          ]
        ],
        λ d. ap (λ (e : ℕ × Node). e.0) (get_or_default entries stands.0 d entry stands.1) ∙ hash,
      )
    where
      clash : (a b : ℕ) → ltb a b ≡ true → a ≡ b → ⊥
      clash a b less same = grind (arith, nat_tests)

  pub none-left : length entries ≤ place → Contains (sets_of nodes) set → ⊥
  none-left end there = let k = behind there in omega (arith, k.1, k.2, end)

  pub none-other : (d : ℕ × Node) → place < length entries → ((get_or entries place d).0 ≡ hash_of set → ⊥) → Contains
      (sets_of nodes) set → ⊥
  none-other d within apart there =
      let k = behind there in
      let most : (get_or entries place d).0 ≤ (get_or entries k.0 d).0 = is.sorted place k.0 d k.2 k.1 in
      let same : (get_or entries k.0 d).0 ≡ hash_of set = k.3 d in
      let least : ltb (get_or entries place d).0 (hash_of set) ≡ false = high place d from within in
      apart (equal (get_or entries place d).0 (get_or entries k.0 d).0 (hash_of set) most same least)
    where
      equal : (a b c : ℕ) → a ≤ b → b ≡ c → ltb a c ≡ false → a ≡ c
      equal a b c most same least = grind (arith, nat_tests)
