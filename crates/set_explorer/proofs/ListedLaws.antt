-- Nodes under their hashes.
use Rattle.std.proofs.Common.{◌≡◌, ℕ, true, false, cond, List, [], ◌∷◌, ◌++◌}
use Rattle.std.proofs.Common.{Option, Some, unwrap_or, Contains, refl, sym}
use Rattle.std.proofs.Common.{ap, ◌∙◌, subst, arith}
use Rattle.std.specs.Ordering.{nat_cmp}
use Rattle.std.specs.Map.{lookup}
use Rattle.std.specs.BTreeMap.{is_at}
use Rattle.std.proofs.lemmas.Bool.Decides.{nat_tests}
use Rattle.std.proofs.lemmas.List.Elements.{Contains-append_left, Contains-push}
use Rattle.set_explorer.specs.Types.{Node}
use Rattle.set_explorer.specs.inside.HashLists.{listed}

same_key : (a b : ℕ) → is_at (nat_cmp a) b ≡ true → a ≡ b
same_key a b h = grind (arith, nat_tests)

-- ---- a node is put under a hash
module _ (old new : List (ℕ × List Node)) (hash : ℕ) (list : List Node) (node : Node)
    (is : list ≡ listed old hash ++ node ∷ [])
    (put : (q : ℕ) → lookup (is_at (nat_cmp q)) new ≡ cond (is_at (nat_cmp hash) q) (Some list)
    (lookup (is_at (nat_cmp q)) old)) where
  pub listed-kept : (other : ℕ) (there : Node) → Contains (listed old other) there → Contains (listed new other) there
  listed-kept other there at =
      elim (is_at (nat_cmp hash) other) as (λ b. is_at (nat_cmp hash) other ≡ b → lookup (is_at (nat_cmp other))
      new ≡ cond b (Some list) (lookup (is_at (nat_cmp other)) old)
      → Contains (listed new other) there) [
        | true ↦ λ same found. (
            let key : hash ≡ other = same_key hash other same in
            let here : listed new other ≡ listed old other ++ node ∷ [] =
            ap (λ (o : Option (List Node)). unwrap_or o []) found ∙ is ∙ ap (λ h. listed old h ++ node ∷ []) key in
            subst (λ (l : List Node). Contains l there) (sym here)
            (Contains-append_left (listed old other) (node ∷ []) there at))
        | false ↦ λ apart found. (
            let here : listed new other ≡ listed old other = ap (λ (o : Option (List Node)). unwrap_or o []) found in
            subst (λ (l : List Node). Contains l there) (sym here) at)
      ] refl (put other)

  pub listed-added : lookup (is_at (nat_cmp hash)) new ≡ Some list → Contains (listed new hash) node
  listed-added found =
      let here : listed new hash ≡ listed old hash ++ node ∷ [] =
      ap (λ (o : Option (List Node)). unwrap_or o []) found ∙ is in
      subst (λ (l : List Node). Contains l node) (sym here) (Contains-push (listed old hash) node)
