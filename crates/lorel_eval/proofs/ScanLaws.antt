-- Going over a list for an item that passes, or for one that doesn't.
use Rattle.std.proofs.Common.{ℕ, ◌≤◌, List, length, take, All, Contains, subst}
use Rattle.std.proofs.lemmas.List.{take_all}
use Rattle.std.proofs.lemmas.List.Elements.{All-contains}

-- at the end all pass
pub all_pass : {X : Type 0} (P : X → Type 0) (xs : List X) (i : ℕ) → length xs ≤ i → All P (take i xs) → (x : X) → Contains xs x → P x
all_pass {X} P xs i past all x at = All-contains P xs x (subst (λ (l : List X). All P l) (take_all i xs past) all) at

-- at the end none passes
pub none_passes : {X : Type 0} (P : X → Type 0) (xs : List X) (i : ℕ) → length xs ≤ i → All (λ x. P x → ⊥) (take i xs) → ((x : X) × Contains xs x × P x) → ⊥
none_passes P xs i past none some = all_pass (λ x. P x → ⊥) xs i past none some.0 some.1 some.2
