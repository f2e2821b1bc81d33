-- Going over a list for an item that passes.
use Rattle.std.proofs.Common.{◌≡◌, ℕ, ◌+◌, ◌<◌, ◌≤◌, List, length, get_or, take, All, Contains, sym, subst}
use Rattle.std.proofs.lemmas.List.{take_all}
use Rattle.std.proofs.lemmas.List.Elements.{All-contains, All-push}
use Rattle.list_laws.proofs.PartLaws.{take_more_read}

-- one item more doesn't pass
pub none_more : {X : Type 0} (P : X → Type 0) (xs : List X) (i : ℕ) (x : X) → i < length xs → x ≡ get_or xs i x → (P x → ⊥)
    → All (λ y. P y → ⊥) (take i xs) → All (λ y. P y → ⊥) (take (i + 1) xs)
none_more P xs i x low at fails none =
    subst (All (λ y. P y → ⊥)) (sym (take_more_read xs i x low at)) (All-push (λ y. P y → ⊥) (take i xs) x none fails)

-- at the end none passes
pub none_passes : {X : Type 0} (P : X → Type 0) (xs : List X) (i : ℕ) → length xs ≤ i → All (λ x. P x → ⊥) (take i xs)
    → ((x : X) × Contains xs x × P x) → ⊥
none_passes {X} P xs i past none some =
    All-contains (λ x. P x → ⊥) xs some.0 (subst (λ (l : List X). All (λ x. P x → ⊥) l) (take_all i xs past) none) some.1 some.2
