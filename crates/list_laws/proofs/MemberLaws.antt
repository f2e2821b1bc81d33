-- What stands in a list, and what holds of all that does.
use Rattle.std.proofs.Common.{◌≡◌, inl, inr, List, [], ◌∷◌, map, get_or, ap, subst}
use Rattle.std.specs.List.{All, Contains}
use Rattle.std.proofs.lemmas.List.Elements.{Contains-get_or}
use Rattle.lore_lists.proofs.MemberLaws.{Contains-none, Contains-head, Contains-tail, Contains-cases, Contains-same}

-- what is made of a member stands in the list that is made of all
pub Contains-map : {X Y : Type 0} (f : X → Y) (xs : List X) (x : X) → Contains xs x → Contains (map f xs) (f x)
Contains-map f [] x at = absurd (Contains-none x at)
Contains-map f (first ∷ xs) x at = elim (Contains-cases first xs x at) [
  | inl same ↦ Contains-same (f first ∷ map f xs) (f first) (f x) (ap f same) (Contains-head (f first) (map f xs))
  | inr later ↦ Contains-tail (f first) (map f xs) (f x) (Contains-map f xs x later)
]

-- and what stands there was made of a member
pub Contains-from_map : {X Y : Type 0} (f : X → Y) (xs : List X) (y : Y) → Contains (map f xs) y
    → (x : X) × Contains xs x × (f x ≡ y)
Contains-from_map f [] y at = absurd (Contains-none y at)
Contains-from_map f (first ∷ xs) y at = elim (Contains-cases (f first) (map f xs) y at) [
  | inl same ↦ (first, Contains-head first xs, same)
  | inr later ↦ (let rest = Contains-from_map f xs y later in (rest.0, Contains-tail first xs rest.0 rest.1, rest.2))
]

pub none_in : {X : Type 0} (xs : List X) (x : X) → xs ≡ [] → Contains xs x → ⊥
none_in {X} xs x none at = Contains-none x (subst (λ (l : List X). Contains l x) none at)

pub All-from_members : {X : Type 0} (P : X → Type 0) (xs : List X) → ((x : X) → Contains xs x → P x) → All P xs
All-from_members P xs each k d within = each (get_or xs k d) (Contains-get_or xs k d within)
