-- Lists: where the item stands that passes, two ways to part a list, and lists of what agrees.
use Rattle.std.proofs.Common.{◌≡◌, ◌⊎◌, inl, inr, List, [], ◌∷◌, ◌++◌, map, All, subst, refl, sym}
use Rattle.std.specs.List.{Contains, AllZip}
use Rattle.std.proofs.lemmas.List.Elements.{All-nil, All-cons, All-head, All-tail, All-contains, Contains-append_right}
use Rattle.lore_base.proofs.MemberLaws.{Contains-head}

pub Contains-between : {X : Type 0} (xs : List X) (x : X) (ys : List X) → Contains (xs ++ x ∷ ys) x
Contains-between xs x ys = Contains-append_right xs (x ∷ ys) x (Contains-head x ys)

-- what holds of a joined list holds of both parts
pub All-parts : {X : Type 0} (P : X → Type 0) (xs ys : List X) → All P (xs ++ ys) → All P xs × All P ys
All-parts P [] ys h = (All-nil P, h)
All-parts P (x ∷ xs) ys h =
    let later = All-parts P xs ys (All-tail P x (xs ++ ys) h) in
    (All-cons P x xs (All-head P x (xs ++ ys) h) later.0, later.1)

pub map-same : {X Y : Type 0} (f g : X → Y) (xs : List X) → All (λ x. f x ≡ g x) xs → map f xs ≡ map g xs
map-same f g [] h = refl
map-same f g (x ∷ xs) h =
    let first : f x ≡ g x = All-head (λ y. f y ≡ g y) x xs h in
    let others = map-same f g xs (All-tail (λ y. f y ≡ g y) x xs h) in
    cc

-- lists that go in pairs, one behind another
pub AllZip-append : {P Q : Type 0} (R : P → Q → Type 0) (xs more : List P) (ys others : List Q) → AllZip R xs ys → AllZip R more others
    → AllZip R (xs ++ more) (ys ++ others)
AllZip-append R [] more [] others first second = second
AllZip-append R [] more (y ∷ ys) others first second = absurd first
AllZip-append R (x ∷ xs) more [] others first second = absurd first
AllZip-append R (x ∷ xs) more (y ∷ ys) others first second = (first.0, AllZip-append R xs more ys others first.1 second)

-- of two fronts of one list the longer goes on from the other
pub two_fronts : {X : Type 0} (xs ys zs ws : List X) → xs ++ ys ≡ zs ++ ws
    → ((more : List X) × (zs ≡ xs ++ more) × (ys ≡ more ++ ws)) ⊎ ((more : List X) × (xs ≡ zs ++ more) × (ws ≡ more ++ ys))
two_fronts [] ys zs ws same = inl (zs, refl, same)
two_fronts (x ∷ xs) ys [] ws same = inr (x ∷ xs, refl, sym same)
two_fronts (x ∷ xs) ys (z ∷ zs) ws same =
    let first : x ≡ z = cc in
    let rest : xs ++ ys ≡ zs ++ ws = cc in
    elim (two_fronts xs ys zs ws rest) [
      | inl h ↦ inl (h.0, (let later = h.1 in cc), h.2)
      | inr h ↦ inr (h.0, (let later = h.1 in cc), h.2)
    ]

module _ {X : Type 0} (P : X → Type 0) where
  -- an item that passes, where no other does, stands at one place
  pub same_only : (xs ys zs ws : List X) (a b : X) → xs ++ a ∷ ys ≡ zs ++ b ∷ ws → P a → P b
      → All (λ x. P x → ⊥) xs → All (λ x. P x → ⊥) ys → (xs ≡ zs) × (a ≡ b) × (ys ≡ ws)
  same_only [] ys [] ws a b is pa pb before after = (refl, cc, cc)
  same_only [] ys (z ∷ zs) ws a b is pa pb before after =
      let later : zs ++ b ∷ ws ≡ ys = cc in
      absurd (All-contains (λ x. P x → ⊥) ys b after (subst (λ (l : List X). Contains l b) later (Contains-between zs b ws)) pb)
  same_only (x ∷ xs) ys [] ws a b is pa pb before after =
      let first : b ≡ x = cc in
      absurd (All-head (λ y. P y → ⊥) x xs before (subst P first pb))
  same_only (x ∷ xs) ys (z ∷ zs) ws a b is pa pb before after =
      let first : x ≡ z = cc in
      let rest : xs ++ a ∷ ys ≡ zs ++ b ∷ ws = cc in
      let others = same_only xs ys zs ws a b rest pa pb (All-tail (λ y. P y → ⊥) x xs before) after in
      ((let later = others.0 in cc), others.1, others.2)

  -- the first item that passes stands at one place
  pub same_first : (xs ys zs ws : List X) (a b : X) → xs ++ a ∷ ys ≡ zs ++ b ∷ ws → P a → P b
      → All (λ x. P x → ⊥) xs → All (λ x. P x → ⊥) zs → (xs ≡ zs) × (a ≡ b) × (ys ≡ ws)
  same_first [] ys [] ws a b is pa pb before others = (refl, cc, cc)
  same_first [] ys (z ∷ zs) ws a b is pa pb before others =
      let first : a ≡ z = cc in
      absurd (All-head (λ y. P y → ⊥) z zs others (subst P first pa))
  same_first (x ∷ xs) ys [] ws a b is pa pb before others =
      let first : b ≡ x = cc in
      absurd (All-head (λ y. P y → ⊥) x xs before (subst P first pb))
  same_first (x ∷ xs) ys (z ∷ zs) ws a b is pa pb before others =
      let first : x ≡ z = cc in
      let rest : xs ++ a ∷ ys ≡ zs ++ b ∷ ws = cc in
      let later = same_first xs ys zs ws a b rest pa pb (All-tail (λ y. P y → ⊥) x xs before) (All-tail (λ y. P y → ⊥) z zs others) in
      ((let front = later.0 in cc), later.1, later.2)

  -- an item that passes stands behind those that don't
  pub stands_behind : (xs ys zs ws : List X) (y a : X) → xs ++ y ∷ ys ≡ zs ++ a ∷ ws → P a
      → All (λ x. P x → ⊥) xs → (P y → ⊥) → (between : List X) × (ys ≡ between ++ a ∷ ws) × (zs ≡ xs ++ y ∷ between)
  stands_behind [] ys [] ws y a is pa before own = let same : a ≡ y = cc in absurd (own (subst P same pa))
  stands_behind [] ys (z ∷ zs) ws y a is pa before own = (zs, cc, cc)
  stands_behind (x ∷ xs) ys [] ws y a is pa before own =
      let first : a ≡ x = cc in
      absurd (All-head (λ z. P z → ⊥) x xs before (subst P first pa))
  stands_behind (x ∷ xs) ys (z ∷ zs) ws y a is pa before own =
      let first : x ≡ z = cc in
      let rest : xs ++ y ∷ ys ≡ zs ++ a ∷ ws = cc in
      let later = stands_behind xs ys zs ws y a rest pa (All-tail (λ w. P w → ⊥) x xs before) own in
      (later.0, later.1, (let front = later.2 in cc))
