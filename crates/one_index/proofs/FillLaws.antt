-- Blocks filled with what was gathered for them, one after another.
use Rattle.std.proofs.Common.{◌≡◌, ◌↔◌, ℕ, zero, suc, ◌+◌, ◌<◌, ◌&&◌, nat_eq, true, inl, inr, Some, List, [], ◌∷◌, ◌++◌, length, get_or, refl, sym, ap, ◌∙◌, subst, arith, length-append}
use Rattle.std.specs.List.{All, Contains, slice_get}
use Rattle.std.specs.Prelude.{slice_index, slice_index_or}
use Rattle.std.proofs.lemmas.Option.{none-some, slice_get_within, slice_get-get_or}
use Rattle.list_laws.proofs.MemberLaws.{All-from_members}
use Rattle.list_laws.proofs.PlaceLaws.{slice_get-push_cases}
use Rattle.block_rounds.proofs.SignatureLaws.{same_number, left, right}
use Rattle.block_rounds.specs.Gathered.{AreGathered}
use Rattle.block_rounds.proofs.GatherLaws.{gathered_members}
use Rattle.one_index.specs.Types.{Oid, Label, Edge, Block}
use Rattle.one_index.specs.Blocks.{IsMember, HasEdge, IsOrderedBlock}
use Rattle.one_index.specs.inside.Places.{IsAt}
use Rattle.one_index.specs.inside.Linked.{IsEdgeAt, AreLinks}
use Rattle.one_index.specs.inside.Filled.{IsFilled, AreFilled}

-- something stands at each place below the length
pub some_at : {X : Type 0} (xs : List X) (k : ℕ) → k < length xs → (x : X) × (slice_get xs k ≡ Some x)
some_at [] k below = absurd (omega (arith, below))
some_at (x ∷ xs) zero below = (x, refl)
some_at (x ∷ xs) (suc k) below = some_at xs k (omega (arith, below))

module _ (members : List (List Oid)) (edges : List (List (Label × ℕ))) where
  pub AreFilled-none : AreFilled 0 members edges []
  AreFilled-none = record { every = refl; each = λ number block at. absurd (none-some block at) }

  pub AreFilled-more : (count : ℕ) (blocks pushed : List Block) (block : Block) → pushed ≡ blocks ++ block ∷ []
      → IsFilled (slice_index_or members count []) (slice_index_or edges count []) block → AreFilled count members edges blocks
      → AreFilled (count + 1) members edges pushed
  AreFilled-more count blocks pushed block pushes filled before = record {
    every = omega (arith, ap length pushes, length-append blocks (block ∷ []), before.every);
    each = λ number other at.
        elim (slice_get-push_cases blocks block number other (ap (λ (l : List Block). slice_get l number) (sym pushes) ∙ at)) [
          | inl earlier ↦ before.each number other earlier
          | inr last ↦
              let here : count ≡ number = sym before.every ∙ sym last.0 in
              subst (λ (k : ℕ). IsFilled (slice_index_or members k []) (slice_index_or edges k []) other) here
              (subst (λ (b : Block). IsFilled (slice_index_or members count []) (slice_index_or edges count []) b) last.1 filled)
        ];
  }

-- facts of slices are facts of the lists that they show
pub AreFilled-shown : (shown members : List (List Oid)) (listed rows : List (List (Label × ℕ))) (blocks : List Block) (count : ℕ)
    → shown ≡ members → listed ≡ rows → length members ≡ count → AreFilled (length shown) shown listed blocks
    → AreFilled count members rows blocks
AreFilled-shown shown members listed rows blocks count first second every filled =
    subst (λ (n : ℕ). AreFilled n members rows blocks) every
    (subst (λ (r : List (List (Label × ℕ))). AreFilled (length members) members r blocks) second
    (subst (λ (m : List (List Oid)). AreFilled (length m) m listed blocks) first filled))

-- edges that the test takes for equal are one
pub same_pair : (a b : Label × ℕ) → (nat_eq a.0.0 b.0.0 && nat_eq a.1 b.1) ≡ true → a ≡ b
same_pair a b same = λ i. (
  record { 0 = same_number a.0.0 b.0.0 (left (nat_eq a.0.0 b.0.0) (nat_eq a.1 b.1) same) i },
  same_number a.1 b.1 (right (nat_eq a.0.0 b.0.0) (nat_eq a.1 b.1) same) i,
)

-- numbers at places are below the count
module _ (objects : List Oid) (numbers : List ℕ) (count : ℕ) (numbered : All (λ number. number < count) numbers)
    (paired : length numbers ≡ length objects) where
  number_low : (number : ℕ) (x : Oid) → IsAt objects numbers x number → number < count
  number_low number x at =
      let within : at.0 < length numbers = omega (arith, slice_get_within objects at.0 x at.1, paired) in
      let low : slice_index numbers at.0 < count = numbered at.0 0 within in
      omega (arith, low, at.2)

  pub pairs_low : (pairs : List (ℕ × Oid)) → ((number : ℕ) (x : Oid) → Contains pairs (number, x) ↔ IsAt objects numbers x number)
      → All (λ pair. pair.0 < count) pairs
  pairs_low pairs are = All-from_members (λ pair. pair.0 < count) pairs (λ pair at. number_low pair.0 pair.1 ((are pair.0 pair.1).0 at))

  pub links_low : (edges : List Edge) (links : List (ℕ × (Label × ℕ))) → AreLinks edges objects numbers links
      → All (λ link. link.0 < count) links
  links_low edges links are = All-from_members (λ link. link.0 < count) links (λ link at.
      let is = (are link).0 at in
      number_low link.0 is.edge.parent is.parent)

module _ (objects : List Oid) (numbers : List ℕ) (count : ℕ) (members : List (List Oid)) (rows : List (List (Label × ℕ)))
    (blocks : List Block) (numbered : All (λ number. number < count) numbers) (paired : length numbers ≡ length objects)
    (filled : AreFilled count members rows blocks) where
  block_at : (number : ℕ) (x : Oid) → IsAt objects numbers x number → (block : Block) × (slice_get blocks number ≡ Some block)
  block_at number x at =
      some_at blocks number (omega (arith, number_low objects numbers count numbered paired number x at, filled.every))

  pub members-told : (pairs : List (ℕ × Oid)) → AreGathered pairs members
      → ((number : ℕ) (x : Oid) → Contains pairs (number, x) ↔ IsAt objects numbers x number)
      → (number : ℕ) (x : Oid) → IsMember blocks number x ↔ IsAt objects numbers x number
  members-told pairs gathered are number x = (
    λ member.
        let own = (filled.each number member.0 member.1).members in
        (are number x).0 ((gathered_members pairs members gathered number x).0 ((own.exact x).0 member.2)),
    λ at.
        let block = block_at number x at in
        let own = (filled.each number block.0 block.1).members in
        (block.0, block.1, (own.exact x).1 ((gathered_members pairs members gathered number x).1 ((are number x).1 at))),
  )

  pub edges-told : (edges : List Edge) (links : List (ℕ × (Label × ℕ))) → AreGathered links rows
      → AreLinks edges objects numbers links
      → (from : ℕ) (label : Label) (to : ℕ) → HasEdge blocks from label to ↔ IsEdgeAt edges objects numbers from label to
  edges-told edges links gathered are from label to = (
    λ edge.
        let own = (filled.each from edge.0 edge.1).edges_in_order in
        (are (from, (label, to))).0 ((gathered_members links rows gathered from (label, to)).0 ((own.exact (label, to)).0 edge.2)),
    λ is.
        let block = block_at from is.edge.parent is.parent in
        let own = (filled.each from block.0 block.1).edges_in_order in
        (block.0, block.1, (own.exact (label, to)).1 ((gathered_members links rows gathered from (label, to)).1 ((are (from, (label, to))).1 is))),
  )

  pub ordered-told : All IsOrderedBlock blocks
  ordered-told k d below =
      let own = filled.each k (get_or blocks k d) (slice_get-get_or blocks k d below) in
      record { members = own.members.ascending; edges = own.edges_in_order.ascend }
