-- Links as records that lead to one another by their places.
use Rattle.std.specs.Prelude.{◌≡◌, ◌≢◌, ◌⊎◌, ◌↔◌, ◌<◌, ℕ, Option, Some, None, List, [], ◌∷◌, cond, nat_eq, length, map, slice_index_or, AllPairs, Contains}
use Rattle.std.specs.declared.cmp.Ordering.TheVariants.{Less}
use Rattle.link_index.specs.Types.{Oid}
use Rattle.link_index.specs.declared.link.Link.{Link}
use Rattle.link_index.specs.declared.records.LinkRecord.{LinkRecord}
use Rattle.link_index.specs.declared.heads.Head.{Head}
use Rattle.link_index.specs.inside.LinkEdges.{order}
use Rattle.near_links.specs.Links.{AreAhead, IsBefore, IsPlaceOf, follows}
use Rattle.near_links.specs.Slots.{listed, LiesIn}

-- the link of a record; none where the record is free
abbrev pub link_in : LinkRecord → Option Link
link_in record_ = record_.edge

-- a free record, behind which comes none
abbrev pub nothing : LinkRecord
nothing = record { edge = None; after = None }

-- a free record, behind which comes this one
abbrev pub free_before : Option ℕ → LinkRecord
free_before free = record { edge = None; after = free }

-- the record of a link, behind which comes this one
abbrev pub record_of : Link → Option ℕ → LinkRecord
record_of link after = record { edge = Some link; after = after }

abbrev pub edge_at : List LinkRecord → ℕ → Option Link
edge_at records place = link_in (slice_index_or records place nothing)

abbrev pub after_at : List LinkRecord → ℕ → Option ℕ
after_at records place = (slice_index_or records place nothing).after

abbrev pub LiesAt : List LinkRecord → ℕ → Link → Type 0
LiesAt records place link = LiesIn link_in nothing records place link

abbrev pub HasLink : List LinkRecord → Link → Type 0
HasLink records link = (place : ℕ) × LiesAt records place link

-- the links of the records, in ascending order
abbrev pub links_of : List LinkRecord → List Link
links_of records = listed link_in order records

abbrev pub child_of : Link → Oid
child_of link = link.child

-- both lead to one child, the first before the second
abbrev pub Precedes : Link → Link → Type 0
Precedes a b = (child_of a ≡ child_of b) × (order a b ≡ Less)

-- the first record of a child; none where it isn't listed
abbrev pub head_of : List Head → Oid → Option ℕ
head_of [] child = None
head_of (head ∷ heads) child = cond (nat_eq head.child.0 child.0) head.first (head_of heads child)

abbrev pub AreAscendingHeads : List Head → Type 0
AreAscendingHeads heads = AllPairs (λ a b. a.child.0 < b.child.0) heads

abbrev pub IsListed : List Head → Oid → Type 0
IsListed heads child = Contains (map (λ head. head.child) heads) child

-- the records are linked in a list a child
abbrev pub AreChained : List Head → List LinkRecord → Type 0
AreChained heads records = AreAhead child_of Precedes (LiesAt records) (after_at records) (head_of heads)

-- the place is that of a link before this one, or there is none
abbrev pub IsStart : List LinkRecord → Link → Option ℕ → Type 0
IsStart records link place = IsBefore (LiesAt records) Precedes link place

-- the place is that of the last link before this one
abbrev pub IsPlace : List LinkRecord → Link → Option ℕ → Type 0
IsPlace records link place = IsPlaceOf (LiesAt records) Precedes link place

-- what follows a place in the child's list
abbrev pub next_of : List Head → List LinkRecord → Oid → Option ℕ → Option ℕ
next_of heads records child place = follows (after_at records) (head_of heads) child place

-- the head of one child is set, and all else is as it was
pub record IsHeaded (old : List Head) (child : Oid) (first : Option ℕ) (new : List Head) : Type 0 where
  pub children : map (λ head. head.child) new ≡ map (λ head. head.child) old
  pub ascend : AreAscendingHeads new
  pub head : head_of new child ≡ first
  pub others : (x : Oid) → x ≢ child → head_of new x ≡ head_of old x

-- what follows the place is set, and all else is as it was
pub record IsLed (child : Oid) (place link : Option ℕ) (old_heads : List Head) (old : List LinkRecord)
    (new_heads : List Head) (new : List LinkRecord) : Type 0 where
  pub edges : (k : ℕ) → edge_at new k ≡ edge_at old k
  pub len : length new ≡ length old
  pub children : map (λ head. head.child) new_heads ≡ map (λ head. head.child) old_heads
  pub ascend : AreAscendingHeads new_heads
  pub placed : (p : ℕ) → place ≡ Some p → after_at new p ≡ link
  pub after : (j : ℕ) → place ≢ Some j → after_at new j ≡ after_at old j
  pub head : place ≡ None → head_of new_heads child ≡ link
  pub kept_head : (p : ℕ) → place ≡ Some p → head_of new_heads child ≡ head_of old_heads child
  pub heads : (x : Oid) → x ≢ child → head_of new_heads x ≡ head_of old_heads x

-- a record is written at a place that was free, or behind the others
pub record IsWritten (old : List LinkRecord) (place : ℕ) (record_ : LinkRecord) (new : List LinkRecord) : Type 0 where
  pub vacant : edge_at old place ≡ None
  pub within : place < length new
  pub set : slice_index_or new place nothing ≡ record_
  pub others : (j : ℕ) → j ≢ place → slice_index_or new j nothing ≡ slice_index_or old j nothing

-- the links of these are put at their places; the records of those that were there stay where they are
pub record ArePut (come : List Link) (old : List LinkRecord) (heads : List Head) (new : List LinkRecord) : Type 0 where
  pub ascend : AreAscendingHeads heads
  pub chained : AreChained heads new
  pub links : (link : Link) → HasLink new link ↔ (HasLink old link ⊎ Contains come link)
  pub kept : (k : ℕ) (link : Link) → LiesAt old k link → LiesAt new k link

-- the records of these links are free; the others stay where they are
pub record AreTaken (gone : List Link) (old_heads : List Head) (old : List LinkRecord) (new_heads : List Head)
    (new : List LinkRecord) : Type 0 where
  pub children : map (λ head. head.child) new_heads ≡ map (λ head. head.child) old_heads
  pub len : length new ≡ length old
  pub ascend : AreAscendingHeads new_heads
  pub chained : AreChained new_heads new
  pub links : (link : Link) → HasLink new link ↔ (HasLink old link × (¬ Contains gone link))
  pub kept : (k : ℕ) (link : Link) → LiesAt old k link → (¬ Contains gone link) → LiesAt new k link

-- heads ascend, and the records are linked in a list a child
pub record IsLinked (heads : List Head) (records : List LinkRecord) : Type 0 where
  pub ascend : AreAscendingHeads heads
  pub chained : AreChained heads records
