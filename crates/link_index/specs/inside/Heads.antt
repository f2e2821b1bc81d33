-- Children that are listed, and taken out of the list.
use Rattle.std.specs.Prelude.{◌≡◌, ◌<◌, ◌≤◌, ℕ, List, length, slice_index_or}
use Rattle.link_index.specs.Types.{Oid}
use Rattle.link_index.specs.declared.heads.Head.{Head}
use Rattle.link_index.specs.inside.Records.{head_of, AreAscendingHeads, IsListed}

-- the first records of all children are as they were
abbrev pub SameHeads : List Head → List Head → Type 0
SameHeads old new = (x : Oid) → head_of new x ≡ head_of old x

-- the child would stand before what is at the place: those before it are lower, and those from it on higher
pub record IsGap (heads : List Head) (child : Oid) (place : ℕ) : Type 0 where
  pub within : place ≤ length heads
  pub below : (k : ℕ) (d : Head) → k < place → (slice_index_or heads k d).child.0 < child.0
  pub above : (k : ℕ) (d : Head) → place ≤ k → k < length heads → child.0 < (slice_index_or heads k d).child.0

-- the child is listed too, and all else is as it was
pub record IsWithChild (old : List Head) (child : Oid) (new : List Head) : Type 0 where
  pub ascend : AreAscendingHeads new
  pub listed : IsListed new child
  pub kept : (x : Oid) → IsListed old x → IsListed new x
  pub same : SameHeads old new
