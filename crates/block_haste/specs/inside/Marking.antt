-- Marks of nodes by what entered them anew.
use Rattle.std.specs.Prelude.{◌≡◌, ◌≢◌, ◌↔◌, ◌⊎◌, ℕ, ◌+◌, ◌*◌, ◌%◌, ◌^◌, ◌<◌, Bool, cond, nat_eq, nat_lt}
use Rattle.std.specs.Prelude.{count_by, List, [], length, map, filter, fold, slice_index, slice_index_or}
use Rattle.std.specs.Prelude.{Option, None, Some, Contains, All}
use Rattle.block_haste.specs.inside.Tallies.{Key, key_eq}
use Rattle.std.specs.Ordering.{nat_cmp, ordering_then}
use Rattle.std.specs.declared.cmp.Ordering.{Ordering}
use Rattle.block_rounds.specs.Partitions.{Enters}

-- a change that enters a node: the label, the tag that the parent had and the number that it has
abbrev pub Change : Type 0
Change = ℕ × ℕ × ℕ

-- one step of the hash
unfoldable pub mix_one : ℕ → ℕ → ℕ
mix_one hash number = (hash * 6_364_136_223_846_793_005 % 2 ^ 64 + number) % 2 ^ 64

-- what a hash starts with: the mark that is there, if there is one
abbrev pub mark_start : Option ℕ → ℕ
mark_start None = 1
mark_start (Some mark) = mark

-- a mark with one more change, and whether an edge from the old tag is still there
unfoldable pub mix : Option ℕ → Change → Bool → ℕ
mix mark change still =
    mix_one (mix_one (mix_one (mix_one (mark_start mark) change.0) change.1) change.2) (cond still 1 0)

-- whether the key stands in the list
abbrev pub stands : List Key → Key → Bool
stands keys key = nat_lt 0 (count_by (key_eq key) keys)

-- the changes that enter the node
abbrev pub changes_of : ℕ → List (ℕ × Change) → List Change
changes_of node events = map (λ event. event.1) (filter (λ event. nat_eq event.0 node) events)

-- the mark of a node
abbrev pub mark_by : (Key → Bool) → ℕ → List (ℕ × Change) → Option ℕ
mark_by still node events =
    fold (λ mark change. Some (mix mark change (still (node, change.0, change.1)))) None
    (changes_of node events)

-- each node has its mark
abbrev pub AreMarkedBy : (Key → Bool) → List (ℕ × Change) → List (Option ℕ) → Type 0
AreMarkedBy still events marks = (node : ℕ) → node < length marks
    → slice_index_or marks node None ≡ mark_by still node events

-- the events: what entered nodes from parents whose numbers aren't their tags
pub record AreEvents (rows : List (List (ℕ × ℕ))) (tags numbers : List ℕ) (events : List (ℕ × Change))
    : Type 0 where
  pub sound : (node label tag number : ℕ) → Contains events (node, (label, tag, number))
      → (parent : ℕ) × Enters rows parent label node × (slice_index tags parent ≡ tag)
      × (slice_index numbers parent ≡ number) × (tag ≢ number)
  pub complete : (node label parent : ℕ) → Enters rows parent label node
      → slice_index tags parent ≢ slice_index numbers parent
      → Contains events (node, (label, slice_index tags parent, slice_index numbers parent))

-- the edges of the graph as one list of parents, labels and nodes
abbrev pub AreEdgesOf : List (List (ℕ × ℕ)) → List (ℕ × ℕ × ℕ) → Type 0
AreEdgesOf rows edges = (parent label node : ℕ)
    → Contains edges (parent, label, node) ↔ Enters rows parent label node

-- the edges as they are counted under tags
abbrev pub keys_of : List (ℕ × ℕ × ℕ) → List ℕ → List Key
keys_of edges tags = map (λ edge. (edge.2, edge.1, slice_index tags edge.0)) edges

-- changes in order
abbrev pub change_cmp : Change → Change → Ordering
change_cmp a b = ordering_then (ordering_then (nat_cmp a.0 b.0) (nat_cmp a.1 b.1)) (nat_cmp a.2 b.2)
