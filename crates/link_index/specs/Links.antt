-- Link indexes, and what a change of one brings.
use Rattle.std.specs.Prelude.{ℕ, ◌≤◌, List, length}
use Rattle.link_index.specs.Types.{Edge}

-- edges in the order of child, label and parent, and for how many more there is room
pub record RoomyLinks : Type 0 where
  pub links : List Edge
  pub room : ℕ

-- edges that go and edges that come, both in the order of child, label and parent
pub record PlannedLinks : Type 0 where
  pub gone : List Edge
  pub come : List Edge

-- the index keeps the room free that the change needs
abbrev pub HasRoom : RoomyLinks → PlannedLinks → Type 0
HasRoom kept plan = length plan.come ≤ kept.room
