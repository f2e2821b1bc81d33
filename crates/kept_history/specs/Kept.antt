-- The history that is kept of a database, where one is, and the plan of a moment more.
use Rattle.std.specs.Prelude.{◌≡◌, List, [], ◌∷◌, ◌++◌, Option, Some, None, IfSome, MatchOption}
use Rattle.std.specs.Option.{option_map}
use Rattle.lore_base.specs.Databases.{Database}
use Rattle.doem_history.specs.Moments.{Moment, moment_of, IsFull}
use Rattle.doem_history.specs.Histories.{KeptHistory, last_moment, moments_of}
use Rattle.doem_history.specs.Plans.{PlannedMoment, Appends, HasRoom}

-- the present moment: the names, objects and edges of the database
abbrev pub present : Database → Moment
present db = moment_of db.graph.names db.graph.objects db.graph.edges

-- the moments of the history, where one is kept
abbrev pub kept_moments : Option KeptHistory → Option (List Moment)
kept_moments history = option_map moments_of history

-- the last of them is this one
abbrev pub IsLast : Option KeptHistory → Moment → Type 0
IsLast history moment = IfSome history (λ kept. last_moment kept ≡ moment)

-- the plan appends the moment, where a history is kept; where none is, there is no plan
abbrev pub AppendsTo : Option KeptHistory → Option PlannedMoment → Moment → Type 0
AppendsTo (Some history) (Some plan) after = Appends history plan after
AppendsTo None None after = Unit {0}
AppendsTo _ _ after = ⊥

-- and the history keeps the room free that the plan needs
abbrev pub HasRoomForMoment : Option KeptHistory → Option PlannedMoment → Type 0
HasRoomForMoment (Some history) (Some plan) = HasRoom history plan
HasRoomForMoment _ _ = Unit {0}

-- the moments with one more, where a history is kept
abbrev pub moments_then : Option (List Moment) → Moment → Option (List Moment)
moments_then moments after = option_map (λ all. all ++ after ∷ []) moments

-- with one more the history that is kept is full
abbrev pub IsFullWith : Option KeptHistory → Moment → Type 0
IsFullWith history after = MatchOption history ⊥ (λ kept. IsFull (moments_of kept ++ after ∷ []))
