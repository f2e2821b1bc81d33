-- Laws of histories: moments have one weight, and a moment more adds exactly what the facts weigh that come
-- with it. What two moments differ in is one delta.
use Rattle.std.specs.Prelude.{◌≡◌, ℕ, ◌+◌, ◌<◌, ◌≤◌, List, [], ◌∷◌, ◌++◌, length, All}
use Rattle.lore_base.specs.Databases.{OemGraph}
use Rattle.lore_base.specs.Deltas.{IsDelta}
use Rattle.doem_history.specs.Types.{Delta, MOMENTS}
use Rattle.doem_history.specs.Moments.{Moment, graph_of, IsInOrder, LeadsTo, IsHistoryWeight}
use Rattle.doem_history.specs.Plans.{weight_of_come}

-- moments in order, one at least, and no more than a history may have: a weight is told by runs as a history
-- keeps them, whose ends have a bound
pub record AreMoments (moments : List Moment) : Type 0 where
  pub ordered : All IsInOrder moments
  pub some : 0 < length moments
  pub few : length moments ≤ MOMENTS + 1

abbrev pub HaveOneWeight : Type 0
HaveOneWeight = (moments : List Moment) (w v : ℕ)
    → IsHistoryWeight moments w → IsHistoryWeight moments v → w ≡ v

abbrev pub HaveSomeWeight : Type 0
HaveSomeWeight = (moments : List Moment) → AreMoments moments → (weight : ℕ) × IsHistoryWeight moments weight

abbrev pub AddsWhatComes : Type 0
AddsWhatComes = (earlier : List Moment) (before after : Moment) (delta : Delta) (weight : ℕ)
    → AreMoments (earlier ++ before ∷ []) → LeadsTo before after delta
    → IsHistoryWeight (earlier ++ before ∷ []) weight
    → IsHistoryWeight (earlier ++ before ∷ after ∷ []) (weight + weight_of_come delta)

-- two graphs differ in one delta
abbrev pub HaveOneDelta : Type 0
HaveOneDelta = (before after : OemGraph) (delta other : Delta)
    → IsDelta before after delta → IsDelta before after other → delta ≡ other

-- and moments in order do differ in one
abbrev pub HaveSomeDelta : Type 0
HaveSomeDelta = (before after : Moment) → IsInOrder before → IsInOrder after
    → (delta : Delta) × IsDelta (graph_of before) (graph_of after) delta
