-- The facts of runs that hold a moment.
use Rattle.std.specs.Prelude.{ℕ, Bool, ◌&&◌, nat_le, nat_lt, List, map, filter}
use Rattle.doem_facts.specs.Types.{Run}

-- the run holds the moment; one that goes on holds each moment that is to come
abbrev pub holds : {F : Type 0} → ℕ → Run F → Bool
holds moment run = nat_le run.begin moment && nat_lt moment run.end

-- the facts of the runs that hold the moment
abbrev pub facts_at : {F : Type 0} → ℕ → List (Run F) → List F
facts_at moment runs = map (λ run. run.fact) (filter (holds moment) runs)
