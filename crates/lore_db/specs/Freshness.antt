-- Which views a statement leaves fresh: their rows are kept, and are the answer of their select.
use Rattle.std.specs.Prelude.{◌≡◌, ◌⊎◌, ◌↔◌, ℕ, List, Some, Contains}
use Rattle.lorel_trees.specs.Trees.{SelectTree, StatementTree, watch, show}
use Rattle.view_laws.specs.Freshness.{query_in, ConcernsBetween}
use Rattle.lore_db.specs.Types.{Reply, Refused}
use Rattle.lore_db.specs.States.{Kept}

-- the statement answers the select of this view
abbrev pub IsAnswered : StatementTree → List ℕ → Type 0
IsAnswered (watch own query) name = own ≡ name
IsAnswered (show own) name = own ≡ name
IsAnswered statement name = ⊥

abbrev pub IsRefused : Reply → Type 0
IsRefused (Refused refusal) = Unit {0}
IsRefused reply = ⊥

-- a view is fresh behind a statement that answers its select and isn't refused; and where it was fresh before, and what
-- the statement changed doesn't concern it. No other view is
abbrev pub KeepsFresh : Kept → StatementTree → Reply → Kept → Type 0
KeepsFresh before statement reply after =
    (name : List ℕ) (query : SelectTree) → query_in after.state.views name ≡ Some query
    → Contains after.fresh name
    ↔ ((IsAnswered statement name × (¬ IsRefused reply))
    ⊎ (Contains before.fresh name × (¬ ConcernsBetween before.state.db after.state.db query)))
