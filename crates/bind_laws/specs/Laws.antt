-- Laws of the query language: bindings, answers and refusals are determined and exist, and neither fusing nor binding
-- changes a row.
use Rattle.std.specs.Prelude.{◌≡◌, ◌⊎◌, ◌↔◌, ℕ, List}
use Rattle.lorel_bind.specs.Types.{Oid, Refusal, Cell}
use Rattle.lore_base.specs.Databases.{Database}
use Rattle.lorel_trees.specs.Trees.{SelectTree}
use Rattle.lorel_ranges.specs.Ranges.{PlacedRange, ArePlain, AreFused, IsUsed}
use Rattle.lorel_bind.specs.Answers.{IsRow, IsRowOver, IsAnswer}
use Rattle.lorel_bind.specs.Refusals.{StartsNowhere, BindCause, bind_order, IsFirst, IsAccepted}
use Rattle.lorel_bound.specs.Bound.{BoundTree}
use Rattle.lorel_bind.specs.Bindings.{IsBinding}
use Rattle.lorel_bound.specs.SlotRows.{IsSlotRow}

-- the valuations of the fused ranges that hold give the rows of the select
abbrev pub FusingKeepsRows : Type 0
FusingKeepsRows = (db : Database) (query : SelectTree) (plain fused : List PlacedRange) → ArePlain query plain
    → AreFused (IsUsed query plain) plain fused
    → (row : List Cell) → IsRow db query row ↔ IsRowOver db query plain fused row

-- a bound select has the rows of the select of the text
abbrev pub BindingKeepsRows : Type 0
BindingKeepsRows = (db : Database) (query : SelectTree) (bound : BoundTree) → IsBinding db.graph.names query bound
    → (row : List Cell) → IsRow db query row ↔ IsSlotRow db bound row

-- a select has one binding over some names
abbrev pub HasOneBinding : Type 0
HasOneBinding = (names : List (List ℕ × Oid)) (query : SelectTree) (bound other : BoundTree)
    → IsBinding names query bound → IsBinding names query other → bound ≡ other

-- and has one where no cause of refusal applies
abbrev pub HasSomeBinding : Type 0
HasSomeBinding = (names : List (List ℕ × Oid)) (query : SelectTree) → IsAccepted names query
    → (bound : BoundTree) × IsBinding names query bound

-- a select has one answer
abbrev pub HasOneAnswer : Type 0
HasOneAnswer = (db : Database) (query : SelectTree) (rows other : List (List Cell))
    → IsAnswer db query rows → IsAnswer db query other → rows ≡ other

-- and has one where each of its paths starts somewhere
abbrev pub HasSomeAnswer : Type 0
HasSomeAnswer = (db : Database) (query : SelectTree)
    → ((start : List ℕ) → StartsNowhere db.graph.names query start → ⊥)
    → (rows : List (List Cell)) × IsAnswer db query rows

-- each select is accepted, or has a first cause of refusal
abbrev pub HasSomeVerdict : Type 0
HasSomeVerdict = (names : List (List ℕ × Oid)) (query : SelectTree)
    → IsAccepted names query ⊎ ((refusal : Refusal) × IsFirst (BindCause names query) bind_order refusal)

-- and not both, nor two of these
abbrev pub HasOneVerdict : Type 0
HasOneVerdict = (names : List (List ℕ × Oid)) (query : SelectTree) (refusal : Refusal)
    → IsFirst (BindCause names query) bind_order refusal
    → (IsAccepted names query → ⊥) × ((other : Refusal) → IsFirst (BindCause names query) bind_order other → refusal ≡ other)
