-- Runs of entries: those of a label whose value stands so to a given one.
use Rattle.std.specs.Prelude.{◌≢◌, ◌↔◌, cond, List, [], AllPairs, Contains, filter, map}
use Rattle.std.specs.Ordering.{nat_cmp, ordering_then, is_eq}
use Rattle.std.specs.declared.cmp.Ordering.{Ordering}
use Rattle.std.specs.declared.cmp.Ordering.TheVariants.{Less, Equal, Greater}
use Rattle.value_index.specs.Types.{Oid, Label, Value, Op, Lt, Le, Gt, Ge, Entry, Kind}
use Rattle.value_orders.specs.Kinds.{is_sought, value_cmp}
use Rattle.value_orders.specs.Held.{held}

-- on which side of the values that the operator admits one stands that compares so: `Less` before them, `Equal`
-- among them, `Greater` behind them
abbrev pub side_of : Op → Ordering → Ordering
side_of Lt Less = Equal
side_of Lt order = Greater
side_of Le Greater = Greater
side_of Le order = Equal
side_of Gt Greater = Equal
side_of Gt order = Less
side_of Ge Less = Less
side_of Ge order = Equal
side_of op order = order

-- on which side of the run of the label, the operator and the value the entry stands
abbrev pub side_in : List (Oid × Value) → Kind → Label → Op → Value → Entry → Ordering
side_in values kind label op value entry =
    ordering_then (nat_cmp entry.label.0 label.0)
    (side_of op (value_cmp kind (held values entry.object) value))

-- the run of the label, the operator and the value
abbrev pub run_in : List (Oid × Value) → Kind → Label → Op → Value → List Entry → List Entry
run_in values kind label op value entries =
    filter (λ entry. is_eq (side_in values kind label op value entry)) entries

-- the same where values of the kind are compared with this one, and else nothing
abbrev pub run_at : List (Oid × Value) → Kind → Label → Op → Value → List Entry → List Entry
run_at values kind label op value entries =
    cond (is_sought kind value) (run_in values kind label op value entries) []

-- the list holds each object once that passes
pub record ListsOnce (P : Oid → Type 0) (oids : List Oid) : Type 0 where
  pub once : AllPairs (λ a b. a ≢ b) oids
  pub exact : (oid : Oid) → Contains oids oid ↔ P oid

-- the objects of a run
abbrev pub objects_in : List Entry → List Oid
objects_in run = map (λ entry. entry.object) run
