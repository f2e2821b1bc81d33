-- What leads from the facts of one moment to those of the next.
use Rattle.std.specs.Prelude.{◌⊎◌, ◌↔◌, List, Contains}
use Rattle.std.specs.declared.cmp.Ordering.{Ordering}
use Rattle.lore_base.specs.Walks.{edge_cmp}
use Rattle.doem_history.specs.Types.{Delta}
use Rattle.doem_history.specs.Facts.{name_order, object_order}
use Rattle.doem_history.specs.Moments.{Moment}
use Rattle.doem_history.specs.inside.Kept.{Ascends}

-- the facts that go stood before, those that come didn't, and what stands after is what came or stood before
-- and didn't go
pub record Leads {F : Type 0} (cmp : F → F → Ordering) (before gone come after : List F) : Type 0 where
  pub gone_stood : (fact : F) → Contains gone fact → Contains before fact
  pub come_new : (fact : F) → Contains come fact → ¬ Contains before fact
  pub exact : (fact : F) → Contains after fact
      ↔ (Contains come fact ⊎ (Contains before fact × (¬ Contains gone fact)))
  pub after_ascends : Ascends cmp after
  pub gone_ascends : Ascends cmp gone
  pub come_ascends : Ascends cmp come

-- the same of each kind of fact
pub record LeadsOn (before after : Moment) (delta : Delta) : Type 0 where
  pub names : Leads name_order before.names delta.names_gone delta.names_come after.names
  pub objects : Leads object_order before.objects delta.objects_gone delta.objects_come after.objects
  pub edges : Leads edge_cmp before.edges delta.edges_gone delta.edges_come after.edges
