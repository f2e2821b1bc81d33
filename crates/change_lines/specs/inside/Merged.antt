-- Facts that go and facts that come, as one list.
use Rattle.std.specs.Prelude.{◌↔◌, List, AllPairs, Contains}
use Rattle.std.specs.declared.cmp.Ordering.{Ordering}
use Rattle.change_lines.specs.Changes.{Change, gone, come, Precedes}

-- these go and these come, in order
pub record AreMerged {F : Type 0} (order : F → F → Ordering) (going coming : List F) (changes : List (Change F)) : Type 0 where
  pub goes : (fact : F) → Contains changes (gone fact) ↔ Contains going fact
  pub comes : (fact : F) → Contains changes (come fact) ↔ Contains coming fact
  pub ascend : AllPairs (Precedes order) changes
