use Rattle.std.proofs.Common.{◌≡◌, ◌≤◌, ◌++◌, ℕ, List, length}
use Rattle.lore_base.specs.Types.{Oid}
use Rattle.lore_base.proofs.name_table.Names.get.Given as goal

pub record Passes (all rest : List (List ℕ × Oid)) (before place : ℕ) : Type 0 where
  pub passed : List (List ℕ × Oid)
  pub whole : passed ++ rest ≡ all
  pub many : length passed ≡ before
  pub early : before ≤ place

abbrev pub invariant-names : goal.invariant-names
invariant-names l = Passes l.fn.self l.name-iterator l.before l.fn.place
