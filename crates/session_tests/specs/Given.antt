-- A change of one value.
use Rattle.std.specs.Prelude.{ℤ, [], ◌∷◌}
use Rattle.lore_base.specs.declared.edges.Oid.{Oid}
use Rattle.lore_base.specs.declared.values.Value.TheVariants.{Whole}
use Rattle.lore_base.specs.declared.change_set.Changes.{Changes}

-- the changes that give the object a number, and do nothing else
abbrev pub giving : Oid → ℤ → Changes
giving oid number = record {
  made = [];
  values = (oid, Whole number) ∷ [];
  added = [];
  removed = [];
  named = [];
  unnamed = [];
  labels = [];
}
