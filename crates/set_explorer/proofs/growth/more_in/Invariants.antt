use Rattle.std.proofs.Common.{◌↔◌, ◌⊎◌, ◌≤◌, Contains, length, take}
use Rattle.set_explorer.specs.Types.{Oid}
use Rattle.set_explorer.specs.Touched.{Meet}
use Rattle.set_explorer.proofs.growth.more_in.Given as goal

abbrev pub invariant-oids : goal.invariant-oids
invariant-oids l = record {
  within : l.next ≤ length l.others;
  apart : ¬ Meet (take l.next l.others) l.more;
  parts : (oid : Oid) → Contains (take l.oid-index l.fn.oids) oid ↔ (Contains (take l.next l.others) oid ⊎ Contains l.more oid);
}
