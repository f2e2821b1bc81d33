use Rattle.std.proofs.Common.{◌≡◌, ◌++◌, map}
use Rattle.lore_base.proofs.name_table.Names.objects.Given as goal

abbrev pub invariant-names : goal.invariant-names
invariant-names l = l.oids ++ map (λ entry. entry.1) l.oid-iterator ≡ map (λ entry. entry.1) l.fn.self
