use Rattle.std.proofs.Common.{◌≡◌, [], ◌∷◌, ◌++◌, length, map, take}
use Rattle.std.specs.Map.{keys_of}
use Rattle.set_explorer.specs.Types.{Fresh}
use Rattle.set_explorer.proofs.explore.name_targets.Given as goal

abbrev pub invariant-names : goal.invariant-names
invariant-names l = record {
  names : keys_of l.targets.items ++ l.text-iterator.rest.items ≡ keys_of l.names;
  sets : map (λ target. target.1) l.targets.items
      ≡ map (λ oid. Fresh (oid ∷ [])) (take (length l.targets.items) l.oids);
}
