-- The objects that a path reaches, as a list.
use Rattle.std.specs.Prelude.{List, [], ◌∷◌}
use Rattle.lorel_eval.specs.Types.{Oid}
use Rattle.lorel_eval.specs.declared.found.Found.{Found}
use Rattle.lorel_eval.specs.declared.found.Found.TheVariants.{One, Listed}

abbrev pub oids_of : Found → List Oid
oids_of (One oid) = oid ∷ []
oids_of (Listed oids) = oids
