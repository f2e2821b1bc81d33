use Rattle.std.proofs.Common.{refl, sym}
use Rattle.std.proofs.lemmas.List.{take-map}
use Rattle.lore_base.specs.Paths.{path_tree}
use Rattle.lorel_ranges.proofs.PlaceLaws.{place_from}
use Rattle.lorel_ranges.proofs.places.Place.prefix.Goals as goal

pub returns-clause-place : goal.returns-clause-place
returns-clause-place c = place_from _ _ refl (sym (take-map path_tree c.args.len c.args.self.parts.now))
