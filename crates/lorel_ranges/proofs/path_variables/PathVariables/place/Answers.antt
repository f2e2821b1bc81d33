use Rattle.std.proofs.Common.{◌∙◌, ap}
use Rattle.std.specs.Option.{option_map}
use Rattle.lorel_ranges.specs.Places.{word_place}
use Rattle.lorel_ranges.specs.Views.{place_tree}
use Rattle.lorel_ranges.specs.inside.Scopes.{places_found}
use Rattle.lorel_ranges.proofs.PathVariableLaws.{placed-by_reference}
use Rattle.lorel_ranges.proofs.path_variables.PathVariables.place.Goals as goal

pub returns : goal.returns
returns c =
    ap (option_map place_tree) (c.copied.ensures ∙ c.get.ensures.value) ∙ placed-by_reference c.args.self.now.places.entries c.as_bytes.result.now
    ∙ ap (word_place (places_found c.args.self.now)) c.as_bytes.ensures
