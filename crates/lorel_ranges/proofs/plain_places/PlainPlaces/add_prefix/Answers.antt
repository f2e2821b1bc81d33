use Rattle.std.proofs.Common.{◌∙◌, List, [], ◌∷◌, ◌++◌, ap, arith}
use Rattle.lorel_ranges.specs.declared.places.Place.{Place}
use Rattle.lorel_ranges.proofs.IndexLaws.{prefix_put}
use Rattle.lorel_ranges.proofs.plain_places.PlainPlaces.add_prefix.Goals as goal

pub invariant_of-self-2 : goal.invariant_of-self-2
invariant_of-self-2 c =
    let inside = c.self.inside in
    prefix_put inside.places.items c.push-2.new.self.items c.args.place inside.prefixes.items c.push.new.self.items inside.variables
    c.len-number.result c.self.invariant (omega (arith, c.len-number.ensures, inside.places.ok.0)) c.requires c.in_ok-push.ensures.items
    (c.in_ok-push-2.ensures.items ∙ ap (λ (ps : List Place). ps ++ c.args.place ∷ []) c.reserve.ensures.items)
