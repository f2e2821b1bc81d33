use Rattle.std.proofs.Common.{List, ◌∙◌, map, ap}
use Rattle.std.proofs.lemmas.List.{take_rest}
use Rattle.lore_base.specs.declared.paths.Path.{Path}
use Rattle.lore_base.specs.Paths.{path_tree, seq, trees_of}
use Rattle.lorel_bind.proofs.BindLaws.{bound_rooted}
use Rattle.lorel_bind.proofs.conditions.Binder.path.Goals as goal

pub returns : goal.returns
returns c =
    bound_rooted c.args.self.now c.args.quantified.now c.args.path.now c.place-place.result c.prefix.result c.fixed_len-fixed.result
    c.bound_start.result c.in_ok-rest.rest c.place-place.ensures c.fixed_len-fixed.ensures.fixed c.prefix.ensures.root c.prefix.ensures.parts
    (c.in_ok-rest.ensures
    ∙ ap (λ (parts : List Path). seq (trees_of (map path_tree parts))) (take_rest c.place-place.result.parts.now c.fixed_len-fixed.result))
    c.bound_start.ensures
