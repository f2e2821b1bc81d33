use Rattle.std.proofs.Common.{take, map, subst, sym}
use Rattle.std.proofs.lemmas.List.{take_all}
use Rattle.list_laws.proofs.PartLaws.{map_more_read}
use Rattle.lorel_trees.specs.Trees.{from_tree}
use Rattle.lorel_ranges.specs.Places.{path_variables}
use Rattle.lorel_ranges.specs.inside.Scopes.{FindAlike, places_found}
use Rattle.lorel_ranges.proofs.PathVariableLaws.{alike_more}
use Rattle.lorel_ranges.proofs.path_variables.PathVariables.from_items.Goals as goal

pub items-preserved : goal.items-preserved
items-preserved c =
    subst (λ l. FindAlike (places_found c.add_item.new.self) (path_variables l))
    (sym (map_more_read from_tree c.args.items.now c.items.item-index c.item-item.result c.items-test.true c.item-item.is))
    (alike_more (map from_tree (take c.items.item-index c.args.items.now)) (from_tree c.item-item.result) (places_found c.items.variables) (places_found c.add_item.new.self)
    c.items.invariant c.in_ok-add_item.ensures)

pub returns : goal.returns
returns c =
    subst (λ l. FindAlike (places_found c.items.variables) (path_variables (map from_tree l))) (take_all c.items.item-index c.args.items.now c.items-test.false) c.items.invariant
