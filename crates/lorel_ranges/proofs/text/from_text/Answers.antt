use Rattle.std.proofs.Common.{◌++◌, ◌∙◌, take, map, subst, sym, ap}
use Rattle.list_laws.proofs.PartLaws.{map_more_read}
use Rattle.lorel_trees.specs.Trees.{from_tree}
use Rattle.lorel_ranges.specs.Texts.{item_variables}
use Rattle.lorel_ranges.specs.Readings.{ReadsFrom}
use Rattle.lorel_ranges.proofs.TextLaws.{ReadsFrom-push}
use Rattle.lorel_ranges.proofs.text.from_text.Goals as goal

pub items-preserved : goal.items-preserved
items-preserved c =
    let at = c.index-items-number in
    let item = from_tree at.result in
    let places = c.in_ok-note-2.ensures.places ∙ c.in_ok-note.ensures.places ∙ c.in_ok-push.ensures.items in
    let ranged = c.in_ok-note-2.ensures.ranged ∙ ap (λ l. l ++ item_variables item.variable) c.in_ok-note.ensures.ranged in
    subst (λ l. ReadsFrom l c.note-in-items.new.self c.add_first.new.self) (sym (map_more_read from_tree c.args.items.now c.items.number at.result c.items-test.true at.is))
    (ReadsFrom-push (map from_tree (take c.items.number c.args.items.now)) item c.items.number c.items.found c.note-in-items.new.self c.place.result
    c.items.variables c.add_first.new.self c.items.invariant c.place.ensures places ranged c.in_ok-add_first.ensures)
