use Rattle.std.proofs.Common.{[], ◌∙◌, subst, ap}
use Rattle.std.specs.List.{AllZip}
use Rattle.lorel_trees.specs.Trees.{select_tree}
use Rattle.lorel_ranges.specs.Places.{scope_of}
use Rattle.lorel_ranges.specs.Views.{shown_trees, ranges_of}
use Rattle.lorel_bind.specs.inside.Slots.{BindsCell}
use Rattle.lorel_bind.proofs.ReadyLaws.{ready_bound}
use Rattle.lorel_bind.proofs.binding.bound_select.Goals as goal

pub returns : goal.returns
returns c =
    let query = select_tree c.args.query.now in
    let names = c.args.slots.now.names.now in
    let fused = ranges_of c.args.slots.now.fused.items in
    let text = c.requires.text in
    let ready = c.requires.ready in
    ready_bound names query ready.ranges fused _ ready.made ready.fuses c.requires.somewhere
    c.in_ok-ranges.ensures
    (subst (λ cells. AllZip (BindsCell names fused) cells c.in_ok-cells.cells) (ap shown_trees c.as_slice.ensures.value ∙ text.items.cells) c.in_ok-cells.ensures)
    (c.in_ok-cond.ensures ready.ranges (scope_of [] query.tail.ranges) (record { known = text.from.scope; places = ready.places }))
