use Rattle.std.proofs.Common.{length, ap, ◌∙◌, false}
use Rattle.std.proofs.lemmas.List.{length-replicate}
use Rattle.object_search.proofs.LowerParentLaws.{none_noted}
use Rattle.object_search.proofs.lower_parents.noted_as_led.Goals as goal

pub returns-clause-count : goal.returns-clause-count
returns-clause-count c =
    c.note_children.ensures.count ∙ c.note_starts.ensures.count ∙ ap length (c.in_ok-noted.ensures.items_if_clones_equal (λ y same. same))
    ∙ length-replicate c.args.count false

pub returns-clause-led : goal.returns-clause-led
returns-clause-led c =
    c.note_children.ensures.led c.args.starts.now
    (c.note_starts.ensures.led (none_noted c.args.starts.now c.args.edges.now c.args.first.0 c.args.count c.in_ok-noted.noted.items
    (c.in_ok-noted.ensures.items_if_clones_equal (λ y same. same))))
