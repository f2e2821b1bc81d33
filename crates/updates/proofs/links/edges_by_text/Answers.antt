use Rattle.std.proofs.Common.{◌≡◌, IfOk, List, subst, ◌∙◌}
use Rattle.updates.specs.Types.{Edge}
use Rattle.updates.proofs.TextLaws.{known_links, unknown_links}
use Rattle.updates.proofs.links.edges_by_text.Goals as goal

pub returns-in-Some : goal.returns-in-Some
returns-in-Some c =
    subst (λ (l : List Edge). IfOk c.edges_of_rows.result (λ edges. edges ≡ l))
    (known_links c.args.labels.now c.in-Some.label c.args.text.now c.args.rows.now c.len-count.ensures.sound.distinct c.in-Some.ensures.found)
    c.edges_of_rows.ensures

pub returns-in-None : goal.returns-in-None
returns-in-None c = c.new.ensures ∙ unknown_links c.args.labels.now c.args.text.now c.args.rows.now c.in-None.ensures.none
