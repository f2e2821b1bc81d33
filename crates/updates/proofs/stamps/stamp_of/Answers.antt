use Rattle.std.proofs.Common.{◌≡◌, [], ◌∷◌, Option, IfSome, List, subst}
use Rattle.oem_labels.specs.Labels.{label_in}
use Rattle.oem_text.specs.Layouts.{texts_of, edges_from, table_of, with_texts}
use Rattle.edge_layers.proofs.EdgeLaws.{edge_same}
use Rattle.updates.specs.Types.{Label, Edge}
use Rattle.updates.proofs.TextLaws.{stamp_is}
use Rattle.updates.proofs.stamps.stamp_of.Goals as goal

pub returns-clause-stamp : goal.returns-clause-stamp
returns-clause-stamp c =
    let text = c.args.label.now in
    let layout = c.args.layout.now in
    let first = c.number.new.self in
    let last = c.edges.new.numbers in
    let named = subst (λ (found : Option Label). IfSome found (λ label. label ≡ label_in (table_of first) text)) c.in-Some-2.is c.in_ok-label.ensures.label in
    let own = subst (λ (found : Option Label). IfSome found (λ _. first ≡ with_texts c.in-Some.numbers (text ∷ []))) c.in-Some-2.is c.in_ok-label.ensures.texts in
    let are = subst (λ (found : Option (List Edge)). IfSome found (λ edges. edges ≡ edges_from 0 (table_of last) layout)) c.in-Some-3.is c.in_ok-edges.ensures.edges in
    let more = subst (λ (found : Option (List Edge)). IfSome found (λ _. last ≡ with_texts first (texts_of layout))) c.in-Some-3.is c.in_ok-edges.ensures.labels in
    stamp_is c.args.labels.now text layout c.in-Some.numbers first last c.in-Some-2.label c.in-Some-3.edges c.sort_set.new.self c.in_ok-texts.texts
    c.in-Some.ensures.some own named more are c.sort_set.ensures.ascend (c.sort_set.ensures.members edge_same) c.in_ok-texts.ensures.texts
