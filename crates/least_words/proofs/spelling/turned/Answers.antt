use Rattle.std.proofs.Common.{◌-◌, [], ◌∷◌, ◌++◌, List, length, take, reverse, get_or, sym, ap, ◌∙◌, arith}
use Rattle.std.proofs.lemmas.List.{take_more, get_or-reverse, length-reverse}
use Rattle.least_words.specs.Types.{Label}
use Rattle.least_words.proofs.spelling.turned.Goals as goal

pub labels-preserved : goal.labels-preserved
labels-preserved c =
    let labels = c.args.labels.now in
    let k = c.labels.place in
    let first : Label = record { 0 = 0 } in
    let label : Label = get_or labels (length labels - 1 - k) first in
    c.in_ok-push.ensures.ok
    ∙ ap (λ (l : List Label). l ++ label ∷ []) c.labels.invariant
    ∙ ap (λ (l : Label). take k (reverse labels) ++ l ∷ []) (sym (get_or-reverse labels k first c.labels-test.true))
    ∙ sym (take_more (reverse labels) k first (omega (arith, c.labels-test.true, length-reverse labels)))
