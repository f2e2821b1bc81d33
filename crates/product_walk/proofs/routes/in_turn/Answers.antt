use Rattle.std.proofs.Common.{arith}
use Rattle.product_walk.proofs.WayLaws.{label_leaves}
use Rattle.product_walk.proofs.routes.in_turn.Goals as goal

pub returns-then-are_labels : goal.returns-then-are_labels
returns-then-are_labels c =
    let labels = c.are_labels.ensures.0 c.if-are_labels.true in
    (λ texts word. (λ h. h, λ h. h), labels, c.requires.two, omega (arith, c.requires.leaves, label_leaves c.args.parts.now labels))
