use Rattle.std.proofs.Common.{ℕ, below_more, get_or, true≢false, sym, ◌∙◌, subst}
use Rattle.std.proofs.lemmas.List.{get_or_default}
use Rattle.lore_base.specs.declared.paths.Path.{Path}
use Rattle.product_walk.specs.inside.Ways.{IsLabel}
use Rattle.product_walk.proofs.label_paths.are_labels.Goals as goal

pub returns-then-not-is_label : goal.returns-then-not-is_label
returns-then-not-is_label c = (
  λ yes. absurd (true≢false (sym yes)),
  λ labels.
      let label = subst IsLabel (sym c.path-item.is) (labels c.paths.path-index c.path-item.result c.paths-test.true) in
      sym c.if-not-is_label.true ∙ c.is_label.ensures.1 label,
)

pub paths-preserved : goal.paths-preserved
paths-preserved c =
    let paths = c.args.paths.now in
    let Labels : ℕ → Type 0 = λ k. (other : Path) → IsLabel (get_or paths k other) in
    let here : Labels c.paths.path-index = λ other.
    subst IsLabel (c.path-item.is ∙ get_or_default paths c.paths.path-index c.path-item.result other c.paths-test.true) (c.is_label.ensures.0 c.if-not-is_label.false) in
    let all = below_more Labels c.paths.path-index (λ k below other. c.paths.invariant k other below) here in
    λ k other below. all k below other
