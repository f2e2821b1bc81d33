-- Rows: ordered by their cells, so a select has one answer.
use Rattle.std.proofs.Common.{◌≡◌, List, sym, ap, ◌∙◌}
use Rattle.std.specs.Ordering.{ordering_reverse}
use Rattle.std.specs.declared.cmp.Ordering.TheVariants.{Less, Greater}
use Rattle.lore_base.proofs.ListLaws.{AllPairs-unique}
use Rattle.lorel_bind.specs.Types.{Cell}
use Rattle.lorel_bound.specs.CellOrder.{row_cmp, rows_total}
use Rattle.bind_laws.specs.Laws.{HasOneAnswer}

once : (a b : List Cell) → row_cmp a b ≡ Less → row_cmp b a ≡ Less → ⊥
once a b low high =
    let flip = rows_total.antisymm a b in
    let apart : Less ≡ Greater = sym low ∙ flip ∙ ap ordering_reverse high in
    cc

pub has_one_answer : HasOneAnswer
has_one_answer db query rows other here there =
    AllPairs-unique (λ a b. row_cmp a b ≡ Less) once rows other here.ascending there.ascending
    (λ row. (λ at. (there.exact row).1 ((here.exact row).0 at), λ at. (here.exact row).1 ((there.exact row).0 at)))
