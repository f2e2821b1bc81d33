use Rattle.std.proofs.Common.{ℕ, sym, subst}
use Rattle.block_rounds.specs.Partitions.{IsNumbered}
use Rattle.block_haste.proofs.starting.beginning.Goals as goal

pub marks_and_lists-requires : goal.marks_and_lists-requires
marks_and_lists-requires c =
    let first = c.args.first in
    subst (λ (n : ℕ). IsNumbered n first.numbers.items first.heads.items) (sym c.requires.numbered.every) c.requires.numbered
