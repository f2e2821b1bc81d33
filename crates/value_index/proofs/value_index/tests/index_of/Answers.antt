use Rattle.std.proofs.Common.{[], List, sym, subst}
use Rattle.value_index.specs.Types.{ValueEntry}
use Rattle.value_index.specs.Values.{FitsEntries}
use Rattle.value_index.proofs.value_index.tests.index_of.Goals as goal

pub change-requires : goal.change-requires
change-requires c = record {
  fits = subst (λ (l : List ValueEntry). FitsEntries l c.new-gone.result c.args.come) (sym c.new-index.ensures)
      (subst (λ (l : List ValueEntry). FitsEntries [] l c.args.come) (sym c.new-gone.ensures) c.requires.fits);
}
