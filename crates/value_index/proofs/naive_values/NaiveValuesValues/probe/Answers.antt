use Rattle.std.proofs.Common.{List, refl, sym, subst, ◌∙◌}
use Rattle.std.proofs.lemmas.Bool.{false≢true}
use Rattle.index_traits.specs.Entries.{AreAscendingEntries}
use Rattle.value_index.specs.Types.{ValueEntry}
use Rattle.value_index.proofs.FoundLaws.{extends_more, extends_same}
use Rattle.value_index.proofs.naive_values.NaiveValuesValues.probe.Goals as goal
use Rattle.value_index.proofs.naive_values.NaiveValuesValues.probe.Goals.{then-is_match+in_ok-push, else-is_match}

pub entries-preserved : goal.entries-preserved
entries-preserved c =
    let ascend = subst (λ (l : List ValueEntry). AreAscendingEntries l) (sym c.as_slice-entry-items.ensures) c.self.invariant.ascend in
    elim c.if-is_match.branch [
      | then-is_match+in_ok-push w ↦
          extends_more _ _ _ _ ascend _ _ c.entries-test.true c.entry-item.is (w.if-is_match.ensures.0 refl)
          _ _ _ c.entries.invariant (w.buf-is ∙ w.in_ok-push.ensures.ok)
      | else-is_match w ↦
          extends_same _ _ _ _ ascend _ _ c.entries-test.true c.entry-item.is (λ match. false≢true (w.if-is_match.ensures.1 match)) _ _ _ c.entries.invariant w.buf-is
    ]
