use Rattle.std.proofs.Common.{List, refl, sym, subst, ◌∙◌, arith}
use Rattle.std.proofs.lemmas.List.{take_all}
use Rattle.std.proofs.lemmas.Bool.{false≢true}
use Rattle.index_traits.specs.Entries.{AreAscendingEntries}
use Rattle.value_index.specs.Types.{ValueEntry}
use Rattle.value_index.proofs.FoundLaws.{counts_more, counts_same, counts_all}
use Rattle.value_index.proofs.naive_values.NaiveValuesValues.probe_count.Goals as goal
use Rattle.value_index.proofs.naive_values.NaiveValuesValues.probe_count.Goals.{then-is_match, else-is_match}

pub entries-preserved : goal.entries-preserved
entries-preserved c =
    let ascend = subst (λ (l : List ValueEntry). AreAscendingEntries l) (sym c.as_slice-entry-items.ensures) c.self.invariant.ascend in
    elim c.if-is_match.branch [
      | then-is_match w ↦
          counts_more _ _ _ _ ascend _ _ c.entries-test.true c.entry-item.is (w.if-is_match.ensures.0 refl) _ _ c.entries.invariant w.count-is
      | else-is_match w ↦
          counts_same _ _ _ _ ascend _ _ c.entries-test.true c.entry-item.is (λ match. false≢true (w.if-is_match.ensures.1 match)) _ _ c.entries.invariant w.count-is
    ]

pub returns : goal.returns
returns c =
    let whole = take_all c.entries.entry-index c.as_slice-entry-items.result.now (omega arith) in
    counts_all _ _ _ _ _ (whole ∙ c.as_slice-entry-items.ensures ∙ c.self.view_is) _ c.entries.invariant
