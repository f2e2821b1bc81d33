use Rattle.std.proofs.Common.{◌≡◌, ◌+◌, Less, inl, inr, refl, arith}
use Rattle.std.proofs.lemmas.Bool.{cases_lt}
use Rattle.set_steps.specs.Types.{Oid, Label}
use Rattle.set_steps.specs.inside.Arcs.{arc_cmp}
use Rattle.set_steps.proofs.ArcLaws.{ascend-from_next}
use Rattle.set_steps.proofs.PairLaws.{next-pair}
use Rattle.set_steps.proofs.arcs.ascend.Goals as goal

pub arcs-preserved : goal.arcs-preserved
arcs-preserved c = λ k d less. elim (cases_lt (k + 1) c.arcs.place) [
  | inl before ↦ c.arcs.invariant k d before
  | inr here ↦ next-pair (λ (a b : Label × Oid). arc_cmp a b ≡ Less) c.args.arcs.now c.arcs.place _ _ c.arcs-test.true (c.if-not-comes_before.ensures.0 refl) k d
      (omega (arith, here, less))
]

pub returns : goal.returns
returns c = ascend-from_next c.args.arcs.now (λ k d less. c.arcs.invariant k d (omega (arith, less, c.arcs-test.false)))
