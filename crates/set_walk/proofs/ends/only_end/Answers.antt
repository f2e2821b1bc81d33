use Rattle.std.proofs.Common.{◌++◌, ◌∷◌, [], take, true≢false, refl, sym, subst}
use Rattle.std.specs.Prelude.{MatchOption}
use Rattle.list_laws.proofs.PartLaws.{take_more_read}
use Rattle.set_walk.specs.inside.SetWalks.{NoneEnds, IsOnlyEnd}
use Rattle.set_walk.proofs.SetWalkLaws.{none-so-far, only-first, only-still}
use Rattle.set_walk.proofs.ends.only_end.Goals.{then-has+else-is_some, else-has}
use Rattle.set_walk.proofs.ends.only_end.Goals as goal

pub places-preserved : goal.places-preserved
places-preserved g c =
    let met = c.args.met.now in
    let place = c.place-item.result in
    let before = take c.places.place-index met in
    subst (λ l. MatchOption c.if-has.only (NoneEnds l) (IsOnlyEnd l))
    (sym (take_more_read met c.places.place-index place c.places-test.true c.place-item.is))
    (elim c.if-has.branch [
      | then-has+else-is_some w ↦
          let is : NoneEnds before = none-so-far before c.places.only w.if-is_some.ensures c.places.invariant in
          subst (λ o. MatchOption o (NoneEnds (before ++ place ∷ [])) (IsOnlyEnd (before ++ place ∷ [])))
          (sym w.only-is) (only-first before place is (w.if-has.ensures.0 refl))
      | else-has w ↦
          subst (λ o. MatchOption o (NoneEnds (before ++ place ∷ [])) (IsOnlyEnd (before ++ place ∷ [])))
          (sym w.only-is)
          (only-still before place c.places.only (λ ends. true≢false (sym (w.if-has.ensures.1 ends))) c.places.invariant)
    ])
