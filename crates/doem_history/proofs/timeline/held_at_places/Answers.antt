use Rattle.std.proofs.Common.{◌∙◌, ap, refl, Vec}
use Rattle.doem_history.proofs.StretchLaws.{held_on, held_past}
use Rattle.doem_history.proofs.timeline.held_at_places.Goals as goal
use Rattle.doem_history.proofs.timeline.held_at_places.Goals.{then-holds+in_ok-copied+in_ok-push, else-holds}

pub places-preserved : goal.places-preserved
places-preserved g c = elim c.if-holds.branch [
  | then-holds+in_ok-copied+in_ok-push w ↦ held_on c.args.runs.now c.args.places.now c.args.moment c.places.place-index _ 0 c.index-runs-at.result c.places.facts.items c.places.invariant
      c.places-test.true refl (c.requires c.places.place-index 0 c.places-test.true) c.index-runs-at.is _ _ c.holds.result c.holds.ensures.test w.if-holds.true w.in_ok-copied.ensures
      (ap (λ (v : Vec _ _). v.items) w.facts-is ∙ w.in_ok-push.ensures.items)
  | else-holds w ↦ ap (λ (v : Vec _ _). v.items) w.facts-is ∙ held_past c.args.runs.now c.args.places.now c.args.moment c.places.place-index _ 0 c.index-runs-at.result c.places.facts.items c.places.invariant
      c.places-test.true refl (c.requires c.places.place-index 0 c.places-test.true) c.index-runs-at.is c.holds.result c.holds.ensures.test w.if-holds.false
]
