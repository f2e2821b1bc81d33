use Rattle.std.proofs.Common.{◌≡◌, ◌+◌, ◌<◌, ℕ, ◌∷◌, ◌++◌, [], List, length, get_or, set, take, Option, Some, None, All, ap, ◌∙◌, sym, subst, arith, length-set}
use Rattle.std.proofs.lemmas.List.{take_more, get_or_default}
use Rattle.block_haste.specs.inside.Marking.{Change, mix, stands, AreMarkedBy}
use Rattle.block_haste.specs.inside.Hastening.{IsTouchedBy}
use Rattle.block_haste.proofs.MarkLaws.{AreMarkedBy-more, AreTouched-more, touched_within}
use Rattle.block_haste.proofs.marking.mark_touched.Goals as goal

pub events-preserved : goal.events-preserved
events-preserved c =
    let events = c.args.events.now in
    let event : ℕ × Change = get_or events c.events.event-index (0, (0, 0, 0)) in
    let still = stands c.args.tally.now in
    let marks = c.events.marks.items in
    let front = take c.events.event-index events in
    let more : take (c.events.event-index + 1) events ≡ front ++ event ∷ [] = take_more events c.events.event-index (0, (0, 0, 0)) c.events-test.true in
    let low = c.requires.within c.events.event-index (0, (0, 0, 0)) c.events-test.true in
    let within : event.0 < length marks = omega (arith, low, c.events.invariant.every) in
    let read : c.index-mark.result.now ≡ get_or marks event.0 None =
    c.index-mark.ensures ∙ get_or_default marks event.0 c.index-mark.result.now None within in
    let value : c.mixed.result ≡ mix (get_or marks event.0 None) event.1 (still (event.0, event.1.0, event.1.1)) =
    c.mixed.ensures ∙ ap (λ b. mix c.index-mark.result.now event.1 b) c.has-still.ensures.stands
    ∙ ap (λ (m : Option ℕ). mix m event.1 (still (event.0, event.1.0, event.1.1))) read in
    let touch =
    subst (λ (m : Option ℕ). IsTouchedBy event.0 m c.events.touched.items c.touch.new.touched.items) read c.in_ok-touch.ensures in
    record {
      every = length-set marks event.0 (Some c.mixed.result) ∙ c.events.invariant.every;
      marks = subst (λ (l : List (ℕ × Change)). AreMarkedBy still l (set marks event.0 (Some c.mixed.result))) (sym more)
          (subst (λ (m : ℕ). AreMarkedBy still (front ++ event ∷ []) (set marks event.0 (Some m))) (sym value)
          (AreMarkedBy-more still front event marks within c.events.invariant.marks));
      touched = AreTouched-more marks c.events.touched.items c.touch.new.touched.items event.0 (Some c.mixed.result) touch c.events.invariant.touched;
      within = touched_within (length c.args.marks.now.items) c.events.touched.items c.touch.new.touched.items event.0 (get_or marks event.0 None)
          low touch c.events.invariant.within;
    }
