use Rattle.std.proofs.Common.{◌≢◌, ◌∙◌, true≢false, refl, sym, subst, All}
use Rattle.std.proofs.lemmas.List.{take_all}
use Rattle.lorel_ranges.specs.Views.{place_tree}
use Rattle.lorel_bind.proofs.SlotLaws.{All-read, slot_read, no_slot}
use Rattle.lorel_bind.proofs.slots.Slots.slot.Goals as goal

pub returns-then-same_place : goal.returns-then-same_place
returns-then-same_place c there =
    slot_read c.args.self.now.fused.items c.deref-range-items.result.now c.fused.slot c.range-item.result (place_tree c.args.place)
    c.deref-range-items.ensures.value c.fused-test.true c.range-item.is (c.if-same_place.ensures.0 refl)

pub fused-preserved : goal.fused-preserved
fused-preserved c =
    All-read (λ range. place_tree range.place ≢ place_tree c.args.place) c.deref-range-items.result.now c.fused.slot c.range-item.result
    c.fused-test.true c.range-item.is c.fused.invariant (λ same. true≢false (sym (c.if-same_place.ensures.1 same)))

pub returns : goal.returns
returns c there =
    let all = take_all c.fused.slot c.deref-range-items.result.now c.fused-test.false in
    absurd (no_slot c.args.self.now.fused.items (place_tree c.args.place)
    (subst (All (λ range. place_tree range.place ≢ place_tree c.args.place)) (all ∙ c.deref-range-items.ensures.value) c.fused.invariant) there)
