-- What a path reaches from the object of its start, and the objects around a condition.
use Rattle.std.proofs.Common.{◌≡◌, ◌↔◌, List, Some, subst, sym, ap, ◌∙◌}
use Rattle.lore_base.specs.Paths.{Reaches}
use Rattle.lore_base.specs.TargetSets.{ListsInOrder}
use Rattle.lore_base.proofs.TargetLaws.{ListsInOrder-same}
use Rattle.lorel_bound.specs.Conditions.{CondOf}
use Rattle.lorel_bound.specs.SlotRows.{BoundStartsAt}
use Rattle.lorel_eval.specs.Types.{Oid, BoundStart}
use Rattle.lorel_eval.specs.Types.bound_starts
use Rattle.lorel_eval.specs.inside.Labelled.{LabelledPath}
use Rattle.lorel_eval.specs.inside.Subjects.{SlotsOver, start_of, ReachedIn, HoldsIn}

starts_at : (slots objects : List Oid) (start : BoundStart) (oid : Oid) → BoundStartsAt slots objects start oid ↔ (start_of slots objects start ≡ Some oid)
starts_at slots objects (bound_starts.Named own) oid = (λ h. ap (λ (o : Oid). Some o) h, λ h. cc)
starts_at slots objects (bound_starts.Slot slot) oid = (λ h. h, λ h. h)
starts_at slots objects (bound_starts.Quantified depth) oid = (λ h. h, λ h. h)

-- what the rest of a path reaches from the object of its start, the path reaches
pub reached_from : (over : SlotsOver) (objects : List Oid) (path : LabelledPath) (start : Oid) (found : List Oid)
    → Some start ≡ start_of over.slots objects path.start → ListsInOrder (Reaches path.labels over.edges path.rest start) found
    → ListsInOrder (ReachedIn over objects path) found
reached_from over objects path start found starts lists =
    ListsInOrder-same (Reaches path.labels over.edges path.rest start) (ReachedIn over objects path) found
    (λ oid. (
      λ h. (start, (starts_at over.slots objects path.start start).1 (sym starts), h),
      λ h.
          let there : start_of over.slots objects path.start ≡ Some h.0 = (starts_at over.slots objects path.start h.0).0 h.1 in
          let same : h.0 ≡ start = cc in
          subst (λ (from : Oid). Reaches path.labels over.edges path.rest from oid) same h.2,
    ))
    lists

-- equal objects around a condition are the same to it
pub holds_around : (over : SlotsOver) (cond : CondOf LabelledPath) (given within around : List Oid) → given ≡ within → within ≡ around
    → HoldsIn over given cond → HoldsIn over around cond
holds_around over cond given within around is made holds = subst (λ (objects : List Oid). HoldsIn over objects cond) (is ∙ made) holds
