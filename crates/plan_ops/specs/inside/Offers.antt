-- What one step makes of a row.
use Rattle.std.specs.Prelude.{◌≡◌, ◌≢◌, ◌↔◌, ℕ, ◌<◌, ◌^◌, ◌⊎◌, Bool, true, false, List, [], ◌∷◌, ◌++◌, length, map, reverse, drop, Some, AllPairs, Contains, slice_get, slice_set}
use Rattle.lore_base.specs.TargetSets.{ListsInOrder}
use Rattle.lorel_bound.specs.Plans.{StepTree}
use Rattle.plan_ops.specs.Types.{Oid, RANGES, PartialRow}
use Rattle.plan_laws.specs.Steps.{StepsOver, Meets, Finishes, slot_of}
use Rattle.plan_ops.specs.declared.offers.Offer.{Offer}
pub use Rattle.plan_ops.specs.declared.offers.Offer.TheVariants.{Fill, Lend, One, Keep, Reject}

-- the other row is the same but in the slot that the step fills
pub record IsVariant (step : StepTree) (row other : List Oid) : Type 0 where
  pub eight : length other ≡ RANGES
  pub same : (slot : ℕ) → slot_of step ≢ Some slot → slice_get other slot ≡ slice_get row slot

-- the rows are exactly those that are the same but in the step's slot and that meet the step, each once
pub record AreOffered (over : StepsOver) (step : StepTree) (row : List Oid) (rows : List (List Oid)) : Type 0 where
  pub exact : (other : List Oid) → Contains rows other ↔ (IsVariant step row other × Meets over step other)
  pub apart : AllPairs (λ a b. a ≢ b) rows

-- no row finishes this one by these steps
abbrev pub IsHopeless : StepsOver → List StepTree → List Oid → Type 0
IsHopeless over later partial = (row : List Oid) → Finishes over later partial row → ⊥

-- the same rows, but for some that are hopeless before the later steps
pub record AreKept (over : StepsOver) (step : StepTree) (later : List StepTree) (row : List Oid)
    (rows : List (List Oid)) : Type 0 where
  pub sound : (other : List Oid) → Contains rows other → IsVariant step row other × Meets over step other
  pub complete : (other : List Oid) → IsVariant step row other → Meets over step other
      → Contains rows other ⊎ IsHopeless over later other
  pub apart : AllPairs (λ a b. a ≢ b) rows

-- the rows that an offer makes of a row
abbrev pub offered : Offer → List Oid → List (List Oid)
offered (Fill slot oids) row = map (slice_set row slot) oids
offered (Lend slot oids) row = map (slice_set row slot) oids.now
offered (One slot oid) row = slice_set row slot oid ∷ []
offered Keep row = row ∷ []
offered Reject row = []

-- what a test offers
abbrev pub tested : Bool → Offer
tested true = Keep
tested false = Reject

-- what one of an object that may be left out does
abbrev pub one_unless : Bool → ℕ → Oid → Offer
one_unless true slot oid = Reject
one_unless false slot oid = One slot oid

-- what an offer fills is a slot
abbrev pub FillsSlot : Offer → Type 0
FillsSlot (Fill slot oids) = slot < RANGES
FillsSlot (Lend slot oids) = slot < RANGES
FillsSlot (One slot oid) = slot < RANGES
FillsSlot Keep = Unit {0}
FillsSlot Reject = Unit {0}

-- its objects ascend
abbrev pub FillsInOrder : Offer → Type 0
FillsInOrder (Fill slot oids) = AllPairs (λ a b. a.0 < b.0) oids
FillsInOrder (Lend slot oids) = AllPairs (λ a b. a.0 < b.0) oids.now
FillsInOrder (One slot oid) = Unit {0}
FillsInOrder Keep = Unit {0}
FillsInOrder Reject = Unit {0}

-- and the slot is the step's
abbrev pub FillsItsSlot : StepTree → Offer → Type 0
FillsItsSlot step (Fill slot oids) = slot_of step ≡ Some slot
FillsItsSlot step (Lend slot oids) = slot_of step ≡ Some slot
FillsItsSlot step (One slot oid) = slot_of step ≡ Some slot
FillsItsSlot step Keep = Unit {0}
FillsItsSlot step Reject = Unit {0}

-- the offer puts these objects into the slot
abbrev pub HasObjects : Offer → ℕ → List Oid → Type 0
HasObjects (Fill own objects) slot oids = (own ≡ slot) × (objects ≡ oids)
HasObjects (Lend own objects) slot oids = (own ≡ slot) × (objects.now ≡ oids)
HasObjects (One own oid) slot oids = (own ≡ slot) × (oids ≡ oid ∷ [])
HasObjects Keep slot oids = ⊥
HasObjects Reject slot oids = ⊥

-- the offer puts these objects into the slot, and rejects the row where there are none
abbrev pub PutsAll : ℕ → List Oid → Offer → Type 0
PutsAll slot [] offer = offer ≡ Reject
PutsAll slot (oid ∷ oids) offer = HasObjects offer slot (oid ∷ oids)

-- the same of those that pass, in their order
abbrev pub PutsThose : (Oid → Type 0) → ℕ → Offer → Type 0
PutsThose Passes slot offer = (oids : List Oid) × ListsInOrder Passes oids × PutsAll slot oids offer

-- the offer is what the step makes of the row
pub record IsOffer (over : StepsOver) (step : StepTree) (row : List Oid) (offer : Offer) : Type 0 where
  pub fills : FillsSlot offer
  pub ordered : FillsInOrder offer
  pub own : FillsItsSlot step offer
  pub rows : AreOffered over step row (offered offer row)

-- the same, but for some hopeless rows
pub record IsKeptOffer (over : StepsOver) (step : StepTree) (later : List StepTree) (row : List Oid) (offer : Offer)
    : Type 0 where
  pub fills : FillsSlot offer
  pub rows : AreKept over step later row (offered offer row)

-- the offer is what the step at this place of a plan makes of the row
abbrev pub IsOfferAt : StepsOver → List StepTree → ℕ → List Oid → Offer → Type 0
IsOfferAt over steps at row offer =
    (step : StepTree) (later : List StepTree) → drop at steps ≡ step ∷ later → IsOffer over step row offer

-- the same, but for some hopeless rows
abbrev pub IsKeptAt : StepsOver → List StepTree → ℕ → List Oid → Offer → Type 0
IsKeptAt over steps at row offer =
    (step : StepTree) (later : List StepTree) → drop at steps ≡ step ∷ later → IsKeptOffer over step later row offer

-- a row before the step with this number
abbrev pub partial_at : ℕ → List Oid → PartialRow
partial_at step row = record { step = step; row = row }

-- the last partial row gave way to those that the offer makes of it, each before the step with this number
pub record IsReplaced (next : ℕ) (offer : Offer) (old new : List PartialRow) : Type 0 where
  pub front : List PartialRow
  pub last : PartialRow
  pub was : old ≡ front ++ last ∷ []
  pub is : new ≡ front ++ map (partial_at next) (reverse (offered offer last.row))
  pub few : length (offered offer last.row) < 2 ^ 64
