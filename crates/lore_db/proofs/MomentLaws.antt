-- Moments of a history by their numbers, and the refusal of a full one.
use Rattle.std.proofs.Common.{◌≡◌, ℕ, ◌≤◌, ◌<◌, inl, inr, [], ◌⊎◌, Option, Some, None, refl, ap, arith}
use Rattle.std.specs.Prelude.{ℤ, pos}
use Rattle.std.proofs.lemmas.Option.{slice_get_within, get_or_from_slice_get}
use Rattle.doem_history.specs.Types.{Refusal}
use Rattle.doem_history.specs.Types.refusals
use Rattle.doem_history.specs.Faults.{refusal_of}
use Rattle.doem_history.specs.declared.faults.HistoryFault.{HistoryFault}
use Rattle.doem_history.specs.declared.faults.HistoryFault.TheVariants as faults
use Rattle.doem_history.specs.Moments.{Moment, moment_of}
use Rattle.doem_history.specs.Histories.{KeptHistory, moment_at, moments_of}
use Rattle.doem_history.proofs.ViewLaws.{moment_told}
use Rattle.kept_history.proofs.MomentLaws.{count_moments}
use Rattle.lore_db.specs.States.{IsMoment, HasMoment, AreTwoMoments, objects_at}

-- a fault of a history says that it is full, or tells no refusal
pub full_or_none : (fault : HistoryFault) (told : Option Refusal) (Full : Type 0) → told ≡ refusal_of fault → (fault ≡ faults.Full → Full)
    → (told ≡ None) ⊎ ((told ≡ Some refusals.HistoryFull) × Full)
full_or_none faults.Full told Full is full = inr (is, full refl)
full_or_none faults.NoMemory told Full is full = inl is

-- a number up to that of the last moment is one of a moment
pub is_moment : (h : KeptHistory) (given : ℤ) (number : ℕ) → given ≡ pos number → number ≤ h.last
    → IsMoment (moments_of h) given number (moment_at h number)
is_moment h given number is within = (is, moment_told h number within)

-- and there is none of another number
pub within_moments : (h : KeptHistory) (given : ℤ) (number : ℕ) (moment : Moment) → IsMoment (moments_of h) given number moment → number ≤ h.last
within_moments h given number moment is =
    let below = slice_get_within (moments_of h) number moment is.1 in
    let count = count_moments h in
    omega (arith, below, count)

-- the objects of a moment
pub objects_of_moment : (h : KeptHistory) (number : ℕ) → number ≤ h.last → objects_at (Some (moments_of h)) number ≡ (moment_at h number).objects
objects_of_moment h number within =
    ap (λ (m : Moment). m.objects)
    (get_or_from_slice_get (moments_of h) number (moment_at h number) (moment_of [] [] []) (moment_told h number within))

pub no_moment : (h : KeptHistory) (given : ℤ) → ((number : ℕ) → given ≡ pos number → h.last < number) → HasMoment (moments_of h) given → ⊥
no_moment h given past has =
    let within = within_moments h given has.0 has.1 has.2 in
    let behind = past has.0 has.2.0 in
    absurd (omega (arith, within, behind))

pub no_moments : (h : KeptHistory) (first last : ℤ) → ((from to : ℕ) → first ≡ pos from → last ≡ pos to → from ≤ to → h.last < to)
    → AreTwoMoments (moments_of h) first last → ⊥
no_moments h first last past two =
    let within = within_moments h last two.to two.after two.last_is in
    let behind = past two.from two.to two.first_is.0 two.last_is.0 two.order in
    absurd (omega (arith, within, behind))
