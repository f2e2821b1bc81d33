-- The last moment of a history, and what leads on from it.
use Rattle.std.proofs.Common.{◌≡◌, ℕ, ◌+◌, List, [], ◌∷◌, ◌++◌, length, sym, ap, ◌∙◌, subst, arith}
use Rattle.std.specs.List.{slice_get}
use Rattle.std.proofs.lemmas.List.{length-append}
use Rattle.std.proofs.lemmas.List.FromFn.{length-map-range_with_len}
use Rattle.std.proofs.lemmas.Option.{same_Some}
use Rattle.list_laws.proofs.PlaceLaws.{slice_get-push}
use Rattle.lore_base.specs.Databases.{Database, OemGraph, IsOrdered}
use Rattle.lore_base.specs.Deltas.{IsDelta}
use Rattle.doem_history.specs.Types.{Delta}
use Rattle.doem_history.specs.Moments.{Moment, moment_of, LeadsTo}
use Rattle.doem_history.specs.Histories.{KeptHistory, moment_at, last_moment, moments_of}
use Rattle.doem_history.proofs.DeltaLaws.{leads_by_graphs}
use Rattle.doem_history.proofs.ViewLaws.{moment_told}
use Rattle.kept_history.specs.Kept.{present}

-- there is one moment more than the number of the last
pub count_moments : (h : KeptHistory) → length (moments_of h) ≡ h.last + 1
count_moments h = length-map-range_with_len (moment_at h) 0 (h.last + 1)

-- the last moment is the one that stands behind all others
pub last_is : (h : KeptHistory) (earlier : List Moment) (after : Moment) → moments_of h ≡ earlier ++ after ∷ [] → last_moment h ≡ after
last_is h earlier after is =
    let count = count_moments h in
    let long : length (moments_of h) ≡ length earlier + 1 = ap (λ (l : List Moment). length l) is ∙ length-append earlier (after ∷ []) in
    let place : length earlier ≡ h.last = omega (arith, count, long) in
    same_Some (last_moment h) after
    (sym (moment_told h h.last (omega arith)) ∙ ap (λ (l : List Moment). slice_get l h.last) is
    ∙ ap (λ (n : ℕ). slice_get (earlier ++ after ∷ []) n) (sym place) ∙ slice_get-push earlier after)

-- what a change makes of the graph leads on from the last moment
pub leads_on : (h : KeptHistory) (before : Database) (after : OemGraph) (delta : Delta) → last_moment h ≡ present before → IsDelta before.graph after delta
    → IsOrdered after → LeadsTo (last_moment h) (moment_of after.names after.objects after.edges) delta
leads_on h before after delta last differ ordered =
    subst (λ (m : Moment). LeadsTo m (moment_of after.names after.objects after.edges) delta) (sym last)
    (leads_by_graphs before.graph after delta differ ordered)
