-- The moments of a history are in order, and the one that stands last is the last moment.
use Rattle.std.proofs.Common.{◌≡◌, ◌+◌, ◌≤◌, ℕ, List, [], ◌∷◌, ◌++◌, length, get_or, sym, ap, ◌∙◌, subst, arith}
use Rattle.std.specs.List.{range_with_len}
use Rattle.std.proofs.lemmas.List.{get_or_push, length_push}
use Rattle.std.proofs.lemmas.List.FromFn.{get_or-map-range_with_len, length-map-range_with_len}
use Rattle.lore_base.specs.Walks.{edge_cmp}
use Rattle.lore_base.specs.Deltas.{ListsOnlyIn}
use Rattle.list_laws.proofs.MemberLaws.{All-from_members, Contains-from_map}
use Rattle.doem_history.specs.Types.{MOMENTS}
use Rattle.doem_history.specs.Facts.{name_order, object_order}
use Rattle.doem_history.specs.Moments.{Moment, IsInOrder}
use Rattle.doem_history.specs.Histories.{facts_at, ordered, KeptHistory, moment_at, last_moment, moments_of}
use Rattle.doem_history.specs.Laws.{AreMoments}
use Rattle.doem_history.specs.inside.FactLaws.{name_total, object_total, edge_total}
use Rattle.doem_history.proofs.OrderLaws.{ascend-ordered}
use Rattle.doem_history.proofs.DeltaLaws.{names_table, objects_rise}

pub in_order : (h : KeptHistory) (moment : ℕ) → IsInOrder (moment_at h moment)
in_order h moment =
    let names = facts_at moment h.names.runs in
    let objects = facts_at moment h.objects.runs in
    record {
      names = names_table (ordered name_order names) (ascend-ordered name_order name_total names);
      objects = objects_rise (ordered object_order objects) (ascend-ordered object_order object_total objects);
      edges = ascend-ordered edge_cmp edge_total (facts_at moment h.edges.runs);
    }

pub are_moments : (h : KeptHistory) → h.last ≤ MOMENTS → AreMoments (moments_of h)
are_moments h early =
    let long = length-map-range_with_len (moment_at h) 0 (h.last + 1) in
    record {
      ordered = All-from_members IsInOrder (moments_of h) (λ moment at.
          let from = Contains-from_map (moment_at h) (range_with_len 0 (h.last + 1)) moment at in
          subst IsInOrder from.2 (in_order h from.0));
      some = omega (arith, long);
      few = omega (arith, long, early);
    }

pub last_told : (h : KeptHistory) (earlier : List Moment) (moment : Moment) → moments_of h ≡ earlier ++ moment ∷ [] → last_moment h ≡ moment
last_told h earlier moment are =
    let long = length-map-range_with_len (moment_at h) 0 (h.last + 1) in
    let pushed = length_push earlier moment in
    let same = ap (λ (l : List Moment). length l) are in
    let last : length earlier ≡ h.last = omega (arith, long, pushed, same) in
    sym (get_or-map-range_with_len (moment_at h) 0 (h.last + 1) h.last h.last moment (omega arith) (omega arith))
    ∙ ap (λ (l : List Moment). get_or l h.last moment) are ∙ get_or_push earlier moment moment h.last last

pub only_as : {X : Type 0} (list xs ys items others : List X) → xs ≡ items → ys ≡ others → ListsOnlyIn list xs ys → ListsOnlyIn list items others
only_as {X} list xs ys items others is also only =
    subst (λ (l : List X). ListsOnlyIn list l others) is (subst (λ (l : List X). ListsOnlyIn list xs l) also only)
