-- A bound select has one list of steps of each kind, and one pair of counts.
use Rattle.std.proofs.Common.{◌≡◌, ◌≢◌, ℕ, inl, inr, List, length, AllPairs, Option, Some, None, refl, sym, ap, subst, ◌∙◌}
use Rattle.lore_base.specs.Paths.{PathTree, Reaches}
use Rattle.lore_base.proofs.TargetLaws.{ListsInOrder-unique}
use Rattle.list_laws.proofs.PlaceLaws.{one_place}
use Rattle.lorel_bound.specs.Bound.{BoundTree}
use Rattle.lorel_bound.specs.Plans.{Probe, IsLabelOf, IsCandidate, path_to, bottom_steps, tests}
use Rattle.planner.specs.Types.{Oid, Label, ValueEntry}
use Rattle.planner.specs.Types.plan_kinds
use Rattle.planner.specs.Choices.{IsGivenCount, AreCounted}
use Rattle.planner.specs.Laws.{HasOnePlan, HasOneCount}
use Rattle.planner.proofs.TakenLaws.{begins_once}

label_once : (labels : List (List ℕ)) → AllPairs (λ a b. a ≢ b) labels → (text : List ℕ) (a b : Option Label)
    → IsLabelOf labels text a → IsLabelOf labels text b → a ≡ b
label_once labels distinct text None None none too = refl
label_once labels distinct text None (Some b) none is = absurd (none b is)
label_once labels distinct text (Some a) None is none = absurd (none a is)
label_once labels distinct text (Some a) (Some b) is too =
    let same : a.0 ≡ b.0 = one_place labels distinct a.0 b.0 text is too in
    λ i. Some (record { 0 = same i })

-- what two bottom plans begin from is the same
label_of_one : (labels : List (List ℕ)) → AllPairs (λ a b. a ≢ b) labels → (probe other : Probe) (a b : Option Label) → probe ≡ other
    → IsLabelOf labels probe.label a → IsLabelOf labels other.label b → a ≡ b
label_of_one labels distinct probe other a b same is too =
    label_once labels distinct probe.label a b is (subst (λ (p : Probe). IsLabelOf labels p.label b) (sym same) too)

pub has_one_plan : HasOnePlan
has_one_plan labels bound plan_kinds.Top steps others distinct are too = are ∙ sym too
has_one_plan labels bound plan_kinds.Guided steps others distinct are too = are ∙ sym too
has_one_plan labels bound plan_kinds.Bottom steps others distinct are too =
    let begins = begins_once bound are.named too.named are.probe too.probe are.can too.can in
    let label = label_of_one labels distinct are.probe too.probe are.label too.label begins.1 are.labelled too.labelled in
    are.are ∙ (λ i. bottom_steps (begins.0 i) (begins.1 i) (label i) bound.ranges (tests bound.cond)) ∙ sym too.are

-- ---- counts
given_once : (P : Oid → Type 0) (a b : Option ℕ) → IsGivenCount P a → IsGivenCount P b → a ≡ b
given_once P a b given too =
    let oids = ListsInOrder-unique P given.2.0 too.2.0 given.2.1 too.2.1 in
    given.1 ∙ ap Some (given.2.2 ∙ ap length oids ∙ sym too.2.2) ∙ sym too.1

counted_once : (labels : List (List ℕ)) → AllPairs (λ a b. a ≢ b) labels
    → (entries : List ValueEntry) (Reached : PathTree → Oid → Oid → Type 0) (bound : BoundTree) (candidates found other others : Option ℕ)
    → AreCounted labels entries Reached bound candidates found → AreCounted labels entries Reached bound other others
    → (candidates ≡ other) × (found ≡ others)
counted_once labels distinct entries Reached bound candidates found other others are too =
    let begins = begins_once bound are.named too.named are.probe too.probe are.can too.can in
    let label = label_of_one labels distinct are.probe too.probe are.label too.label begins.1 are.labelled too.labelled in
    let asked : IsGivenCount (IsCandidate entries too.label too.probe.op too.probe.value) candidates =
    subst (λ (l : Option Label). IsGivenCount (IsCandidate entries l too.probe.op too.probe.value) candidates) label
    (subst (λ (p : Probe). IsGivenCount (IsCandidate entries are.label p.op p.value) candidates) begins.1 are.asked) in
    let reached : IsGivenCount (Reached (path_to bound too.probe) too.named) found =
    subst (λ (n : Oid). IsGivenCount (Reached (path_to bound too.probe) n) found) begins.0
    (subst (λ (p : Probe). IsGivenCount (Reached (path_to bound p) are.named) found) begins.1 are.reached) in (
      given_once (IsCandidate entries too.label too.probe.op too.probe.value) candidates other asked too.asked,
      given_once (Reached (path_to bound too.probe) too.named) found others reached too.reached,
    )

pub has_one_count : HasOneCount
has_one_count labels edges entries bound candidates found other others distinct (inl are) (inl too) =
    counted_once labels distinct entries (Reaches labels edges) bound candidates found other others are too
has_one_count labels edges entries bound candidates found other others distinct (inl are) (inr none) =
    absurd (none.0 are.named are.probe are.can)
has_one_count labels edges entries bound candidates found other others distinct (inr none) (inl too) =
    absurd (none.0 too.named too.probe too.can)
has_one_count labels edges entries bound candidates found other others distinct (inr none) (inr too) =
    (none.1 ∙ sym too.1, none.2 ∙ sym too.2)
