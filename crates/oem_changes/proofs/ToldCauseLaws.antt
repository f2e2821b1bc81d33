-- It can be told of each cause of a refusal of changes whether it applies.
use Rattle.std.proofs.Common.{◌≡◌, ◌≢◌, ℕ, ◌<◌, List, refl, subst}
use Rattle.std.specs.List.{Contains}
use Rattle.lore_base.specs.Databases.{OemGraph}
use Rattle.lore_base.specs.ChangeSets.{HasChildren, IsGraphAfter}
use Rattle.lore_base.specs.ChangeCauses.{AddsToAtom, HidesChildren, Outgrows}
use Rattle.oem_changes.specs.Types.{Oid, Edge, Value, Complex, Changes}
use Rattle.lore_base.proofs.ToldLaws.{IsTold, told_same, told_not, told_both, told_some, told_oid, told_below, told_complex}
use Rattle.oem_changes.proofs.DeterminedLaws.{one_after}

-- the object is the parent, and has an atomic value
abbrev IsAtomicParent : Edge → Oid × Value → Type 0
IsAtomicParent edge object = (object.0 ≡ edge.parent) × (object.1 ≢ Complex)

told_atomic_parent : (edge : Edge) (object : Oid × Value) → IsTold (IsAtomicParent edge object)
told_atomic_parent edge object = told_both (told_oid object.0 edge.parent) (told_not (told_complex object.1))

pub told_adds_to_atom : (graph : OemGraph) (changes : Changes) → IsTold (AddsToAtom graph changes)
told_adds_to_atom graph changes =
    told_same
    (λ h. record {
      edge = h.0;
      value = h.2.0.1;
      added = h.1;
      valued = subst (λ (oid : Oid). Contains graph.objects (oid, h.2.0.1)) h.2.2.0 h.2.1;
      atomic = h.2.2.1;
    })
    (λ (h : AddsToAtom graph changes). (h.edge, h.added, ((h.edge.parent, h.value), h.valued, (refl, h.atomic))))
    (told_some (λ edge. (object : Oid × Value) × Contains graph.objects object × IsAtomicParent edge object)
    (λ edge. told_some (IsAtomicParent edge) (told_atomic_parent edge) graph.objects) changes.added)

pub told_children : (edges : List Edge) (oid : Oid) → IsTold (HasChildren edges oid)
told_children edges oid = told_some (λ edge. edge.parent ≡ oid) (λ edge. told_oid edge.parent oid) edges

pub told_hides_children : (graph : OemGraph) (changes : Changes) → IsTold (HidesChildren graph changes)
told_hides_children graph changes =
    told_same
    (λ h. record { oid = h.0.0; value = h.0.1; valued = h.1; atomic = h.2.0; parent = h.2.1 })
    (λ (h : HidesChildren graph changes). ((h.oid, h.value), h.valued, (h.atomic, h.parent)))
    (told_some (λ (object : Oid × Value). (object.1 ≢ Complex) × HasChildren graph.edges object.0)
    (λ object. told_both (told_not (told_complex object.1)) (told_children graph.edges object.0)) changes.values)

-- where the changes leave a graph
pub told_outgrows : (graph : OemGraph) (changes : Changes) (count : OemGraph → ℕ) (limit : ℕ) (after : OemGraph)
    → IsGraphAfter graph changes after → IsTold (Outgrows graph changes count limit)
told_outgrows graph changes count limit after leaves =
    told_same
    (λ many. (after, leaves, many))
    (λ (h : Outgrows graph changes count limit). subst (λ (g : OemGraph). limit < count g)
    (one_after graph changes h.0 after h.1 leaves) h.2)
    (told_below limit (count after))
