-- What is within the work of some changes is within that of others which are the same, save how often and in which order
-- they list edges.
use Rattle.std.proofs.Common.{◌≡◌, inl, inr, ℕ, List, Contains, sym, subst}
use Rattle.std.proofs.lemmas.List.Elements.{All-weaker}
use Rattle.lore_base.specs.declared.edges.Oid.{Oid}
use Rattle.lore_base.specs.declared.edges.Edge.{Edge}
use Rattle.lore_base.specs.declared.values.Value.{Value}
use Rattle.lore_base.specs.Databases.{OemGraph, IsLive}
use Rattle.lore_base.specs.ChangeSets.{AreSame, IsRenamed, IsBound, IsGraphAfter}
use Rattle.oem_changes.proofs.DeterminedLaws.{one_between}
use Rattle.oem_changes.proofs.SameLaws.{AreEdgesThen-same, IsGraphAfter-same}
use Rattle.read_costs.specs.Concerned.{IsCut, IsListed, IsDirty, IsNear, IsConcerned, IsTouched}
use Rattle.read_costs.specs.Work.{IsWithinWork}
use Rattle.lore_store.specs.Types.{Changes}
use Rattle.lore_store.specs.Reads.{ReadsWithinWork}

module _ (first second : Changes) (same : AreSame first second) where
  listed : (edge : Edge) → IsListed first edge → IsListed second edge
  listed edge (inl added) = inl ((same.added edge).1 added)
  listed edge (inr removed) = inr ((same.removed edge).1 removed)

  dirty : (oid : Oid) → IsDirty first oid → IsDirty second oid
  dirty oid from = (from.0, listed from.0 from.1, from.2)

  renamed : (name : List ℕ) → IsRenamed first name → IsRenamed second name
  renamed name (inl bound) = inl (subst (λ (l : List (List ℕ × Oid)). IsBound l name) (sym same.named) bound)
  renamed name (inr gone) = inr (subst (λ (l : List (List ℕ)). Contains l name) (sym same.unnamed) gone)

  near : (oid : Oid) → IsNear first oid → IsNear second oid
  near oid (inl child) = inl (child.0, listed child.0 child.1, child.2)
  near oid (inr (inl made)) = inr (inl (subst (λ (l : List (Oid × Value)). IsLive l oid) (sym same.made) made))
  near oid (inr (inr given)) = inr (inr (subst (λ (l : List (Oid × Value)). IsLive l oid) (sym same.values) given))

  module _ (before : OemGraph) where
    cut : (between : List Edge) (oid : Oid) → IsCut before first between oid → IsCut before second between oid
    cut between oid (inl child) = inl child
    cut between oid (inr named) = inr (named.0, named.1, renamed named.0 named.2)

    concerned : (between : List Edge) (oid : Oid) → IsConcerned before first between oid → IsConcerned before second between oid
    concerned between oid (inl below) = inl (below.0, below.1, cut between below.0 below.2, below.3)
    concerned between oid (inr by) = inr (near oid by)

    touched : (after : OemGraph) (set : List Oid) → IsTouched before first after set → IsTouched before second after set
    touched after set (led, inl new) = (led, inl new)
    touched after set (led, inr member) = (led, inr (member.0, member.1, dirty member.0 member.2))

    within : (between : List Edge) (after : OemGraph) (old now : ℕ) → IsWithinWork 4 before first between after old now
        → IsWithinWork 4 before second between after old now
    within between after old now is = record {
      sets = is.sets;
      sets_apart = is.sets_apart;
      touched = All-weaker (IsTouched before first after) (IsTouched before second after) (touched after) is.sets is.touched;
      oids = is.oids;
      oids_apart = is.oids_apart;
      concerned = All-weaker (IsConcerned before first between) (IsConcerned before second between) (concerned between) is.oids is.concerned;
      within = is.within;
    }

    pub reads_within-same : (old now : ℕ) → ReadsWithinWork before first old now → ReadsWithinWork before second old now
    reads_within-same old now reads =
        let after = reads.0 in
        let leads = reads.1 in
        let leads_too : IsGraphAfter before second after = IsGraphAfter-same first second same before after leads in
        let is : leads.between ≡ leads_too.between =
        one_between before.edges second leads.between leads_too.between
        (AreEdgesThen-same first second same before.edges leads.between leads.linked) leads_too.linked in
        (after, leads_too, subst (λ (l : List Edge). IsWithinWork 4 before second l after old now) is (within leads.between after old now reads.2))
