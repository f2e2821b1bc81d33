-- What the lists of a graph tell of its edges: how many they are, and which objects they leave.
use Rattle.std.proofs.Common.{◌≡◌, ◌⊎◌, ◌↔◌, ℕ, suc, ◌+◌, Bool, true, false, cond, Less, Equal, Greater, Option, Some, None, is_some, List, [], ◌∷◌, length, count_by, Contains, refl, sym, ap, ◌∙◌, inl, inr, subst, arith}
use Rattle.std.specs.BTreeSet.{insert_key}
use Rattle.std.specs.Ordering.{match_ordering}
use Rattle.std.proofs.lemmas.Bool.{true≢false}
use Rattle.std.proofs.lemmas.List.Sums.{sum_by-cons}
use Rattle.slab.specs.Slab.{Slab, get, slab_len}
use Rattle.near_links.specs.Links.{IsNearest}
use Rattle.near_links.specs.Slots.{listed, LiesIn}
use Rattle.near_links.proofs.LinkLaws.{leads_on}
use Rattle.near_links.proofs.AheadLaws.{none_some}
use Rattle.near_links.proofs.SlotLaws.{members}
use Rattle.lore_base.specs.Walks.{edge_cmp}
use Rattle.lore_base.specs.ChangeSets.{HasChildren}
use Rattle.lore_base.proofs.MemberLaws.{Contains-head, Contains-tail, Contains-same}
use Rattle.edge_lists.specs.Edges.{owner_of, Precedes}
use Rattle.edge_lists.specs.Records.{edge_in, HasEdge}
use Rattle.edge_lists.specs.Objects.{head_of}
use Rattle.edge_lists.specs.Chains.{StandsAt, AreChained}
use Rattle.edge_lists.specs.Views.{edges_of}
use Rattle.edge_lists.proofs.ChangeLaws.{once_at, none_waits}
use Rattle.edge_lists.proofs.EdgeLaws.{same_edge}
use Rattle.edge_lists.proofs.ViewLaws.{edges_lie}
use Rattle.edge_layers.specs.Types.{Oid, Side, Edge, Out, EdgeRecord, ObjectRecord}
use Rattle.edge_layers.specs.Lists.{AreLists}

length-inserted : (edges : List Edge) (edge : Edge) → (Contains edges edge → ⊥) → length (insert_key edge_cmp edges edge) ≡ length edges + 1
length-inserted [] edge new = refl
length-inserted (first ∷ edges) edge new =
    let rest = length-inserted edges edge (λ at. new (Contains-tail first edges edge at)) in
    elim (edge_cmp edge first) as (λ o. edge_cmp edge first ≡ o → length (match_ordering o (edge ∷ first ∷ edges) (first ∷ edges) (first ∷ insert_key edge_cmp edges edge)) ≡ length (first ∷ edges) + 1) [
      | Less ↦ λ less. omega arith
      | Equal ↦ λ same. absurd (new (Contains-same (first ∷ edges) first edge (sym (same_edge Out edge first same)) (Contains-head first edges)))
      | Greater ↦ λ greater. omega (arith, rest)
    ] refl

-- each record has an edge of its own, so there are as many edges as records
count-listed : (slots : List (Option EdgeRecord)) → ((j k : ℕ) (x : Edge) → LiesIn edge_in None slots j x → LiesIn edge_in None slots k x → j ≡ k)
    → length (listed edge_in edge_cmp slots) ≡ count_by is_some slots
count-listed [] once = refl
count-listed (None ∷ slots) once =
    let rest = count-listed slots (λ j k x at_j at_k. omega (arith, once (suc j) (suc k) x at_j at_k)) in
    let cons = sum_by-cons (λ (y : Option EdgeRecord). cond (is_some y) 1 0) None slots in
    omega (arith, rest, cons)
count-listed (Some r ∷ slots) once =
    let rest = count-listed slots (λ j k x at_j at_k. omega (arith, once (suc j) (suc k) x at_j at_k)) in
    let cons = sum_by-cons (λ (y : Option EdgeRecord). cond (is_some y) 1 0) (Some r) slots in
    let new : Contains (listed edge_in edge_cmp slots) r.edge → ⊥ = λ at.
    let lies = (members edge_in edge_cmp (same_edge Out) None refl slots r.edge).0 at in
    let same : 0 ≡ suc lies.0 = once 0 (suc lies.0) r.edge refl lies.1 in
    omega (arith, same) in
    omega (arith, rest, cons, length-inserted (listed edge_in edge_cmp slots) r.edge new)

pub count-edges : (objects : List ObjectRecord) (records : Slab EdgeRecord) → AreLists objects records → length (edges_of records) ≡ slab_len records
count-edges objects records lists = count-listed records.slots (λ j k x at_j at_k. once_at Out objects records lists.out x k at_k j at_j)

-- an object with a head has children
pub has-children : (objects : List ObjectRecord) (records : Slab EdgeRecord) → AreChained Out objects records [] → (oid : Oid) (told : Bool) → told ≡ is_some (head_of Out objects oid)
    → (told ≡ true) ↔ HasChildren (edges_of records) oid
has-children objects records chained oid told is = by_head (leads_on (head_of Out objects oid))
  where
    by_head : ((head_of Out objects oid ≡ None) ⊎ ((key : ℕ) × (head_of Out objects oid ≡ Some key))) → (told ≡ true) ↔ HasChildren (edges_of records) oid
    by_head (inl none) = (
      λ yes. absurd (true≢false (sym yes ∙ is ∙ ap is_some none)),
      λ has.
          let lies = (edges_lie records has.0).0 has.1 in
          let nothing = subst (λ (l : Option ℕ). IsNearest (StandsAt records []) (λ y. owner_of Out y ≡ oid) (Precedes Out) l) none (chained.heads oid) in
          absurd (nothing lies.0 has.0 (lies.1, none_waits lies.0) has.2),
    )
    by_head (inr some) =
        let near = subst (λ (l : Option ℕ). IsNearest (StandsAt records []) (λ y. owner_of Out y ≡ oid) (Precedes Out) l) some.1 (chained.heads oid) in
        (λ _. (near.0, (edges_lie records near.0).1 (some.0, near.1.0), near.2), λ _. is ∙ ap is_some some.1)

-- an object without a head has no edge in its list
pub no-edges : (side : Side) (objects : List ObjectRecord) (records : Slab EdgeRecord) → AreChained side objects records [] → (oid : Oid)
    → is_some (head_of side objects oid) ≡ false → (edge : Edge) → HasEdge records edge → owner_of side edge ≡ oid → ⊥
no-edges side objects records chained oid none edge has own = from_head (head_of side objects oid) (chained.heads oid) none
  where
    from_head : (head : Option ℕ) → IsNearest (StandsAt records []) (λ y. owner_of side y ≡ oid) (Precedes side) head → is_some head ≡ false → ⊥
    from_head None near is = near has.0 edge (has.1, none_waits has.0) own
    from_head (Some key) near is = true≢false is

-- no record, no list
pub empty-lists : (records : Slab EdgeRecord) → ((key : ℕ) → get records key ≡ None) → AreLists [] records
empty-lists records none = record {
  ascend = λ i j d lt len. absurd (omega (arith, len));
  out = record {
    ahead = λ key item at. absurd (none_some (sym (ap edge_in (none key)) ∙ at.0));
    back = λ key item at. absurd (none_some (sym (ap edge_in (none key)) ∙ at.0));
    heads = λ o key item at. absurd (none_some (sym (ap edge_in (none key)) ∙ at.0));
  };
  entering = record {
    ahead = λ key item at. absurd (none_some (sym (ap edge_in (none key)) ∙ at.0));
    back = λ key item at. absurd (none_some (sym (ap edge_in (none key)) ∙ at.0));
    heads = λ o key item at. absurd (none_some (sym (ap edge_in (none key)) ∙ at.0));
  };
}
