-- Edges without the fresh ones: those of an object, where there are no fresh ones, and where these are put in order.
use Rattle.std.proofs.Common.{◌≡◌, ◌↔◌, inl, inr, Bool, true, false, cond, not, List, [], ◌∷◌, Contains, refl, sym, ap, ◌∙◌}
use Rattle.std.specs.List.{filter}
use Rattle.lore_base.specs.Walks.{out_of}
use Rattle.lore_base.proofs.ToldLaws.{told_member, told_edge}
use Rattle.list_laws.proofs.PartLaws.{filter_all}
use Rattle.object_search.specs.EdgeTests.{is_edge_in}
use Rattle.object_search.proofs.EdgeLaws.{listed, not_listed}
use Rattle.oem_reach.specs.Types.{Oid, Edge}
use Rattle.oem_reach.specs.inside.Doubts.{old_of}

-- of two filters either may be the first
filter-swap : {X : Type 0} (p q : X → Bool) (xs : List X) → filter p (filter q xs) ≡ filter q (filter p xs)
filter-swap p q [] = refl
filter-swap {X} p q (x ∷ xs) = by (p x) (q x) refl refl (filter-swap p q xs)
  where
    by : (b c : Bool) → p x ≡ b → q x ≡ c → filter p (filter q xs) ≡ filter q (filter p xs)
        → filter p (cond (q x) (x ∷ filter q xs) (filter q xs)) ≡ filter q (cond (p x) (x ∷ filter p xs) (filter p xs))
    by true true first second both = rw (first, second, first) (ap (λ (l : List X). x ∷ l) both)
    by true false first second both = rw (first, second) both
    by false true first second both = rw (first, second, first) both
    by false false first second both = rw (first, second) both

pub old_out : (fresh edges : List Edge) (oid : Oid) → old_of fresh (out_of oid edges) ≡ out_of oid (old_of fresh edges)
old_out fresh edges oid = filter-swap _ _ edges

pub old_none : (fresh edges : List Edge) → fresh ≡ [] → edges ≡ old_of fresh edges
old_none fresh edges none = sym (ap (λ (l : List Edge). old_of l edges) none ∙ filter_all (λ edge. not (is_edge_in [] edge)) edges (λ k d within. refl))

tests_same : (some others : List Edge) → ((edge : Edge) → Contains some edge ↔ Contains others edge) → (edge : Edge)
    → is_edge_in some edge ≡ is_edge_in others edge
tests_same some others same edge = elim (told_member told_edge some edge) [
  | inl there ↦ listed some edge there ∙ sym (listed others edge ((same edge).0 there))
  | inr none ↦ not_listed some edge none ∙ sym (not_listed others edge (λ at. none ((same edge).1 at)))
]

pub old_same : (some others edges : List Edge) → ((edge : Edge) → Contains some edge ↔ Contains others edge)
    → old_of some edges ≡ old_of others edges
old_same some others edges same =
    let tests = tests_same some others same in
    λ i. filter (λ edge. not (tests edge i)) edges
