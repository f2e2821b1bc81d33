-- What enters the children of cut edges then.
use Rattle.std.proofs.Common.{◌≡◌, ◌↔◌, ℕ, ◌+◌, ◌<◌, inl, inr, List, [], ◌∷◌, ◌++◌, take, length, get_or, Contains, sym, subst, arith}
use Rattle.std.proofs.lemmas.List.{take_more}
use Rattle.std.proofs.lemmas.List.Elements.{Contains-push, Contains-push_cases, Contains-append_left}
use Rattle.lore_base.specs.declared.edges.Oid.{Oid}
use Rattle.lore_base.specs.declared.edges.Edge.{Edge}
use Rattle.lore_base.specs.declared.values.Value.{Value}
use Rattle.lore_base.specs.Databases.{IsLive, AreAscendingEdges}
use Rattle.lore_base.proofs.MemberLaws.{Contains-none, Contains-same}
use Rattle.read_costs.specs.Entering.{AreEntering}
use Rattle.lore_store.specs.inside.Cuts.{AreLiving, AreCutLinks}

pub living-none : (objects : List (Oid × Value)) (edges living : List Edge) → edges ≡ [] → living ≡ []
    → AreLiving edges objects living
living-none objects edges living no_edges none edge = (
  λ at. absurd (Contains-none edge (subst (λ (l : List Edge). Contains l edge) none at)),
  λ both. absurd (Contains-none edge (subst (λ (l : List Edge). Contains l edge) no_edges both.0)),
)

module _ (objects : List (Oid × Value)) (edges : List Edge) (i : ℕ) (d : Edge) (living new : List Edge)
    (within : i < length edges) (are : AreLiving (take i edges) objects living) where
  abbrev x : Edge
  x = get_or edges i d

  longer : take (i + 1) edges ≡ take i edges ++ x ∷ []
  longer = take_more edges i d within

  pub living-more : new ≡ living ++ x ∷ [] → IsLive objects x.parent → AreLiving (take (i + 1) edges) objects new
  living-more is live =
      subst (λ (l : List Edge). AreLiving l objects new) (sym longer)
      (subst (λ (l : List Edge). AreLiving (take i edges ++ x ∷ []) objects l) (sym is) (λ edge. (
        λ at. elim (Contains-push_cases living x edge at) [
          | inl old ↦ (let both = (are edge).0 old in (Contains-append_left (take i edges) (x ∷ []) edge both.0, both.1))
          | inr same ↦ (
            Contains-same (take i edges ++ x ∷ []) x edge same (Contains-push (take i edges) x),
            subst (λ (e : Edge). IsLive objects e.parent) same live,
          )
        ],
        λ both. elim (Contains-push_cases (take i edges) x edge both.0) [
          | inl old ↦ Contains-append_left living (x ∷ []) edge ((are edge).1 (old, both.1))
          | inr same ↦ Contains-same (living ++ x ∷ []) x edge same (Contains-push living x)
        ],
      )))

  pub living-less : new ≡ living → (IsLive objects x.parent → ⊥) → AreLiving (take (i + 1) edges) objects new
  living-less is dead =
      subst (λ (l : List Edge). AreLiving l objects new) (sym longer)
      (subst (λ (l : List Edge). AreLiving (take i edges ++ x ∷ []) objects l) (sym is) (λ edge. (
        λ at. (let both = (are edge).0 at in (Contains-append_left (take i edges) (x ∷ []) edge both.0, both.1)),
        λ both. elim (Contains-push_cases (take i edges) x edge both.0) [
          | inl old ↦ (are edge).1 (old, both.1)
          | inr same ↦ absurd (dead (subst (λ (e : Edge). IsLive objects e.parent) (sym same) both.1))
        ],
      )))

pub links-cut : (edges : List Edge) (objects : List (Oid × Value)) (oids : List Oid) (read entering : List Edge)
    → AreEntering edges oids read → AreAscendingEdges entering → AreLiving read objects entering
    → AreCutLinks edges objects oids entering
links-cut edges objects oids read entering enters ascend living = record {
  ascend = ascend;
  exact = λ edge. (
    λ at. (let both = (living edge).0 at in ((enters.exact edge).0 both.0, both.1)),
    λ both. (living edge).1 ((enters.exact edge).1 both.0, both.1),
  );
}

pub links-none : (edges : List Edge) (objects : List (Oid × Value)) (oids : List Oid) (entering : List Edge) → oids ≡ []
    → entering ≡ [] → AreCutLinks edges objects oids entering
links-none edges objects oids entering no_oids none = subst (λ (l : List Edge). AreCutLinks edges objects oids l) (sym none) (record {
  ascend = λ i j d less within. absurd (omega (arith, within));
  exact = λ edge. (
    λ at. absurd (Contains-none edge at),
    λ both. absurd (Contains-none edge.child (subst (λ (l : List Oid). Contains l edge.child) no_oids both.0.1)),
  );
})
