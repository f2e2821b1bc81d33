-- The edges then are the kept ones without the removed and with the added.
use Rattle.std.proofs.Common.{◌≡◌, true, false, inl, inr, List, All}
use Rattle.std.proofs.Common.{Contains, refl, sym, ◌∙◌, subst}
use Rattle.std.proofs.lemmas.Bool.{true≢false}
use Rattle.lore_base.specs.Databases.{AreAscendingEdges}
use Rattle.lore_base.specs.ChangeSets.{AreEdgesThen, IsOverlay}
use Rattle.edge_layers.specs.Types.{Edge, Changes}
use Rattle.edge_layers.specs.EdgeTests.{is_listed, AreFresh, AreLost}
use Rattle.edge_layers.specs.Layers.{layered}
use Rattle.edge_layers.proofs.SearchLaws.{listed, unlisted}
use Rattle.edge_layers.proofs.LayerLaws.{ascend-layered, members-layered}

module _ (kept : List Edge) (changes : Changes) (lost fresh : List Edge) (ascend : AreAscendingEdges kept) (gone : AreLost kept changes.removed lost) (new : AreFresh kept changes.added fresh)
    (apart : All (λ edge. Contains changes.removed edge → ⊥) changes.added) where
  not_lost : (edge : Edge) → Contains changes.added edge → Contains lost edge → ⊥
  not_lost edge added there = subst (λ (e : Edge). Contains changes.removed e → ⊥) added.2 (apart added.0 edge added.1) ((gone.members edge).0 there).0

  pub edges-layered : AreEdgesThen kept changes (layered kept lost fresh)
  edges-layered = record {
    ascend = ascend-layered kept lost fresh ascend;
    exact = λ edge.
        let whole = members-layered kept lost fresh edge in (
          λ at. elim (whole.0 at) [
            | inl stays ↦ inr (stays.0, λ removed. stays.1 ((gone.members edge).1 (removed, stays.0)))
            | inr come ↦ inl (new.come edge come).0
          ],
          λ then. whole.1 (elim then [
            | inl added ↦ elim (new.rest edge added) [ inl there ↦ inl (there, not_lost edge added) | inr come ↦ inr come ]
            | inr stays ↦ inl (stays.0, λ there. stays.1 ((gone.members edge).0 there).0)
          ]),
        );
  }

  pub overlay-layered : IsOverlay kept changes (layered kept lost fresh) lost fresh
  overlay-layered = record {
    linked = edges-layered;
    lost_ascend = gone.ascend;
    lost_exact = λ edge.
        let whole = members-layered kept lost fresh edge in (
          λ there. (((gone.members edge).0 there).1, λ at. elim (whole.0 at) [ inl stays ↦ stays.1 there | inr come ↦ (new.come edge come).1 ((gone.members edge).0 there).1 ]),
          λ only. elim (is_listed lost edge) as (λ b. is_listed lost edge ≡ b → Contains lost edge) [
            | true ↦ λ yes. unlisted lost edge yes
            | false ↦ λ no. absurd (only.1 (whole.1 (inl (only.0, λ there. true≢false (sym (listed lost edge there) ∙ no)))))
          ] refl,
        );
    fresh_ascend = new.ascend;
    fresh_exact = λ edge.
        let whole = members-layered kept lost fresh edge in (
          λ come. (whole.1 (inr come), (new.come edge come).1),
          λ only. elim (whole.0 only.0) [ inl stays ↦ absurd (only.1 stays.0) | inr come ↦ come ],
        );
  }
