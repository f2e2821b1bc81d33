-- Targets are entered one after another.
use Rattle.std.proofs.Common.{◌≡◌, ℕ, List, [], ◌∷◌, ◌++◌, length, All, Contains, refl, sym, ap, ◌∙◌, subst, arith}
use Rattle.std.proofs.lemmas.List.{map_push, map-append, append-nil}
use Rattle.std.proofs.lemmas.List.Elements.{All-contains, Contains-append_right}
use Rattle.set_explorer.specs.Types.{Oid, Node, GuideNode, Origin, GuideFault, Nodes, Cells, NoMemory}
use Rattle.set_explorer.specs.declared.found.Found.{Found}
use Rattle.set_explorer.specs.Nodes.{HasSet}
use Rattle.set_explorer.specs.PlannedNodes.{origin_set, IsOrigin}
use Rattle.lore_base.specs.GuideLimits.{KeepLimits}
use Rattle.set_explorer.specs.inside.Entering.{AreEntered}
use Rattle.set_explorer.specs.inside.Founds.{IsFound, found_nodes, found_sets, Stops, AreStopped, target_sets, Enters}
use Rattle.set_explorer.specs.inside.Founds.{EntersAll}
use Rattle.lore_base.proofs.MemberLaws.{Contains-head}
use Rattle.list_laws.proofs.PlaceLaws.{Extends-trans}
use Rattle.set_steps.proofs.PlaceLaws.{AllZip-then, AllZip-weaker}
use Rattle.set_explorer.proofs.EnteredLaws.{AreEntered-push}
use Rattle.set_explorer.proofs.SearchedLaws.{set-extends}

-- the first targets were entered
pub record IsEntering {K : Type 0} (kept : List GuideNode) (limit : ℕ) (old : Found)
    (targets done rest : List (K × Origin))
    (row : List (K × Node)) (now : Found) : Type 0 where
  pub all : EntersAll kept limit old done row now
  pub whole : done ++ rest ≡ targets

abbrev pub Placed : {K : Type 0} → List GuideNode → List GuideNode → K × Origin → K × Node → Type 0
Placed kept nodes target edge = (edge.0 ≡ target.0) × HasSet nodes edge.1 (origin_set kept target.1)

pub entering-start : {K : Type 0} (kept : List GuideNode) (limit : ℕ) (old : Found) (row : List (K × Node)) → row ≡ []
    → IsFound kept old → KeepLimits limit (found_sets kept old) → EntersAll {K = K} kept limit old [] row old
entering-start kept limit old row none is fit = record {
  found = is;
  fit = fit;
  entered = refl;
  placed = rw none tt;
  grown = ([], sym (append-nil (found_nodes kept old)));
}

pub entering-more : {K : Type 0} (kept : List GuideNode) (limit : ℕ) (old between new : Found)
    (done : List (K × Origin))
    (row : List (K × Node)) (key : K) (origin : Origin) (node : Node) → EntersAll kept limit old done row between
    → Enters kept limit between origin node new
    → EntersAll kept limit old (done ++ (key, origin) ∷ []) (row ++ (key, node) ∷ []) new
entering-more {K} kept limit old between new done row key origin node before one = record {
  found = one.found;
  fit = one.fit;
  entered = subst (λ (l : List (List Oid)). AreEntered (found_sets kept old) l (found_sets kept new))
      (sym (map_push (λ (t : K × Origin). origin_set kept t.1) done (key, origin)))
      (AreEntered-push (found_sets kept old) (target_sets kept done) (found_sets kept between) (origin_set kept origin)
      (found_sets kept new) before.entered one.entered);
  placed = AllZip-then (Placed kept (found_nodes kept new)) done row (key, origin) (key, node)
      (AllZip-weaker (Placed kept (found_nodes kept between)) (Placed kept (found_nodes kept new))
      (λ t e fits. (
        fits.0,
        set-extends (found_nodes kept between) (found_nodes kept new) e.1 (origin_set kept t.1)
            one.grown fits.1,
      ))
      done row before.placed) (refl, one.has);
  grown = Extends-trans (found_nodes kept old) (found_nodes kept between) (found_nodes kept new) before.grown one.grown;
}

pub entering-stopped : {K : Type 0} (kept : List GuideNode) (limit : ℕ) (old between : Found)
    (targets done others : List (K × Origin))
    (row : List (K × Node)) (key : K) (origin : Origin) (fault : GuideFault) → targets ≡ done ++ (key, origin) ∷ others
    → EntersAll kept limit old done row between
    → Stops fault limit (found_sets kept between) (origin_set kept origin)
    → AreStopped fault limit (found_sets kept old) (target_sets kept targets)
entering-stopped kept limit old between targets done others row key origin NoMemory is before stops = tt
entering-stopped {K} kept limit old between targets done others row key origin Nodes is before stops = record {
  done = target_sets kept done;
  next = origin_set kept origin;
  others = target_sets kept others;
  is = ap (target_sets kept) is ∙ map-append (λ (t : K × Origin). origin_set kept t.1) done ((key, origin) ∷ others);
  found = found_sets kept between;
  entered = before.entered;
  fresh = stops.0;
  fit = before.fit;
  passes = stops.1;
}
entering-stopped {K} kept limit old between targets done others row key origin Cells is before stops = record {
  done = target_sets kept done;
  next = origin_set kept origin;
  others = target_sets kept others;
  is = ap (target_sets kept) is ∙ map-append (λ (t : K × Origin). origin_set kept t.1) done ((key, origin) ∷ others);
  found = found_sets kept between;
  entered = before.entered;
  fresh = stops.0;
  fit = before.fit;
  passes = stops.1;
}

pub none-left : {X : Type 0} (xs : List X) → length xs ≡ 0 → [] ≡ xs
none-left [] none = refl
none-left (x ∷ xs) none = absurd (omega (arith, none))

pub target-there : {K : Type 0} (kept : List GuideNode) (targets done others : List (K × Origin)) (key : K)
    (origin : Origin)
    → targets ≡ done ++ (key, origin) ∷ others → All (λ target. IsOrigin kept target.1) targets → IsOrigin kept origin
target-there {K} kept targets done others key origin is all =
    All-contains (λ (t : K × Origin). IsOrigin kept t.1) targets (key, origin) all
    (subst (λ (l : List (K × Origin)). Contains l (key, origin)) (sym is)
    (Contains-append_right done ((key, origin) ∷ others) (key, origin) (Contains-head (key, origin) others)))
